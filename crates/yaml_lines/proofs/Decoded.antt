-- What the characters of bytes are, and why bytes have none, from the tests that the code makes.
use Rattle.std.proofs.Common.{◌≡◌, ℕ, ◌<◌, ◌≤◌, Bool, true, false, cond, ltb, List, [], length, take, Option, Some, None, refl, sym, ap, ◌∙◌}
use Rattle.std.proofs.lemmas.Bool.{lt-ltb, le-ltb}
use Rattle.std.proofs.lemmas.Str.{IsUtf8-from_is_utf8, is_utf8-from_IsUtf8}
use Rattle.std.specs.Str.{chars, is_utf8, IsUtf8}
use Rattle.std.specs.Str.Lossy.{utf8_valid_len}
use Rattle.yaml_lines.specs.Characters.{characters_of, most_bytes, without_mark}
use Rattle.yaml_lines.specs.Faults.{fault_of_bytes, line_behind}
use Rattle.yaml_lines.specs.declared.fault.YamlFault.{YamlFault}
use Rattle.yaml_lines.specs.declared.fault.YamlKind.TheVariants.{NotUtf8, TooLarge}

-- what the bytes give if there aren't too many
abbrev decoded : Bool → List ℕ → Option (List ℕ)
decoded utf8 bytes = cond utf8 (Some (without_mark (chars bytes))) None

pub characters_of-large : (bytes : List ℕ) → most_bytes < length bytes → characters_of bytes ≡ None
unfolding characters_of
characters_of-large bytes h = ap (λ (b : Bool). cond b None (decoded (is_utf8 bytes) bytes)) (lt-ltb most_bytes (length bytes) h)

not_utf8 : (b : Bool) (bytes : List ℕ) → is_utf8 bytes ≡ b → (IsUtf8 bytes → ⊥) → b ≡ false
not_utf8 true bytes e h = absurd (h (IsUtf8-from_is_utf8 bytes e))
not_utf8 false bytes e h = refl

none_left : (b : Bool) → cond b None (decoded false []) ≡ None
none_left true = refl
none_left false = refl

pub characters_of-bad : (bytes : List ℕ) → (IsUtf8 bytes → ⊥) → characters_of bytes ≡ None
unfolding characters_of
characters_of-bad bytes h =
    ap (λ (b : Bool). cond (ltb most_bytes (length bytes)) None (decoded b bytes)) (not_utf8 (is_utf8 bytes) bytes refl h) ∙ none_left (ltb most_bytes (length bytes))

pub characters_of-good : (bytes : List ℕ) → length bytes ≤ most_bytes → IsUtf8 bytes → characters_of bytes ≡ Some (without_mark (chars bytes))
unfolding characters_of
characters_of-good bytes few h =
    ap (λ (b : Bool). cond b None (decoded (is_utf8 bytes) bytes)) (le-ltb most_bytes (length bytes) few) ∙ ap (λ (b : Bool). decoded b bytes) (is_utf8-from_IsUtf8 bytes h)

-- the front of the bytes that is UTF-8, and the line after it
pub record Front (bytes : List ℕ) (at line : ℕ) : Type 0 where
  pub longest : at ≡ utf8_valid_len bytes
  pub behind : line ≡ line_behind (take at bytes)

abbrev bad_in : ℕ → Option YamlFault
bad_in line = Some (record { kind = NotUtf8; line = line })

pub fault_of_bytes-bad : (bytes : List ℕ) (at line : ℕ) → length bytes ≤ most_bytes → (IsUtf8 bytes → ⊥) → Front bytes at line → fault_of_bytes bytes ≡ Some (record { kind = NotUtf8; line = line })
fault_of_bytes-bad bytes at line few bad front =
    let large : Option YamlFault = Some (record { kind = TooLarge; line = 1 }) in
    let found : Option YamlFault = bad_in (line_behind (take (utf8_valid_len bytes) bytes)) in
    ap (λ (b : Bool). cond b large (cond (is_utf8 bytes) None found)) (le-ltb most_bytes (length bytes) few)
    ∙ (ap (λ (b : Bool). cond b None found) (not_utf8 (is_utf8 bytes) bytes refl bad)
    ∙ ap bad_in (ap (λ (n : ℕ). line_behind (take n bytes)) (sym front.longest) ∙ sym front.behind))
