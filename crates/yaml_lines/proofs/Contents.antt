-- What a content is, from the tests that the code makes of it.
use Rattle.std.proofs.Common.{◌≡◌, ℕ, ◌+◌, ◌<◌, ◌≤◌, Bool, true, false, cond, ◌&&◌, List, [], ◌∷◌, length, take, drop, Option, Some, None, is_none, is_some, MatchOption, refl, sym, ap, ◌∙◌, arith}
use Rattle.std.specs.List.{prefix_len, list_all}
use Rattle.std.specs.Str.{encode_utf8_all}
use Rattle.yaml_lines.specs.Plain.{begins_plain, plain_of, Sides, sides_of, trim_end, uncommented}
use Rattle.yaml_lines.specs.Characters.{is_blank, is_space}
use Rattle.yaml_lines.specs.Entries.{ContentLine, is_item, rest_behind, rest_of, item_of}

-- an item holds its dash
pub is_item-length : (content : List ℕ) → is_item content ≡ true → 1 ≤ length content
unfolding is_item
is_item-length [] h = cc
is_item-length (c ∷ cs) h = omega arith

-- what stands after the dash and the blanks, by the code's slices
pub record Behind (p : ContentLine) (found rest blanks follows : List ℕ) (n : ℕ) : Type 0 where
  pub same : found ≡ p.content
  pub behind : rest ≡ drop 1 found
  pub counted : n ≡ prefix_len is_blank rest
  pub follow : follows ≡ drop n rest

pub item_of-behind : (p : ContentLine) (found rest blanks follows : List ℕ) (n : ℕ) → Behind p found rest blanks follows n → blanks ≡ take n rest
    → item_of p ≡ rest_behind (p.indent + 1 + n) p.block (list_all is_space blanks) follows
unfolding item_of rest_of
item_of-behind p found rest blanks follows n b t =
    let is : rest ≡ drop 1 p.content = b.behind ∙ ap (λ (cs : List ℕ). drop 1 cs) b.same in
    let f : ℕ → List ℕ → Option (List ContentLine) = λ k cs. rest_behind (p.indent + 1 + k) p.block (list_all is_space (take k cs)) (drop k cs) in
    ap (f (prefix_len is_blank (drop 1 p.content))) (sym is)
    ∙ (ap (λ (k : ℕ). f k rest) (ap (prefix_len is_blank) (sym is) ∙ sym b.counted)
    ∙ (ap (λ (cs : List ℕ). rest_behind (p.indent + 1 + n) p.block (list_all is_space cs) (drop n rest)) (sym t)
    ∙ ap (λ (cs : List ℕ). rest_behind (p.indent + 1 + n) p.block (list_all is_space blanks) cs) (sym b.follow)))

pub plain_of-not_plain : (content : List ℕ) → begins_plain content ≡ false → plain_of content ≡ None
unfolding plain_of
plain_of-not_plain content h = ap (λ (b : Bool). cond (b && is_none (sides_of true content)) (Some (encode_utf8_all (trim_end (uncommented true content)))) None) h

neither : (b : Bool) (bytes : List ℕ) → cond (b && false) (Some bytes) None ≡ None
neither true bytes = refl
neither false bytes = refl

-- where a colon stands, and the sides of it
abbrev pub AtColon : List ℕ → Option ℕ → Type 0
AtColon t o = MatchOption o (sides_of true t ≡ None) (λ at. (at < length t) × (sides_of true t ≡ Some (record { before = take at t; behind = drop (at + 1) t })))

pub plain_of-colon : (t : List ℕ) (o : Option ℕ) → AtColon t o → is_some o ≡ true → plain_of t ≡ None
unfolding plain_of
plain_of-colon t None h found = cc
plain_of-colon t (Some at) h found =
    ap (λ (o : Option Sides). cond (begins_plain t && is_none o) (Some (encode_utf8_all (trim_end (uncommented true t)))) None) h.1
    ∙ neither (begins_plain t) (encode_utf8_all (trim_end (uncommented true t)))

no_sides : (t : List ℕ) (o : Option ℕ) → AtColon t o → is_some o ≡ false → sides_of true t ≡ None
no_sides t None h none = h
no_sides t (Some at) h none = cc

pub plain_of-plain : (t bare trimmed : List ℕ) (o : Option ℕ) → begins_plain t ≡ true → AtColon t o → is_some o ≡ false → bare ≡ uncommented true t → trimmed ≡ trim_end bare
    → plain_of t ≡ Some (encode_utf8_all trimmed)
unfolding plain_of
plain_of-plain t bare trimmed o plain h none u e =
    let all : List ℕ = encode_utf8_all (trim_end (uncommented true t)) in
    ap (λ (b : Bool). cond (b && is_none (sides_of true t)) (Some all) None) plain
    ∙ (ap (λ (o : Option Sides). cond (is_none o) (Some all) None) (no_sides t o h none)
    ∙ ap (λ (cs : List ℕ). Some (encode_utf8_all cs)) (ap trim_end (sym u) ∙ sym e))
