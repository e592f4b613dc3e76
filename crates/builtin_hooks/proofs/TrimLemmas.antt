-- A trim at the end, byte by byte.
use Rattle.std.proofs.Common.{◌≡◌, ◌∙◌, ap, sym, refl, arith, ℕ, ◌+◌, ◌-◌, ◌<◌, ◌==◌, true, false, List, [], ◌∷◌, ◌++◌, length, take, get_or}
use Rattle.std.proofs.lemmas.List.{take_more, take_all}
use Rattle.builtin_hooks.specs.Lines.{before_rest_of_line, without_returns_after}

after-return : (bytes : List ℕ) (last : ℕ) → (last == 13) ≡ true → without_returns_after (bytes ++ last ∷ []) ≡ without_returns_after bytes
after-return [] last is = rw is
after-return (byte ∷ bytes) last is = ap (before_rest_of_line byte) (after-return bytes last is)

rest_kept : (byte : ℕ) (bytes : List ℕ) (last : ℕ) → before_rest_of_line byte (bytes ++ last ∷ []) ≡ byte ∷ bytes ++ last ∷ []
rest_kept byte [] last = refl
rest_kept byte (next ∷ bytes) last = refl

after-other : (bytes : List ℕ) (last : ℕ) → (last == 13) ≡ false → without_returns_after (bytes ++ last ∷ []) ≡ bytes ++ last ∷ []
after-other [] last other = rw other
after-other (byte ∷ bytes) last other = ap (before_rest_of_line byte) (after-other bytes last other) ∙ rest_kept byte bytes last

front_and_last : (bytes : List ℕ) → 0 < length bytes → take (length bytes - 1) bytes ++ get_or bytes (length bytes - 1) 0 ∷ [] ≡ bytes
front_and_last bytes some =
    let within : length bytes - 1 < length bytes = omega arith in
    let whole : length bytes - 1 + 1 ≡ length bytes = omega arith in
    sym (take_more bytes (length bytes - 1) 0 within) ∙ ap (λ n. take n bytes) whole ∙ take_all (length bytes) bytes (omega arith)

pub last_is_return : (bytes : List ℕ) → 0 < length bytes → (get_or bytes (length bytes - 1) 0 == 13) ≡ true
    → without_returns_after (take (length bytes - 1) bytes) ≡ without_returns_after bytes
last_is_return bytes some is =
    sym (after-return (take (length bytes - 1) bytes) _ is) ∙ ap without_returns_after (front_and_last bytes some)

pub last_is_other : (bytes : List ℕ) → 0 < length bytes → (get_or bytes (length bytes - 1) 0 == 13) ≡ false
    → without_returns_after bytes ≡ bytes
last_is_other bytes some other =
    ap without_returns_after (sym (front_and_last bytes some))
    ∙ after-other (take (length bytes - 1) bytes) _ other ∙ front_and_last bytes some
