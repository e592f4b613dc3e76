-- A trim at the end, byte by byte.
use Rattle.std.proofs.Common.{◌≡◌, ◌∙◌, ap, sym, refl, arith, ℕ, ◌+◌, ◌-◌, ◌<◌, true, false, List, [], ◌∷◌, ◌++◌, length, take, get_or}
use Rattle.std.proofs.lemmas.List.{take_more, take_all}
use Rattle.report_text.specs.Report.{before_rest, is_ascii_white_space, without_blanks_after}

after-blank : (bytes : List ℕ) (last : ℕ) → is_ascii_white_space last ≡ true → without_blanks_after (bytes ++ last ∷ []) ≡ without_blanks_after bytes
after-blank [] last blank = rw blank
after-blank (byte ∷ bytes) last blank = ap (before_rest byte) (after-blank bytes last blank)

rest_kept : (byte : ℕ) (bytes : List ℕ) (last : ℕ) → before_rest byte (bytes ++ last ∷ []) ≡ byte ∷ bytes ++ last ∷ []
rest_kept byte [] last = refl
rest_kept byte (next ∷ bytes) last = refl

after-text : (bytes : List ℕ) (last : ℕ) → is_ascii_white_space last ≡ false → without_blanks_after (bytes ++ last ∷ []) ≡ bytes ++ last ∷ []
after-text [] last text = rw text
after-text (byte ∷ bytes) last text = ap (before_rest byte) (after-text bytes last text) ∙ rest_kept byte bytes last

front_and_last : (bytes : List ℕ) → 0 < length bytes → take (length bytes - 1) bytes ++ get_or bytes (length bytes - 1) 0 ∷ [] ≡ bytes
front_and_last bytes some =
    let within : length bytes - 1 < length bytes = omega arith in
    let whole : length bytes - 1 + 1 ≡ length bytes = omega arith in
    sym (take_more bytes (length bytes - 1) 0 within) ∙ ap (λ n. take n bytes) whole ∙ take_all (length bytes) bytes (omega arith)

pub last_is_blank : (bytes : List ℕ) → 0 < length bytes → is_ascii_white_space (get_or bytes (length bytes - 1) 0) ≡ true
    → without_blanks_after (take (length bytes - 1) bytes) ≡ without_blanks_after bytes
last_is_blank bytes some blank =
    sym (after-blank (take (length bytes - 1) bytes) _ blank) ∙ ap without_blanks_after (front_and_last bytes some)

pub last_is_text : (bytes : List ℕ) → 0 < length bytes → is_ascii_white_space (get_or bytes (length bytes - 1) 0) ≡ false
    → without_blanks_after bytes ≡ bytes
last_is_text bytes some text =
    ap without_blanks_after (sym (front_and_last bytes some))
    ∙ after-text (take (length bytes - 1) bytes) _ text ∙ front_and_last bytes some
