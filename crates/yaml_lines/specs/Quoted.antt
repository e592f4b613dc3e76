-- Quoted texts on one line. (YAML 1.2.2, sections 5.7 "Escaped Characters", 7.3.1 "Double-Quoted Style" and
-- 7.3.2 "Single-Quoted Style".)
use Rattle.std.specs.Prelude.{ℕ, Bool, false, zero, suc, ◌+◌, ◌*◌, ◌&&◌, ◌||◌, ◌++◌, List, [], ◌∷◌, length, Option, Some, None, option_map, option_and_then, nat_lt, nat_le, ◌==◌, if◌then◌else◌, encode_utf8}
use Rattle.std.specs.Char.{digit_value}

-- one character of a quoted text, or none at its end, and what follows
pub record QuotedStep : Type 0 where
  pub character : Option ℕ
  pub rest : List ℕ

-- in single quotes a quote ends the text, and two are one quote
abbrev pub after_quote : List ℕ → QuotedStep
after_quote [] = record { character = None; rest = [] }
after_quote (c ∷ cs) =
    if c == 39 then record { character = Some 39; rest = cs } else record { character = None; rest = c ∷ cs }

-- one step in single quotes; none at the line's end
unfoldable pub single_step : List ℕ → Option QuotedStep
single_step [] = None
single_step (c ∷ cs) =
    if c == 39 then Some (after_quote cs)
    else (if c == 10 then None else Some (record { character = Some c; rest = cs }))

-- the character of a code; none for a surrogate's
abbrev pub coded : List ℕ → ℕ → Option QuotedStep
coded rest code =
    if nat_le 0xD800 code && nat_lt code 0xE000 then None else Some (record { character = Some code; rest = rest })

-- the number that two digits in base 16 write
abbrev pub pair_of : ℕ → ℕ → Option ℕ
pair_of a b =
    if nat_lt (digit_value a) 16 && nat_lt (digit_value b) 16 then Some (digit_value a * 16 + digit_value b) else None

-- the character whose code two digits write
unfoldable pub two_digits : List ℕ → Option QuotedStep
two_digits (a ∷ b ∷ rest) = option_and_then (coded rest) (pair_of a b)
two_digits _ = None

-- the character whose code four digits write
unfoldable pub four_digits : List ℕ → Option QuotedStep
four_digits (a ∷ b ∷ c ∷ d ∷ rest) =
    option_and_then (λ high. option_and_then (λ low. coded rest (high * 256 + low)) (pair_of c d)) (pair_of a b)
four_digits _ = None

-- the character that a letter names after a backslash (section 5.7 "Escaped Characters" has more of them)
unfoldable pub named : ℕ → Option ℕ
named c =
    if c == 92 || c == 34 || c == 47 then Some c
    else (if c == 110 then Some 10
    else (if c == 116 then Some 9
    else (if c == 114 then Some 13
    else (if c == 48 then Some 0 else None))))

-- the character of an escape, from what follows its backslash
unfoldable pub escaped : List ℕ → Option QuotedStep
escaped [] = None
escaped (c ∷ cs) =
    if c == 120 then two_digits cs
    else (if c == 117 then four_digits cs else option_map (λ d. record { character = Some d; rest = cs }) (named c))

-- one step in double quotes; none at the line's end, and none at an escape that isn't read
unfoldable pub double_step : List ℕ → Option QuotedStep
double_step [] = None
double_step (c ∷ cs) =
    if c == 34 then Some (record { character = None; rest = cs })
    else (if c == 92 then escaped cs
    else (if c == 10 then None else Some (record { character = Some c; rest = cs })))

-- one step in the quotes of this mark
abbrev pub step_of : ℕ → List ℕ → Option QuotedStep
step_of mark cs = if mark == 39 then single_step cs else double_step cs

-- a quoted text in UTF-8, and what follows its closing quote
pub record Quoted : Type 0 where
  pub text : List ℕ
  pub rest : List ℕ

abbrev pub behind : (List ℕ → Option Quoted) → List ℕ → Option ℕ → Option Quoted
behind more rest None = Some (record { text = []; rest = rest })
behind more rest (Some c) = option_map (λ q. record { text = encode_utf8 c ++ q.text; rest = q.rest }) (more rest)

-- the text up to the closing quote of this mark, within `most` steps
unfoldable pub quoted_within : ℕ → ℕ → List ℕ → Option Quoted
quoted_within mark zero cs = None
quoted_within mark (suc most) cs =
    option_and_then (λ step. behind (quoted_within mark most) step.rest step.character) (step_of mark cs)

abbrev pub is_quote : ℕ → Bool
is_quote c = c == 39 || c == 34

abbrev pub begins_quoted : List ℕ → Bool
begins_quoted [] = false
begins_quoted (c ∷ _) = is_quote c

-- the quoted text that the characters begin with; each of its steps takes a character
unfoldable pub quoted_of : List ℕ → Option Quoted
quoted_of [] = None
quoted_of (mark ∷ cs) = if is_quote mark then quoted_within mark (length cs) cs else None
