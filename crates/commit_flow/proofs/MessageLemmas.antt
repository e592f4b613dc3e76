-- The clean-up of a message, line by line.
use Rattle.std.proofs.Common.{◌≡◌, ◌∙◌, add-one, ap, ap₂, sym, refl, arith, ℕ, zero, suc, ◌&&◌, ◌||◌, ◌+◌, ◌-◌, ◌<◌, Bool, true, false, if◌then◌else◌, List, [], ◌∷◌, ◌++◌, length, map, drop, take, get_or}
use Rattle.std.specs.List.{filter, flat_map, list_any, range_with_len, slice_split}
use Rattle.std.proofs.lemmas.List.{append-nil, take_more, take_all}
use Rattle.commit_flow.specs.Messages.{before_rest_of_message, cleaned_message, ended_line, precedes_filled, follows_filled, is_message_blank, is_filled, is_message_line_feed, lacks_line_end, message_line_at, staying, stays_at, trimmed_lines, without_trailing_blanks}

-- ---- a trim at the end, byte by byte

after-blank : (bytes : List ℕ) (last : ℕ) → is_message_blank last ≡ true → without_trailing_blanks (bytes ++ last ∷ []) ≡ without_trailing_blanks bytes
after-blank [] last is = rw is
after-blank (byte ∷ bytes) last is = ap (before_rest_of_message byte) (after-blank bytes last is)

rest_kept : (byte : ℕ) (bytes : List ℕ) (last : ℕ) → before_rest_of_message byte (bytes ++ last ∷ []) ≡ byte ∷ bytes ++ last ∷ []
rest_kept byte [] last = refl
rest_kept byte (next ∷ bytes) last = refl

after-other : (bytes : List ℕ) (last : ℕ) → is_message_blank last ≡ false → without_trailing_blanks (bytes ++ last ∷ []) ≡ bytes ++ last ∷ []
after-other [] last other = rw other
after-other (byte ∷ bytes) last other = ap (before_rest_of_message byte) (after-other bytes last other) ∙ rest_kept byte bytes last

front_and_last : (bytes : List ℕ) → 0 < length bytes → take (length bytes - 1) bytes ++ get_or bytes (length bytes - 1) 0 ∷ [] ≡ bytes
front_and_last bytes some =
    let within : length bytes - 1 < length bytes = omega arith in
    let whole : length bytes - 1 + 1 ≡ length bytes = omega arith in
    sym (take_more bytes (length bytes - 1) 0 within) ∙ ap (λ n. take n bytes) whole ∙ take_all (length bytes) bytes (omega arith)

pub last_is_blank : (bytes : List ℕ) → 0 < length bytes → is_message_blank (get_or bytes (length bytes - 1) 0) ≡ true
    → without_trailing_blanks (take (length bytes - 1) bytes) ≡ without_trailing_blanks bytes
last_is_blank bytes some is =
    sym (after-blank (take (length bytes - 1) bytes) _ is) ∙ ap without_trailing_blanks (front_and_last bytes some)

pub last_is_other : (bytes : List ℕ) → 0 < length bytes → is_message_blank (get_or bytes (length bytes - 1) 0) ≡ false
    → without_trailing_blanks bytes ≡ bytes
last_is_other bytes some other =
    ap without_trailing_blanks (sym (front_and_last bytes some))
    ∙ after-other (take (length bytes - 1) bytes) _ other ∙ front_and_last bytes some

-- ---- the line end that a message lacks

lacks-more : (byte : ℕ) (bytes : List ℕ) (last : ℕ) → lacks_line_end (byte ∷ bytes ++ last ∷ []) ≡ lacks_line_end (bytes ++ last ∷ [])
lacks-more byte [] last = refl
lacks-more byte (next ∷ bytes) last = refl

lacks-last : (bytes : List ℕ) (last : ℕ) → lacks_line_end (bytes ++ last ∷ []) ≡ lacks_line_end (last ∷ [])
lacks-last [] last = refl
lacks-last (byte ∷ bytes) last = lacks-more byte bytes last ∙ lacks-last bytes last

pub lacks_by_last : (bytes : List ℕ) → 0 < length bytes → lacks_line_end bytes ≡ lacks_line_end (get_or bytes (length bytes - 1) 0 ∷ [])
lacks_by_last bytes some =
    ap lacks_line_end (sym (front_and_last bytes some)) ∙ lacks-last (take (length bytes - 1) bytes) (get_or bytes (length bytes - 1) 0)

-- ---- the lines that stay, one after another

-- a line between these two neighbours stays
abbrev stays : List ℕ → List ℕ → List (List ℕ) → Bool
stays before line behind = is_filled line || (is_filled before && list_any is_filled behind)

-- those of the lines that stay, where this line stands before them: an empty one, where none does
abbrev pub staying_behind : List ℕ → List (List ℕ) → List (List ℕ)
staying_behind before [] = []
staying_behind before (line ∷ behind) = if stays before line behind then line ∷ staying_behind line behind else staying_behind line behind

-- the lines of the message from a place on, where this one stands before it
record IsFrom (lines : List (List ℕ)) (place : ℕ) (before : List ℕ) (rest : List (List ℕ)) : Type 0 where
  left : drop place lines ≡ rest
  behind : follows_filled lines place ≡ is_filled before

drop-more : (lines : List (List ℕ)) (place : ℕ) (line : List ℕ) (rest : List (List ℕ)) → drop place lines ≡ line ∷ rest → drop (suc place) lines ≡ rest
drop-more [] zero line rest is = absurd (cc)
drop-more [] (suc place) line rest is = absurd (cc)
drop-more (first ∷ lines) zero line rest is = cc
drop-more (first ∷ lines) (suc place) line rest is = drop-more lines place line rest is

line-first : (lines : List (List ℕ)) (place : ℕ) (line : List ℕ) (rest : List (List ℕ)) → drop place lines ≡ line ∷ rest → message_line_at lines place ≡ line
line-first [] zero line rest is = absurd (cc)
line-first [] (suc place) line rest is = absurd (cc)
line-first (first ∷ lines) zero line rest is = cc
line-first (first ∷ lines) (suc place) line rest is = line-first lines place line rest is

abbrev staying_from : List (List ℕ) → ℕ → ℕ → List (List ℕ)
staying_from lines place many = map (message_line_at lines) (filter (stays_at lines) (range_with_len place many))

staying-more : (lines : List (List ℕ)) (place many : ℕ) (here : Bool) (line : List ℕ) (rest : List (List ℕ)) → stays_at lines place ≡ here → message_line_at lines place ≡ line
    → staying_from lines (place + 1) many ≡ rest → staying_from lines place (suc many) ≡ (if here then line ∷ rest else rest)
staying-more lines place many true line rest is at behind = rw is (ap₂ (λ (x : List ℕ) (xs : List (List ℕ)). x ∷ xs) at behind)
staying-more lines place many false line rest is at behind = rw is behind

stays-so : (lines : List (List ℕ)) (place : ℕ) (before line : List ℕ) (rest : List (List ℕ)) → IsFrom lines place before (line ∷ rest) → stays_at lines place ≡ stays before line rest
stays-so lines place before line rest from =
    let at : message_line_at lines place ≡ line = line-first lines place line rest from.left in
    let more : drop (suc place) lines ≡ rest = drop-more lines place line rest from.left in
    let behind : precedes_filled lines place ≡ list_any is_filled rest = ap (list_any is_filled) more in
    ap₂ (λ (here others : Bool). here || others) (ap is_filled at) (ap₂ (λ (one other : Bool). one && other) from.behind behind)

staying-behind : (lines : List (List ℕ)) (place : ℕ) (before : List ℕ) (rest : List (List ℕ)) → IsFrom lines place before rest
    → staying_from lines place (length rest) ≡ staying_behind before rest
staying-behind lines place before [] from = refl
staying-behind lines place before (line ∷ rest) from =
    let at : message_line_at lines place ≡ line = line-first lines place line rest from.left in
    staying-more lines place (length rest) (stays before line rest) line (staying_behind line rest) (stays-so lines place before line rest from) at
    (staying-behind lines (place + 1) line rest (record { left = rw add-one (drop-more lines place line rest from.left); behind = rw add-one (ap is_filled at) }))

all-staying : (lines : List (List ℕ)) → staying lines ≡ staying_behind [] lines
all-staying lines = staying-behind lines 0 [] lines (record { left = refl; behind = refl })

-- ---- line by line

-- the lines that are still to be written, where an empty one waits for one that isn't empty, and after this line
abbrev pub left : Bool → List ℕ → List (List ℕ) → List (List ℕ)
left false before rest = staying_behind before rest
left true before rest = if list_any is_filled rest then [] ∷ staying_behind [] rest else staying_behind [] rest

abbrev pub text_left : Bool → List ℕ → List (List ℕ) → List ℕ
text_left waits before rest = flat_map ended_line (left waits before rest)

-- what is written of the lines so far, and what is left of any that follow
abbrev pub IsWritten : List (List ℕ) → List ℕ → Bool → List ℕ → Type 0
IsWritten lines output waits before = (rest : List (List ℕ)) → flat_map ended_line (staying_behind [] (map without_trailing_blanks lines ++ rest)) ≡ output ++ text_left waits before rest

none_left : (waits : Bool) (before : List ℕ) → text_left waits before [] ≡ []
none_left false before = refl
none_left true before = refl

pub all_written : (message output before : List ℕ) (waits : Bool) (lines : List (List ℕ)) → IsWritten lines output waits before
    → lines ≡ slice_split is_message_line_feed message → output ≡ cleaned_message message
all_written message output before waits lines written is =
    sym (append-nil output) ∙ ap (λ text. output ++ text) (sym (none_left waits before)) ∙ sym (written [])
    ∙ ap (λ all. flat_map ended_line (staying_behind [] all)) (append-nil (map without_trailing_blanks lines))
    ∙ ap (λ all. flat_map ended_line (staying_behind [] (map without_trailing_blanks all))) is
    ∙ ap (flat_map ended_line) (sym (all-staying (trimmed_lines message)))
