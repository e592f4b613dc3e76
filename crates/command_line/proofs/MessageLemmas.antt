-- The words of a line around the message of `-m`.
use Rattle.std.proofs.Common.{◌≡◌, ◌∙◌, ap, refl, sym, false, true, ◌+◌, ◌<◌, ℕ, List, [], ◌∷◌, ◌++◌, Bor, codes, arith, drop, get_or, length, map, take, ◌-◌, ◌≤◌, Option, None, Some}
use Rattle.std.specs.Prelude.{MatchOption}
use Rattle.std.proofs.lemmas.List.{append_assoc, drop-drop, drop-map, drop_more, map-append, take-append-drop, take-map, take_more, take_rest}
use Rattle.std.proofs.lemmas.Slice.Eq.{bytes_eq-Decides}
use Rattle.std.specs.Str.{bytes_eq}
use Rattle.clap.specs.Words.{Text}
use Rattle.command_line.specs.MessageWords.{joined_message, words_for_clap}

abbrev texts : List (Bor Text) → List Text
texts = map (λ s. s.now)

-- the words from a place on
rest_from : (words : List (Bor Text)) (place : ℕ) (d : Bor Text) → place < length words
    → drop place (texts words) ≡ (get_or words place d).now ∷ drop (place + 1) (texts words)
rest_from words place d within =
    drop-map (λ s. s.now) place words ∙ ap texts (drop_more words place d within)
    ∙ ap (λ (rest : List Text). (get_or words place d).now ∷ rest) (sym (drop-map (λ s. s.now) (place + 1) words))

-- the words before the next place
before_next : (words : List (Bor Text)) (place : ℕ) (d : Bor Text) → place < length words
    → take (place + 1) (texts words) ≡ take place (texts words) ++ (get_or words place d).now ∷ []
before_next words place d within =
    take-map (λ s. s.now) (place + 1) words ∙ ap texts (take_more words place d within)
    ∙ map-append (λ (s : Bor Text). s.now) (take place words) (get_or words place d ∷ [])
    ∙ ap (λ (before : List Text). before ++ (get_or words place d).now ∷ []) (sym (take-map (λ s. s.now) place words))

stays : (word : Text) (words : List Text) → bytes_eq word (codes "--") ≡ false → bytes_eq word (codes "-m") ≡ false
    → words_for_clap (word ∷ words) ≡ word ∷ words_for_clap words
stays word words end flag = rw (end, flag) refl

-- a word that is neither `--` nor `-m`
pub passes : (words : List (Bor Text)) (place : ℕ) (d : Bor Text) → place < length words → bytes_eq (get_or words place d).now (codes "--") ≡ false
    → bytes_eq (get_or words place d).now (codes "-m") ≡ false
    → words_for_clap (texts words) ≡ take place (texts words) ++ words_for_clap (drop place (texts words))
    → words_for_clap (texts words) ≡ take (place + 1) (texts words) ++ words_for_clap (drop (place + 1) (texts words))
passes words place d within end flag so_far =
    let word = (get_or words place d).now in
    let behind = drop (place + 1) (texts words) in
    so_far ∙ ap (λ (rest : List Text). take place (texts words) ++ words_for_clap rest) (rest_from words place d within)
    ∙ ap (λ (rest : List Text). take place (texts words) ++ rest) (stays word behind end flag)
    ∙ sym (append_assoc (take place (texts words)) (word ∷ []) (words_for_clap behind))
    ∙ ap (λ (before : List Text). before ++ words_for_clap behind) (sym (before_next words place d within))

ends : (word : Text) (words : List Text) → bytes_eq word (codes "--") ≡ true → words_for_clap (word ∷ words) ≡ word ∷ words
ends word words end = rw end refl

-- where the words from a place on stay, all do
all_stay : (words : List Text) (place : ℕ) → words_for_clap words ≡ take place words ++ words_for_clap (drop place words)
    → words_for_clap (drop place words) ≡ drop place words → words_for_clap words ≡ words
all_stay words place so_far same =
    so_far ∙ ap (λ (rest : List Text). take place words ++ rest) same ∙ take-append-drop place words

-- `--` ends the options
pub ended : (words : List (Bor Text)) (place : ℕ) (d : Bor Text) → place < length words → bytes_eq (get_or words place d).now (codes "--") ≡ true
    → words_for_clap (texts words) ≡ take place (texts words) ++ words_for_clap (drop place (texts words)) → words_for_clap (texts words) ≡ texts words
ended words place d within end so_far =
    let rest = rest_from words place d within in
    all_stay (texts words) place so_far (ap words_for_clap rest ∙ ends (get_or words place d).now (drop (place + 1) (texts words)) end ∙ sym rest)

-- `-m` as the last word
flag_is_last : (words : List (Bor Text)) (place : ℕ) (d : Bor Text) → place < length words → (get_or words place d).now ≡ codes "-m"
    → words_for_clap (texts words) ≡ take place (texts words) ++ words_for_clap (drop place (texts words)) → drop (place + 1) (texts words) ≡ []
    → words_for_clap (texts words) ≡ texts words
flag_is_last words place d within flag so_far last =
    let rest : drop place (texts words) ≡ codes "-m" ∷ [] =
    rest_from words place d within ∙ ap (λ (word : Text). word ∷ drop (place + 1) (texts words)) flag ∙ ap (λ (behind : List Text). codes "-m" ∷ behind) last in
    all_stay (texts words) place so_far (ap words_for_clap rest ∙ sym rest)

-- `-m` before its message
flag_has_message : (words : List (Bor Text)) (place : ℕ) (d : Bor Text) (message : Text) (before behind : List Text) → place < length words
    → (get_or words place d).now ≡ codes "-m" → words_for_clap (texts words) ≡ take place (texts words) ++ words_for_clap (drop place (texts words))
    → before ≡ take place (texts words) → drop (place + 1) (texts words) ≡ message ∷ behind
    → words_for_clap (texts words) ≡ before ++ joined_message message ∷ behind
flag_has_message words place d message before behind within flag so_far is_before is_behind =
    let rest : drop place (texts words) ≡ codes "-m" ∷ message ∷ behind =
    rest_from words place d within ∙ ap (λ (word : Text). word ∷ drop (place + 1) (texts words)) flag
    ∙ ap (λ (words : List Text). codes "-m" ∷ words) is_behind in
    so_far ∙ ap (λ (rest : List Text). take place (texts words) ++ words_for_clap rest) rest
    ∙ ap (λ (start : List Text). start ++ joined_message message ∷ behind) (sym is_before)

-- `-m`, as the last word or before its message
pub flag_met : {X : Type 0} (words : List (Bor Text)) (place : ℕ) (d : Bor Text) (found : Option X) (before : X → List Text) (message : X → Text)
    (behind : X → List Text) → place < length words → bytes_eq (get_or words place d).now (codes "-m") ≡ true
    → words_for_clap (texts words) ≡ take place (texts words) ++ words_for_clap (drop place (texts words))
    → MatchOption found (drop (place + 1) (texts words) ≡ [])
    (λ x. (before x ≡ take place (texts words)) × (drop (place + 1) (texts words) ≡ message x ∷ behind x))
    → MatchOption found (words_for_clap (texts words) ≡ texts words) (λ x. words_for_clap (texts words) ≡ before x ++ joined_message (message x) ∷ behind x)
flag_met words place d None before message behind within flag so_far last =
    flag_is_last words place d within ((bytes_eq-Decides (get_or words place d).now (codes "-m")).0 flag) so_far last
flag_met words place d (Some x) before message behind within flag so_far has =
    flag_has_message words place d (message x) (before x) (behind x) within ((bytes_eq-Decides (get_or words place d).now (codes "-m")).0 flag) so_far has.0 has.1

-- the words from `-m` on
pub behind_flag : (words : List (Bor Text)) (place : ℕ) (others : List (Bor Text)) (d : Bor Text) → others ≡ drop place words → 2 ≤ length others
    → drop (place + 1) (texts words) ≡ (get_or others 1 d).now ∷ texts (take (length others - 2) (drop 2 others))
behind_flag words place others d is long =
    drop-map (λ s. s.now) (place + 1) words ∙ ap texts (sym (drop-drop 1 place words))
    ∙ ap (λ (rest : List (Bor Text)). texts (drop 1 rest)) (sym is) ∙ ap texts (drop_more others 1 d (omega (arith, long)))
    ∙ ap (λ (rest : List (Bor Text)). (get_or others 1 d).now ∷ texts rest) (sym (take_rest others 2))

pub before_flag : (words : List (Bor Text)) (place : ℕ) (before : List (Bor Text)) → before ≡ take place words
    → texts before ≡ take place (texts words)
before_flag words place before is = ap texts is ∙ sym (take-map (λ s. s.now) place words)
