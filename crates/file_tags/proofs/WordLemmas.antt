-- Lemmas: the first line of a script, and its words.
use Rattle.std.proofs.Common.{◌≡◌, ℕ, ◌≤◌, length, take, Bool, true, false, cond, List, [], ◌∷◌, ◌++◌, None, Some, refl, ap, sym, ◌∙◌, arith, append_assoc}
use Rattle.std.specs.Prelude.{◌==◌, ◌||◌, ◌&&◌, nat_lt, nat_le}
use Rattle.std.specs.List.{filter, slice_split, onto_first, position_or_len, before_first}
use Rattle.std.proofs.Math.Dec.{eqb-suc-zero}
use Rattle.std.proofs.lemmas.Bool.{eqb-true}
use Rattle.std.proofs.lemmas.Bool.Decides.{nat_tests}
use Rattle.std.proofs.lemmas.List.{map-append, append-nil, take_all}
use Rattle.std.proofs.lemmas.List.Elements.{filter-append}
use Rattle.std.specs.Str.{IsUtf8, is_utf8}
use Rattle.std.proofs.lemmas.Str.{is_utf8-from_IsUtf8, IsUtf8-from_is_utf8}
use denote.Ref.{Bor}
use Rattle.file_tags.specs.Cuts.{is_shebang_blank, is_space_byte, is_tab, is_line_feed}
use Rattle.file_tags.specs.Shebangs.{is_shebang_word, line_of, most_shebang_bytes, without_carriage_return}
use Rattle.file_tags.specs.TagTables.{texts_of}

-- ---- the first line

pub line_to : (bytes : List ℕ) (end : ℕ) → Some end ≡ cond (nat_lt (position_or_len is_line_feed bytes) (length bytes)) (Some (position_or_len is_line_feed bytes)) None
    → take end bytes ≡ before_first is_line_feed bytes
line_to bytes end found =
    elim (nat_lt (position_or_len is_line_feed bytes) (length bytes)) as (λ b. Some end ≡ cond b (Some (position_or_len is_line_feed bytes)) None
    → take end bytes ≡ take (position_or_len is_line_feed bytes) bytes) [
      | true ↦ λ h. cc
      | false ↦ λ h. absurd (cc)
    ] found

pub line_whole : (bytes : List ℕ) → None ≡ cond (nat_lt (position_or_len is_line_feed bytes) (length bytes)) (Some (position_or_len is_line_feed bytes)) None → bytes ≡ before_first is_line_feed bytes
line_whole bytes none =
    elim (nat_lt (position_or_len is_line_feed bytes) (length bytes)) as (λ b. nat_lt (position_or_len is_line_feed bytes) (length bytes) ≡ b
    → None ≡ cond b (Some (position_or_len is_line_feed bytes)) None → bytes ≡ take (position_or_len is_line_feed bytes) bytes) [
      | true ↦ λ t h. absurd (cc)
      | false ↦ λ t h. let long : length bytes ≤ position_or_len is_line_feed bytes = grind (arith, nat_tests) in sym (take_all (position_or_len is_line_feed bytes) bytes long)
    ] refl none

-- ---- the carriage return at its end

pub without_carriage_return_at_end : (front : List ℕ) → without_carriage_return (front ++ 13 ∷ []) ≡ front
without_carriage_return_at_end [] = refl
without_carriage_return_at_end (byte ∷ []) = refl
without_carriage_return_at_end (byte ∷ next ∷ front) = ap (λ rest. byte ∷ rest) (without_carriage_return_at_end (next ∷ front))

pub without_carriage_return_where_none : (line : List ℕ) → ((front : List ℕ) → line ≡ front ++ 13 ∷ [] → ⊥) → without_carriage_return line ≡ line
without_carriage_return_where_none [] none = refl
without_carriage_return_where_none (byte ∷ []) none =
    elim (byte == 13) as (λ b. (byte == 13) ≡ b → cond b [] (byte ∷ []) ≡ byte ∷ []) [
      | true ↦ λ h. absurd (none [] (ap (λ last. last ∷ []) (eqb-true byte 13 h)))
      | false ↦ λ h. refl
    ] refl
without_carriage_return_where_none (byte ∷ next ∷ line) none =
    ap (λ rest. byte ∷ rest) (without_carriage_return_where_none (next ∷ line) (λ front h. none (byte ∷ front) (ap (λ rest. byte ∷ rest) h)))

-- ---- words: a line cut at spaces and each part at tabs is the line cut at both

abbrev pub tab_parts : List (List ℕ) → List (List ℕ)
tab_parts [] = []
tab_parts (part ∷ parts) = slice_split is_tab part ++ tab_parts parts

split_some : (p : ℕ → Bool) (xs : List ℕ) → (first : List ℕ) × (rest : List (List ℕ)) × (slice_split p xs ≡ first ∷ rest)
split_some p [] = ([], [], refl)
split_some p (x ∷ xs) =
    elim (p x) as (λ v. (first : List ℕ) × (rest : List (List ℕ)) × (cond v ([] ∷ slice_split p xs) (onto_first x (slice_split p xs)) ≡ first ∷ rest)) [
      | true ↦ ([], slice_split p xs, refl)
      | false ↦ let some = split_some p xs in (x ∷ some.0, some.1, rw some.2 refl)
    ]

onto_append : (b : ℕ) (xs ys : List (List ℕ)) (first : List ℕ) (rest : List (List ℕ)) → xs ≡ first ∷ rest → onto_first b (xs ++ ys) ≡ onto_first b xs ++ ys
onto_append b xs ys first rest e = rw e refl

tab_parts_onto : (b : ℕ) (parts : List (List ℕ)) (part : List ℕ) (rest : List (List ℕ)) → parts ≡ part ∷ rest
    → tab_parts (onto_first b parts) ≡ cond (is_tab b) ([] ∷ tab_parts parts) (onto_first b (tab_parts parts))
tab_parts_onto b parts part rest e =
    let some = split_some is_tab part in
    rw e (
    elim (is_tab b) as (λ v. cond v ([] ∷ slice_split is_tab part) (onto_first b (slice_split is_tab part)) ++ tab_parts rest
    ≡ cond v ([] ∷ (slice_split is_tab part ++ tab_parts rest)) (onto_first b (slice_split is_tab part ++ tab_parts rest))) [
      | true ↦ refl
      | false ↦ sym (onto_append b (slice_split is_tab part) (tab_parts rest) some.0 some.1 some.2)
    ])

split_twice : (line : List ℕ) → slice_split is_shebang_blank line ≡ tab_parts (slice_split is_space_byte line)
split_twice [] = refl
split_twice (b ∷ bs) =
    let some = split_some is_space_byte bs in
    let later = split_twice bs in
    elim (is_space_byte b) as (λ v. cond (v || is_tab b) ([] ∷ slice_split is_shebang_blank bs) (onto_first b (slice_split is_shebang_blank bs))
    ≡ tab_parts (cond v ([] ∷ slice_split is_space_byte bs) (onto_first b (slice_split is_space_byte bs)))) [
      | true ↦ ap (λ rest. [] ∷ rest) later
      | false ↦ rw later (sym (tab_parts_onto b (slice_split is_space_byte bs) some.0 some.1 some.2))
    ]

tab_parts-push : (parts : List (List ℕ)) (part : List ℕ) → tab_parts (parts ++ part ∷ []) ≡ tab_parts parts ++ slice_split is_tab part
tab_parts-push [] part = append-nil (slice_split is_tab part)
tab_parts-push (first ∷ parts) part = rw (tab_parts-push parts part) (sym (append_assoc (slice_split is_tab first) (tab_parts parts) (slice_split is_tab part)))

pub words_more : (yielded : List (Bor (List ℕ))) (part : Bor (List ℕ)) (words new : List (List ℕ)) → words ≡ filter is_shebang_word (tab_parts (texts_of yielded))
    → new ≡ words ++ filter is_shebang_word (slice_split is_tab part.now) → new ≡ filter is_shebang_word (tab_parts (texts_of (yielded ++ part ∷ [])))
words_more yielded part words new before more =
    rw (
      map-append (λ (text : Bor (List ℕ)). text.now) yielded (part ∷ []),
      tab_parts-push (texts_of yielded) part.now,
      filter-append is_shebang_word (tab_parts (texts_of yielded))
          (slice_split is_tab part.now),
    ) (more ∙ rw before refl)

pub words_all : (line : List ℕ) (parts words : List (List ℕ)) → words ≡ filter is_shebang_word (tab_parts parts) → parts ≡ slice_split is_space_byte line
    → words ≡ filter is_shebang_word (slice_split is_shebang_blank line)
words_all line parts words before all = before ∙ rw (all, split_twice line) refl

-- a part's word more

pub word_more : (yielded : List (Bor (List ℕ))) (word : Bor (List ℕ)) (old words new : List (List ℕ)) → words ≡ old ++ filter is_shebang_word (texts_of yielded) → is_shebang_word word.now ≡ true
    → new ≡ words ++ word.now ∷ [] → new ≡ old ++ filter is_shebang_word (texts_of (yielded ++ word ∷ []))
word_more yielded word old words new before full more =
    rw (map-append (λ (text : Bor (List ℕ)). text.now) yielded (word ∷ []), filter-append is_shebang_word (texts_of yielded) (word.now ∷ []), full)
    (more ∙ (rw before refl ∙ append_assoc old (filter is_shebang_word (texts_of yielded)) (word.now ∷ [])))

pub no_word_more : (yielded : List (Bor (List ℕ))) (word : Bor (List ℕ)) (old words : List (List ℕ)) → words ≡ old ++ filter is_shebang_word (texts_of yielded) → is_shebang_word word.now ≡ false
    → words ≡ old ++ filter is_shebang_word (texts_of (yielded ++ word ∷ []))
no_word_more yielded word old words before empty =
    rw (
      map-append (λ (text : Bor (List ℕ)). text.now) yielded (word ∷ []),
      filter-append is_shebang_word (texts_of yielded) (word.now ∷ []),
      empty,
      append-nil
          (filter is_shebang_word (texts_of yielded)),
    ) before

pub word_is : (word : List ℕ) (empty : Bool) → empty ≡ (length word == 0) → empty ≡ false → is_shebang_word word ≡ true
word_is [] empty is none = absurd (cc)
word_is (byte ∷ bytes) empty is none = refl

pub no_word_is : (word : List ℕ) (empty : Bool) → empty ≡ (length word == 0) → empty ≡ true → is_shebang_word word ≡ false
no_word_is [] empty is none = refl
no_word_is (byte ∷ bytes) empty is none = let some = eqb-suc-zero (length bytes) in absurd (cc)

-- ---- whether the line is taken

pub line_taken : (rest line : List ℕ) → length rest ≤ most_shebang_bytes → IsUtf8 rest → line ≡ without_carriage_return rest → Some line ≡ line_of rest
line_taken rest line short text same =
    let fits : nat_le (length rest) most_shebang_bytes ≡ true = grind (arith, nat_tests) in
    rw (fits, is_utf8-from_IsUtf8 rest text) (ap Some same)

no_text : (rest : List ℕ) → ¬ IsUtf8 rest → is_utf8 rest ≡ false
no_text rest bad =
    elim (is_utf8 rest) as (λ b. is_utf8 rest ≡ b → b ≡ false) [
      | true ↦ λ h. absurd (bad (IsUtf8-from_is_utf8 rest h))
      | false ↦ λ h. refl
    ] refl

pub no_line_taken : (rest : List ℕ) → ¬ IsUtf8 rest → None ≡ line_of rest
no_line_taken rest bad =
    rw (no_text rest bad) (
    elim (nat_le (length rest) most_shebang_bytes) as (λ b. None ≡ cond (b && false) (Some (without_carriage_return rest)) None) [ true ↦ refl | false ↦ refl ])
