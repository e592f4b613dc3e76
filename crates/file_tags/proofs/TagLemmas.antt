-- Lemmas: tags through references, and the look-ups of tags.
use Rattle.std.specs.Prelude.{◌≡◌, ℕ, ◌||◌, List, [], ◌∷◌, ◌++◌, length, refl}
use Rattle.std.specs.List.{list_any}
use Rattle.std.specs.Str.{bytes_eq}
use Rattle.std.proofs.Common.{ap, sym, ◌∙◌, arith}
use Rattle.std.proofs.lemmas.List.{map-append}
use denote.Ref.{Bor}
use Rattle.file_tags.specs.FileTags.{has_tag}
use Rattle.file_tags.specs.TagTables.{TagRow, texts_of, tags_in, tags_of_first, or_else}

pub has_tag-texts_of : (tag : List ℕ) (tags : List (Bor (List ℕ))) → list_any (λ other. bytes_eq other.now tag) tags ≡ has_tag tag (texts_of tags)
has_tag-texts_of tag [] = refl
has_tag-texts_of tag (other ∷ tags) = ap (λ rest. bytes_eq other.now tag || rest) (has_tag-texts_of tag tags)

-- ---- the first name that a row has

or_else-nil : (tags : List (List ℕ)) → or_else tags [] ≡ tags
or_else-nil [] = refl
or_else-nil (tag ∷ tags) = refl

or_else-assoc : (first second third : List (List ℕ)) → or_else first (or_else second third) ≡ or_else (or_else first second) third
or_else-assoc [] second third = refl
or_else-assoc (tag ∷ tags) second third = refl

tags_of_first-push : (rows : List TagRow) (names : List (List ℕ)) (name : List ℕ) → tags_of_first rows (names ++ name ∷ []) ≡ or_else (tags_of_first rows names) (tags_in rows name)
tags_of_first-push rows [] name = or_else-nil (tags_in rows name)
tags_of_first-push rows (first ∷ names) name =
    ap (λ later. or_else (tags_in rows first) later) (tags_of_first-push rows names name) ∙ or_else-assoc (tags_in rows first) (tags_of_first rows names) (tags_in rows name)

-- a name more, where an earlier one has tags, and where none has

is_none : (tags : List (Bor (List ℕ))) → length tags ≡ 0 → texts_of tags ≡ []
is_none [] none = refl
is_none (tag ∷ tags) none = absurd (omega arith)

or_else-some : (tags : List (Bor (List ℕ))) (second : List (List ℕ)) → (length tags ≡ 0 → ⊥) → or_else (texts_of tags) second ≡ texts_of tags
or_else-some [] second some = absurd (some refl)
or_else-some (tag ∷ tags) second some = refl

abbrev named : List ℕ → List (Bor (List ℕ)) → List (List ℕ)
named name yielded = name ∷ texts_of yielded

named-push : (name : List ℕ) (yielded : List (Bor (List ℕ))) (piece : Bor (List ℕ)) → named name (yielded ++ piece ∷ []) ≡ named name yielded ++ piece.now ∷ []
named-push name yielded piece = ap (λ names. name ∷ names) (map-append (λ (text : Bor (List ℕ)). text.now) yielded (piece ∷ []))

with_piece : (rows : List TagRow) (name : List ℕ) (yielded : List (Bor (List ℕ))) (piece : Bor (List ℕ))
    → tags_of_first rows (named name (yielded ++ piece ∷ [])) ≡ or_else (tags_of_first rows (named name yielded)) (tags_in rows piece.now)
with_piece rows name yielded piece =
    ap (λ names. tags_of_first rows names) (named-push name yielded piece) ∙ tags_of_first-push rows (named name yielded) piece.now

pub piece_looked_up : (rows : List TagRow) (name : List ℕ) (yielded : List (Bor (List ℕ))) (piece : Bor (List ℕ)) (tags new : List (Bor (List ℕ)))
    → texts_of tags ≡ tags_of_first rows (named name yielded) → length tags ≡ 0 → texts_of new ≡ tags_in rows piece.now → texts_of new ≡ tags_of_first rows (named name (yielded ++ piece ∷ []))
piece_looked_up rows name yielded piece tags new before none found =
    let unknown : tags_of_first rows (named name yielded) ≡ [] = sym before ∙ is_none tags none in
    found ∙ sym (with_piece rows name yielded piece ∙ ap (λ first. or_else first (tags_in rows piece.now)) unknown)

pub piece_passed : (rows : List TagRow) (name : List ℕ) (yielded : List (Bor (List ℕ))) (piece : Bor (List ℕ)) (tags : List (Bor (List ℕ))) → texts_of tags ≡ tags_of_first rows (named name yielded)
    → (length tags ≡ 0 → ⊥) → texts_of tags ≡ tags_of_first rows (named name (yielded ++ piece ∷ []))
piece_passed rows name yielded piece tags before some =
    sym (or_else-some tags (tags_in rows piece.now) some)
    ∙ (ap (λ first. or_else first (tags_in rows piece.now)) before ∙ sym (with_piece rows name yielded piece))

pub names_all : (rows : List TagRow) (name : List ℕ) (pieces all : List (List ℕ)) (tags : List (List ℕ)) → tags ≡ tags_of_first rows (name ∷ pieces) → pieces ≡ all
    → tags ≡ tags_of_first rows (name ∷ all)
names_all rows name pieces all tags before same = before ∙ rw same refl

-- of a name and shorter ones

pub name_found : (rows : List TagRow) (name : List ℕ) (names : List (List ℕ)) (tags : List (Bor (List ℕ))) → texts_of tags ≡ tags_in rows name → (length tags ≡ 0 → ⊥)
    → texts_of tags ≡ tags_of_first rows (name ∷ names)
name_found rows name names tags found some = rw (← found) (sym (or_else-some tags (tags_of_first rows names) some))

pub name_unknown : (rows : List TagRow) (name : List ℕ) (names : List (List ℕ)) (tags : List (Bor (List ℕ))) → texts_of tags ≡ tags_in rows name → length tags ≡ 0
    → tags_of_first rows (name ∷ names) ≡ tags_of_first rows names
name_unknown rows name names tags found none = rw (← found, is_none tags none) refl

pub name_alone : (rows : List TagRow) (name : List ℕ) (names tags : List (List ℕ)) → tags ≡ tags_in rows name → names ≡ [] → tags ≡ tags_of_first rows (name ∷ names)
name_alone rows name names tags found none = rw (none, ← found) (sym (or_else-nil tags))
