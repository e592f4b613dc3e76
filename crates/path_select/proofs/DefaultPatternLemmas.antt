-- What a pattern selects where all others are those that a configuration has by default, of which the one is found in every
-- path, and the other in none.
use Rattle.std.proofs.Common.{◌≡◌, ◌∙◌, ap, ap₂, sym, refl, ℕ, zero, suc, ◌+◌, ◌≤◌, ◌<◌, Bool, true, false, List, [], ◌∷◌, map, filter, Option, None, Some, is_some, length, codes, inl, inr, true≢false, arith}
use Rattle.std.specs.Prelude.{IsSome, ◌&&◌, if◌then◌else◌}
use Rattle.std.specs.List.{AllByRecursion as Each}
use Rattle.std.specs.Str.{bytes_eq, chars}
use Rattle.std.proofs.lemmas.Option.{slice_get-get_or}
use Rattle.regex_hir.specs.Looks.{holds_between}
use Rattle.path_select.proofs.Kit.{byte_before-add-one, find_str_complete, find_str_sound, leftmost_attempt}
use Rattle.regex.specs.Patterns.{End, Match, Matches, Re, Start, alt, byte_in, cat, empty, find_str, holds, in_ranges, look}
use Rattle.regex_syntax.specs.Reading.{first, skip}
use Rattle.regex_syntax.specs.Grammar.{atom, branches, char_meaning, item, items, join_parts, names_below, read, repetitions, with_repetitions}
use Rattle.hook_base.specs.declared.file.File.{File}
use Rattle.hook_base.specs.declared.file.FileEntry.{FileEntry}
use Rattle.hook_base.specs.Trees.{entry_of, path_of}
use Rattle.path_select.specs.Candidates.{is_candidate}
use Rattle.path_select.specs.Patterns.{is_found}
use Rattle.path_select.specs.Selection.{found_in, is_selected, rules_of_pattern, selected}
use Rattle.path_select.specs.SelectionLaws.{all_are_candidates}

-- what the grammar reads in the two texts
abbrev every : Re
every = alt empty (byte_in [])

abbrev none : Re
none = alt (cat (look Start) (cat (look End) empty)) (byte_in [])

every-found : (path : List ℕ) → IsSome (find_str every path 0)
every-found path =
    let last = length path in
    find_str_complete every path 0 last last (omega arith) (omega arith, λ (within : last < last). absurd (omega arith)) (inl refl)

-- the default of `files`
every_path : (path : List ℕ) → is_found (codes "") path ≡ true
unfolding is_found read join_parts branches items skip first names_below chars
every_path path = every-found path

-- a place after a byte is no start
no-start : (path : List ℕ) (i : ℕ) → i < length path → holds Start path (suc i) ≡ false
unfolding holds holds_between
no-start path i within =
    let next : suc i ≡ i + 1 = omega arith in
    rw (next, byte_before-add-one path i, slice_get-get_or path i 0 within) refl

-- the place before a byte is no end
no-end : (byte : ℕ) (path : List ℕ) → holds End (byte ∷ path) zero ≡ false
unfolding holds holds_between
no-end byte path = refl

no-match : (byte : ℕ) (path : List ℕ) (i j : ℕ) → i ≤ length (byte ∷ path) → Matches (byte ∷ path) none i j → ⊥
unfolding in_ranges
no-match byte path zero j within (inl m) = absurd (true≢false (sym m.2.1.0 ∙ ap (holds End (byte ∷ path)) m.1.1 ∙ no-end byte path))
no-match byte path (suc i) j within (inl m) = absurd (true≢false (sym m.1.0 ∙ no-start (byte ∷ path) i (omega arith)))
no-match byte path i j within (inr m) = absurd (true≢false (sym m.2))

none-found : (byte : ℕ) (path : List ℕ) (found : Option Match) → find_str none (byte ∷ path) 0 ≡ found → is_some found ≡ false
none-found byte path None is = refl
none-found byte path (Some m) is =
    let sound = find_str_sound none (byte ∷ path) 0 m is in
    let within = (leftmost_attempt none (byte ∷ path) true 0 m is).1 in
    absurd (no-match byte path m.start m.trace.end within sound.1)

-- the default of `exclude`
no_path : (byte : ℕ) (path : List ℕ) → is_found (codes "^$") (byte ∷ path) ≡ false
unfolding is_found read join_parts branches items item atom char_meaning with_repetitions repetitions skip first names_below chars
no_path byte path = none-found byte path (find_str none (byte ∷ path) 0) refl

not-empty : (path : List ℕ) → bytes_eq [] path ≡ false → is_found (codes "^$") path ≡ false
not-empty [] some = absurd (cc)
not-empty (byte ∷ path) some = no_path byte path

-- ---- a pattern alone

none-first : (b : Bool) (entry : FileEntry) (rest : Option FileEntry) → (if b then Some entry else rest) ≡ None → (b ≡ false) × (rest ≡ None)
none-first true entry rest none_there = absurd (cc)
none-first false entry rest none_there = (refl, none_there)

both-true : (b : Bool) → ((b && true) && true) ≡ b
both-true true = refl
both-true false = refl

module _ (pattern : List ℕ) (candidates : List (List ℕ)) where
  row-alone : (row : File) → is_candidate candidates row.path ≡ true → bytes_eq [] row.path ≡ false → is_selected (rules_of_pattern pattern) candidates row ≡ is_found pattern row.path
  unfolding is_selected
  row-alone row is some = rw (is, every_path row.path, not-empty row.path some) (both-true (is_found pattern row.path))

  rows-alone : (rows : List File) → Each (λ row. is_candidate candidates row.path ≡ true) rows → entry_of [] rows ≡ None
      → filter (is_selected (rules_of_pattern pattern) candidates) rows ≡ filter (λ row. is_found pattern row.path) rows
  rows-alone [] are none_there = refl
  rows-alone (row ∷ rows) are none_there =
      let parts = none-first (bytes_eq [] row.path) row.entry (entry_of [] rows) none_there in
      ap₂ (λ (kept : Bool) (rest : List File). if kept then row ∷ rest else rest) (row-alone row are.0 parts.0) (rows-alone rows are.1 parts.1)

-- what a pattern selects alone is where it is found
pub selected_alone : (pattern : List ℕ) (tree : List File) → entry_of [] tree ≡ None → selected (rules_of_pattern pattern) (map path_of tree) tree ≡ found_in pattern tree
selected_alone pattern tree none_there =
    let all = map path_of tree in
    ap (map path_of) (rows-alone pattern all tree (all_are_candidates tree) none_there)

-- the default of `exclude` is found in no path
filtered-out : (b : Bool) (row : File) (rows : List File) → b ≡ false → (if b then row ∷ rows else rows) ≡ rows
filtered-out false row rows is = refl
filtered-out true row rows is = absurd (cc)

none-kept : (tree : List File) → entry_of [] tree ≡ None → filter (λ (row : File). is_found (codes "^$") row.path) tree ≡ []
none-kept [] none_there = refl
none-kept (row ∷ rows) none_there =
    let parts = none-first (bytes_eq [] row.path) row.entry (entry_of [] rows) none_there in
    filtered-out (is_found (codes "^$") row.path) row (filter (λ (other : File). is_found (codes "^$") other.path) rows) (not-empty row.path parts.0) ∙ none-kept rows parts.1

pub none_found_in : (tree : List File) → entry_of [] tree ≡ None → found_in (codes "^$") tree ≡ []
none_found_in tree none_there = ap (map path_of) (none-kept tree none_there)
