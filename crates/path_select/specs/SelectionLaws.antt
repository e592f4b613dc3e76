-- Laws of selection that its callers cite.
use Rattle.std.specs.Prelude.{◌≡◌, ℕ, Bool, true, false, ◌&&◌, ◌||◌, if◌then◌else◌, List, [], ◌∷◌, map, filter, refl}
use Rattle.std.specs.Cmp.Lexicographic.{bytes_decides}
use Rattle.std.specs.List.{AllByRecursion as Each}
use Rattle.std.specs.Str.{bytes_eq}
use Rattle.std.proofs.Common.{ap, subst, sym, ◌∙◌}
use Rattle.hook_base.specs.declared.file.File.{File}
use Rattle.hook_base.specs.Rising.{IsBelowAll}
use Rattle.hook_base.specs.RisingLemmas.{IsRisingBy-filter, bytes_same}
use Rattle.hook_base.specs.Trees.{IsRising, path_of}
use Rattle.path_select.specs.Candidates.{AreRisingPaths, ArePassing, is_candidate, passes}
use Rattle.path_select.specs.Patterns.{is_found}
use Rattle.path_select.specs.Selection.{RuleTexts, fits_hook, found_in, is_selected, selected, selected_among}
use mathlib.Core.Path.{fun_ext}

turned : (a b c : Bool) → ((a && b) && c) ≡ (b && (a && c))
turned true true c = refl
turned true false c = refl
turned false true c = refl
turned false false c = refl

-- what is selected among the candidates that pass the patterns of the whole configuration is what is selected
-- among all
pub selected_among_passing : (rules : RuleTexts) (candidates among : List (List ℕ)) (tree : List File)
    → ArePassing rules.top_files rules.top_exclude candidates among
    → selected_among rules among tree ≡ selected rules candidates tree
unfolding is_selected
selected_among_passing rules candidates among tree passing =
    let top = passes rules.top_files rules.top_exclude in
    ap (λ test. map path_of (filter test tree)) (fun_ext (λ (row : File).
    ap (λ found. found && fits_hook rules row) (passing.exact row.path)
    ∙ turned (top row.path) (is_candidate candidates row.path) (fits_hook rules row)))

before_paths : (path : List ℕ) (rows : List File) → IsBelowAll path_of path rows
    → IsBelowAll (λ other. other) path (map path_of rows)
before_paths path [] below = tt
before_paths path (row ∷ rows) below = (below.0, before_paths path rows below.1)

rising_paths : (rows : List File) → IsRising rows → AreRisingPaths (map path_of rows)
rising_paths [] rising = tt
rising_paths (row ∷ rows) rising = (before_paths row.path rows rising.0, rising_paths rows rising.1)

-- what is selected is in the order of the paths, each once
pub selected_rising : (rules : RuleTexts) (candidates : List (List ℕ)) (tree : List File) → IsRising tree
    → AreRisingPaths (selected rules candidates tree)
selected_rising rules candidates tree rising =
    rising_paths (filter (is_selected rules candidates) tree)
    (IsRisingBy-filter path_of (is_selected rules candidates) tree rising)

or-true : (b : Bool) → (b || true) ≡ true
or-true true = refl
or-true false = refl

candidates-within : (candidates : List (List ℕ)) (rows : List File)
    → ((path : List ℕ) → is_candidate (map path_of rows) path ≡ true → is_candidate candidates path ≡ true)
    → Each (λ row. is_candidate candidates row.path ≡ true) rows
candidates-within candidates [] within = tt
candidates-within candidates (row ∷ rows) within = (
  within row.path (rw (bytes_same row.path row.path refl) refl),
  candidates-within candidates rows (λ path is. within path (rw is (or-true (bytes_eq row.path path)))),
)

-- each file is a candidate if all paths are
pub all_are_candidates : (tree : List File) → Each (λ row. is_candidate (map path_of tree) row.path ≡ true) tree
all_are_candidates tree = candidates-within (map path_of tree) tree (λ path is. is)

and-false : (b : Bool) → (b && false) ≡ false
and-false true = refl
and-false false = refl

found-there : (found rest all : Bool) → rest ≡ (all && found) → (if found then true else rest) ≡ found
found-there true rest all is = refl
found-there false rest all is = is ∙ and-false all

found-next : (first here rest all found : Bool) → rest ≡ (all && found) → (here ≡ true → first ≡ found)
    → (if first then here || rest else rest) ≡ ((here || all) && found)
found-next first true rest all found is same =
    subst (λ (b : Bool). (if b then true else rest) ≡ found) (sym (same refl)) (found-there found rest all is)
found-next true false rest all found is same = is
found-next false false rest all found is same = is

found-first : (first : Bool) (row : File) (rows : List File) (path : List ℕ)
    → is_candidate (map path_of (if first then row ∷ rows else rows)) path
    ≡ (if first then bytes_eq row.path path || is_candidate (map path_of rows) path else is_candidate (map path_of rows)
    path)
found-first true row rows path = refl
found-first false row rows path = refl

-- a path is among those in which a pattern is found if it is one of the tree's and the pattern is found in it
pub found_among : (pattern : List ℕ) (tree : List File) (path : List ℕ)
    → is_candidate (found_in pattern tree) path ≡ (is_candidate (map path_of tree) path && is_found pattern path)
found_among pattern [] path = refl
found_among pattern (row ∷ rows) path =
    found-first (is_found pattern row.path) row (filter (λ (one : File). is_found pattern one.path) rows) path
    ∙ found-next (is_found pattern row.path) (bytes_eq row.path path) (is_candidate (found_in pattern rows) path)
    (is_candidate (map path_of rows) path) (is_found pattern path)
    (found_among pattern rows path) (λ same. ap (is_found pattern) ((bytes_decides row.path path).0 same))
