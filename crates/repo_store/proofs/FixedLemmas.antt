-- Fixes applied in one walk over files and fixes.
use Rattle.std.proofs.Common.{◌≡◌, ℕ, zero, suc, ◌+◌, ◌<◌, ◌≤◌, true, false, List, [], ◌∷◌, ◌++◌, map, length, drop, get_or, Option, None, Some, if◌then◌else◌, refl, sym, ap, subst, ◌∙◌, append_assoc, append-nil, drop-cons, inl, inr, arith}
use Rattle.std.specs.List.{drop-map}
use Rattle.std.specs.Str.{bytes_eq}
use Rattle.std.proofs.lemmas.List.{map-append}
use lib.ListN.{drop_of_length-le}
use Rattle.hook_base.specs.declared.change.Change.{Change}
use Rattle.hook_base.specs.declared.file.File.{File}
use Rattle.hook_base.specs.Rising.{IsBelow, IsBelowAll}
use Rattle.hook_base.specs.RisingLemmas.{above_differs, below_all_later, bytes_same, path_cases}
use Rattle.hook_base.specs.Trees.{IsRising, IsRisingChanges, path_of, remove_file, rewrite_file, with_bytes, apply_at, apply_change, apply_changes}
use Rattle.hook_base.specs.TreeLemmas.{remove_file-later, rewrite_file-later}
use Rattle.repo_store.specs.Shared.{FileParts}
use Rattle.repo_store.specs.declared.shared.SharedFix.{SharedFix}
use Rattle.repo_store.specs.Accepted.{HasReached}
use Rattle.repo_store.specs.Lists.{file_of, fix_of}

abbrev change_path : Change → List ℕ
change_path change = change.path

-- ---- what a fix leaves as it is

later_kept : (path : List ℕ) (now : Option (List ℕ)) (files : List File) → IsBelowAll path_of path files → apply_at path now files ≡ files
later_kept path None files later = remove_file-later path files later
later_kept path (Some bytes) files later = rewrite_file-later path bytes files later

pub first_skipped : (fix : Change) (fixes : List Change) (files : List File) → IsBelowAll path_of fix.path files → apply_changes (fix ∷ fixes) files ≡ apply_changes fixes files
first_skipped fix fixes files later = ap (apply_changes fixes) (later_kept fix.path fix.now files later)

earlier_kept : (path : List ℕ) (now : Option (List ℕ)) (file : File) → IsBelow file.path path → apply_at path now (file ∷ []) ≡ file ∷ []
earlier_kept path None file below = rw (above_differs path file.path below) refl
earlier_kept path (Some bytes) file below = rw (above_differs path file.path below) refl

pub one_kept : (file : File) (fixes : List Change) → IsBelowAll change_path file.path fixes → apply_changes fixes (file ∷ []) ≡ file ∷ []
one_kept file [] below = refl
one_kept file (fix ∷ fixes) below = ap (apply_changes fixes) (earlier_kept fix.path fix.now file below.0) ∙ one_kept file fixes below.1

pub none_kept : (fixes : List Change) → apply_changes fixes [] ≡ []
none_kept [] = refl
none_kept (fix ∷ fixes) = ap (apply_changes fixes) (later_kept fix.path fix.now [] tt) ∙ none_kept fixes

-- ---- one file

-- the first fix is of a later path
left_alone : (file : File) (fix : Change) (fixes : List Change) → IsRisingChanges (fix ∷ fixes) → (IsBelow fix.path file.path → ⊥) → (fix.path ≡ file.path → ⊥)
    → apply_changes (fix ∷ fixes) (file ∷ []) ≡ file ∷ []
left_alone file fix fixes rising reached differs =
    elim (path_cases fix.path file.path) [
      | inl (inl below) ↦ absurd (reached below)
      | inl (inr same) ↦ absurd (differs same)
      | inr above ↦ one_kept file (fix ∷ fixes) (above, below_all_later change_path file.path fix.path fixes above rising.0)
    ]

applied_at : (file : File) (path : List ℕ) (now : Option (List ℕ)) (fixes : List Change) → IsBelowAll change_path path fixes → path ≡ file.path
    → apply_changes fixes (apply_at path now (file ∷ [])) ≡ apply_at path now (file ∷ [])
applied_at file path None fixes below same = rw (bytes_same path file.path same) (none_kept fixes)
applied_at file path (Some bytes) fixes below same = rw (bytes_same path file.path same) (one_kept (with_bytes bytes file) fixes (subst (λ (p : List ℕ). IsBelowAll change_path p fixes) same below))

applied_here : (file : File) (fix : Change) (fixes : List Change) → IsRisingChanges (fix ∷ fixes) → fix.path ≡ file.path → apply_changes (fix ∷ fixes) (file ∷ []) ≡ apply_change fix (file ∷ [])
applied_here file fix fixes rising same = applied_at file fix.path fix.now fixes rising.0 same

pub taken_out : (file : File) (fix : Change) → fix.path ≡ file.path → fix.now ≡ None → apply_change fix (file ∷ []) ≡ []
taken_out file fix same gone =
    ap (λ (now : Option (List ℕ)). apply_at fix.path now (file ∷ [])) gone ∙ (let here : remove_file fix.path (file ∷ []) ≡ [] = rw (bytes_same fix.path file.path same) refl in here)

pub written : (file : File) (fix : Change) (bytes : List ℕ) → fix.path ≡ file.path → fix.now ≡ Some bytes → apply_change fix (file ∷ []) ≡ with_bytes bytes file ∷ []
written file fix bytes same now =
    ap (λ (o : Option (List ℕ)). apply_at fix.path o (file ∷ [])) now
    ∙ (let here : rewrite_file fix.path bytes (file ∷ []) ≡ with_bytes bytes file ∷ [] = rw (bytes_same fix.path file.path same) refl in here)

-- ---- the walk

at_apart : (path : List ℕ) (now : Option (List ℕ)) (xs ys : List File) → apply_at path now (xs ++ ys) ≡ apply_at path now xs ++ apply_at path now ys
at_apart path None [] ys = refl
at_apart path (Some bytes) [] ys = refl
at_apart path None (x ∷ xs) ys =
    elim (bytes_eq path x.path) as (λ b. (if b then remove_file path (xs ++ ys) else x ∷ remove_file path (xs ++ ys))
    ≡ (if b then remove_file path xs else x ∷ remove_file path xs) ++ remove_file path ys) [
      | true ↦ at_apart path None xs ys
      | false ↦ ap (λ (l : List File). x ∷ l) (at_apart path None xs ys)
    ]
at_apart path (Some bytes) (x ∷ xs) ys = ap (λ (l : List File). (if bytes_eq path x.path then with_bytes bytes x else x) ∷ l) (at_apart path (Some bytes) xs ys)

changes_apart : (fixes : List Change) (xs ys : List File) → apply_changes fixes (xs ++ ys) ≡ apply_changes fixes xs ++ apply_changes fixes ys
changes_apart [] xs ys = refl
changes_apart (fix ∷ fixes) xs ys = ap (apply_changes fixes) (at_apart fix.path fix.now xs ys) ∙ changes_apart fixes (apply_at fix.path fix.now xs) (apply_at fix.path fix.now ys)

-- what is below the first is below all
pub below_first : (file : File) (files : List File) → IsRising (file ∷ files) → (earlier : List ℕ) → IsBelow earlier file.path → IsBelowAll path_of earlier (file ∷ files)
below_first file files rising earlier below = (below, below_all_later path_of earlier file.path files below rising.0)

-- one file more
pub walked : (made all : List File) (file : File) (files : List File) (fixes left : List Change) → made ++ apply_changes fixes (file ∷ files) ≡ all
    → apply_changes fixes (file ∷ files) ≡ apply_changes left (file ∷ files)
    → (made ++ apply_changes left (file ∷ [])) ++ apply_changes left files ≡ all
walked made all file files fixes left so_far same =
    append_assoc made (apply_changes left (file ∷ [])) (apply_changes left files) ∙ ap (λ (l : List File). made ++ l) (sym (changes_apart left (file ∷ []) files) ∙ sym same) ∙ so_far

pub next_file : {X : Type 0} (xs : List X) (i : ℕ) (x : X) → i < length xs → x ≡ get_or xs i x → drop i xs ≡ x ∷ drop (i + 1) xs
next_file {X} xs i x within is =
    let next : suc i ≡ i + 1 = omega arith in
    drop-cons xs i x within ∙ ap (λ (y : X). y ∷ drop (suc i) xs) (sym is) ∙ ap (λ (n : ℕ). x ∷ drop n xs) next

rising_drop : (n : ℕ) (files : List File) → IsRising files → IsRising (drop n files)
rising_drop zero files rising = rising
rising_drop (suc n) [] rising = tt
rising_drop (suc n) (file ∷ files) rising = rising_drop n files rising.1

pub rising_from : (n : ℕ) (files : List FileParts) → IsRising (map file_of files) → IsRising (map file_of (drop n files))
rising_from n files rising = subst (λ (l : List File). IsRising l) (drop-map file_of n files) (rising_drop n (map file_of files) rising)

pub walked_all : (made all : List File) (files : List FileParts) (left : List Change) (i : ℕ) → length files ≤ i → made ++ apply_changes left (map file_of (drop i files)) ≡ all → made ≡ all
walked_all made all files left i over so_far =
    sym (append-nil made) ∙ ap (λ (l : List File). made ++ l) (sym (none_kept left)) ∙ ap (λ (l : List FileParts). made ++ apply_changes left (map file_of l)) (sym (drop_of_length-le files over))
    ∙ so_far

-- ---- passing over fixes of earlier paths

-- from the path on, the fixes that are left do what all do
abbrev pub SameFrom : List Change → List Change → List ℕ → Type 0
SameFrom fixes left path = (files : List File) → ((earlier : List ℕ) → IsBelow earlier path → IsBelowAll path_of earlier files) → apply_changes fixes files ≡ apply_changes left files

first_of : (left : List SharedFix) (fix : SharedFix) → 1 ≤ length left → fix ≡ get_or left 0 fix → map fix_of left ≡ fix_of fix ∷ map fix_of (drop 1 left)
first_of [] fix some is = absurd (omega arith)
first_of (first ∷ left) fix some is = ap (λ (f : SharedFix). fix_of f ∷ map fix_of left) (sym is)

module _ (left : List SharedFix) (fix : SharedFix) (some : 1 ≤ length left) (is : fix ≡ get_or left 0 fix) where
  pub rest_rises : IsRisingChanges (map fix_of left) → IsRisingChanges (map fix_of (drop 1 left))
  rest_rises rising = let all = subst (λ (l : List Change). IsRisingChanges l) (first_of left fix some is) rising in all.1

  pub rest_same : (fixes : List Change) (path : List ℕ) → IsBelow fix.path path → SameFrom fixes (map fix_of left) path → SameFrom fixes (map fix_of (drop 1 left)) path
  rest_same fixes path earlier same files below =
      same files below ∙ ap (λ (l : List Change). apply_changes l files) (first_of left fix some is) ∙ first_skipped (fix_of fix) (map fix_of (drop 1 left)) files (below fix.path earlier)

  pub reached_first : (path : List ℕ) → (IsBelow fix.path path → ⊥) → HasReached path (map fix_of left)
  reached_first path later = subst (HasReached path) (sym (first_of left fix some is)) later

  pub found_here : (file : File) → IsRisingChanges (map fix_of left) → fix.path ≡ file.path → apply_changes (map fix_of left) (file ∷ []) ≡ apply_change (fix_of fix) (file ∷ [])
  found_here file rising same =
      ap (λ (l : List Change). apply_changes l (file ∷ [])) (first_of left fix some is)
      ∙ applied_here file (fix_of fix) (map fix_of (drop 1 left)) (subst (λ (l : List Change). IsRisingChanges l) (first_of left fix some is) rising) same

  pub other_here : (file : File) → IsRisingChanges (map fix_of left) → HasReached file.path (map fix_of left) → (fix.path ≡ file.path → ⊥) → apply_changes (map fix_of left) (file ∷ []) ≡ file ∷ []
  other_here file rising reached differs =
      ap (λ (l : List Change). apply_changes l (file ∷ [])) (first_of left fix some is)
      ∙ left_alone file (fix_of fix) (map fix_of (drop 1 left)) (subst (λ (l : List Change). IsRisingChanges l) (first_of left fix some is) rising)
      (subst (HasReached file.path) (first_of left fix some is) reached) differs

pub empty_here : (left : List SharedFix) (file : File) → length left < 1 → apply_changes (map fix_of left) (file ∷ []) ≡ file ∷ []
empty_here [] file few = refl
empty_here (fix ∷ left) file few = absurd (omega arith)

pub pushed : (made new : List FileParts) (value : FileParts) (out : List File) → new ≡ made ++ value ∷ [] → out ≡ file_of value ∷ [] → map file_of new ≡ map file_of made ++ out
pushed made new value out new_is out_is = ap (map file_of) new_is ∙ map-append file_of made (value ∷ []) ∙ ap (λ (l : List File). map file_of made ++ l) (sym out_is)

pub not_pushed : (made : List FileParts) (out : List File) → out ≡ [] → map file_of made ≡ map file_of made ++ out
not_pushed made out out_is = sym (append-nil (map file_of made)) ∙ ap (λ (l : List File). map file_of made ++ l) (sym out_is)
