-- Few fixes: the files that have one, and how each is put in place or taken out.
use Rattle.std.proofs.Common.{◌≡◌, ℕ, zero, suc, ◌+◌, ◌<◌, ◌≤◌, true, false, List, [], ◌∷◌, ◌++◌, map, length, drop, get_or, IsTrue, is_some, Option, None, Some, if◌then◌else◌, refl, sym, ap, subst, ◌∙◌, append_assoc, append-nil, inl, inr, arith}
use Rattle.std.specs.Str.{bytes_eq}
use Rattle.std.specs.Cmp.Lexicographic.{bytes_decides}
use Rattle.std.proofs.lemmas.List.{length-map}
use lib.ListN.{drop_of_length-le}
use Rattle.hook_base.specs.declared.change.Change.{Change}
use Rattle.hook_base.specs.declared.file.File.{File}
use Rattle.hook_base.specs.declared.file.FileEntry.{FileEntry}
use Rattle.hook_base.specs.Places.{IsAt}
use Rattle.hook_base.specs.Rising.{IsBelowAll}
use Rattle.hook_base.specs.RisingLemmas.{above_differs, below_all_later, bytes_same, greater_from_below, path_cases, path_itself}
use Rattle.hook_base.specs.Trees.{IsRising, IsRisingChanges, path_of, entry_of, put_row, remove_file, rewrite_file, with_bytes, apply_at, apply_change, apply_changes}
use Rattle.hook_base.specs.TreeLemmas.{at_within, entry_of-first, entry_of-later, rewrite_file-later}
use Rattle.repo_store.specs.declared.accepted.Accepted.{Accepted}
use Rattle.repo_store.specs.declared.accepted.Accepted.TheVariants.{Few, All}
use Rattle.repo_store.specs.Shared.{FileParts}
use Rattle.repo_store.specs.declared.shared.SharedFix.{SharedFix}
use Rattle.repo_store.specs.Accepted.{HaveSameFixed, HasAcceptedFiles, accepted_files, file_at, files_with_fix}
use Rattle.repo_store.specs.Lists.{entry_in, file_of, fix_of}
use Rattle.repo_store.proofs.AcceptLemmas.{earlier_entry, other_entry}
use Rattle.repo_store.proofs.FixedLemmas.{next_file}

abbrev change_path : Change → List ℕ
change_path change = change.path

-- ---- the file at a place

pub within_held : (path : List ℕ) (files : List FileParts) (k : ℕ) → IsAt path (map file_of files) k → k < length files
within_held path files k at = let within = at_within path (map file_of files) k at in omega (arith, length-map files file_of)

pub held_at : (path : List ℕ) (files : List FileParts) (k : ℕ) (file : FileParts) → IsAt path (map file_of files) k → file ≡ get_or files k file
    → (path ≡ file.path) × (entry_of path (map file_of files) ≡ Some (entry_in file))
held_at path [] k file at is = absurd at
held_at path (first ∷ files) zero file at is =
    subst (λ (f : FileParts). (path ≡ f.path) × (entry_of path (map file_of (first ∷ files)) ≡ Some (entry_in f))) (sym is) (at, rw (bytes_same path first.path at) refl)
held_at path (first ∷ files) (suc k) file at is =
    let rest = held_at path files k file at.1 is in
    (rest.0, rw (above_differs path first.path at.0) rest.1)

pub named : (path : List ℕ) (file : FileParts) → path ≡ file.path → record { path = path; entry = entry_in file } ≡ file_of file
named path file same = ap (λ (p : List ℕ). let made : File = record { path = p; entry = entry_in file } in made) same

pub held_alone : (path : List ℕ) (files : List FileParts) (k : ℕ) (file : FileParts) → IsAt path (map file_of files) k → file ≡ get_or files k file
    → file_at path (entry_of path (map file_of files)) ≡ file_of file ∷ []
held_alone path files k file at is =
    let both = held_at path files k file at is in
    ap (file_at path) both.1 ∙ ap (λ (f : File). f ∷ []) (named path file both.0)

-- ---- what stands at a path after a fix

abbrev entry_now : Option (List ℕ) → Option FileEntry → Option FileEntry
entry_now None entry = None
entry_now (Some bytes) None = None
entry_now (Some bytes) (Some entry) = Some (record { mode = entry.mode; bytes = bytes })

own_entry : (path : List ℕ) (now : Option (List ℕ)) (files : List File) → entry_of path (apply_at path now files) ≡ entry_now now (entry_of path files)
own_entry path None [] = refl
own_entry path (Some bytes) [] = refl
own_entry path None (file ∷ files) =
    elim (bytes_eq path file.path) as (λ b. (bytes_eq path file.path ≡ b) → entry_of path (if b then remove_file path files else file ∷ remove_file path files) ≡ None) [
      | true ↦ λ h. own_entry path None files
      | false ↦ λ h. rw h (own_entry path None files)
    ] refl
own_entry path (Some bytes) (file ∷ files) =
    elim (bytes_eq path file.path) as (λ b. (bytes_eq path file.path ≡ b)
    → entry_of path ((if b then with_bytes bytes file else file) ∷ rewrite_file path bytes files) ≡ entry_now (Some bytes) (if b then Some file.entry else entry_of path files)) [
      | true ↦ λ h. rw h refl
      | false ↦ λ h. rw h (own_entry path (Some bytes) files)
    ] refl

-- it hangs on what stood there alone
same_entry_at : (path at : List ℕ) (now : Option (List ℕ)) (xs ys : List File) → entry_of path xs ≡ entry_of path ys → entry_of path (apply_at at now xs) ≡ entry_of path (apply_at at now ys)
same_entry_at path at now xs ys same =
    elim (bytes_eq path at) as (λ b. (bytes_eq path at ≡ b) → entry_of path (apply_at at now xs) ≡ entry_of path (apply_at at now ys)) [
      | true ↦ λ h.
          subst (λ (p : List ℕ). entry_of path (apply_at p now xs) ≡ entry_of path (apply_at p now ys)) ((bytes_decides path at).0 h)
          (own_entry path now xs ∙ ap (entry_now now) same ∙ sym (own_entry path now ys))
      | false ↦ λ h. other_entry path at now xs h ∙ same ∙ sym (other_entry path at now ys h)
    ] refl

same_entry : (path : List ℕ) (changes : List Change) (xs ys : List File) → entry_of path xs ≡ entry_of path ys → entry_of path (apply_changes changes xs) ≡ entry_of path (apply_changes changes ys)
same_entry path [] xs ys same = same
same_entry path (change ∷ changes) xs ys same = same_entry path changes (apply_at change.path change.now xs) (apply_at change.path change.now ys) (same_entry_at path change.path change.now xs ys same)

same_applied : (fixes changes : List Change) (xs ys : List File) → HaveSameFixed fixes xs ys → HaveSameFixed fixes (apply_changes changes xs) (apply_changes changes ys)
same_applied [] changes xs ys same = tt
same_applied (fix ∷ fixes) changes xs ys same = (same_entry fix.path changes xs ys same.0, same_applied fixes changes xs ys same.1)

-- ---- the files that have a fix

below_found : (path : List ℕ) (fixes : List Change) (files : List File) → IsBelowAll change_path path fixes → IsBelowAll path_of path (files_with_fix fixes files)
below_found path [] files below = tt
below_found path (fix ∷ fixes) files below =
    elim (entry_of fix.path files) as (λ o. IsBelowAll path_of path (file_at fix.path o ++ files_with_fix fixes files)) [
      | None ↦ below_found path fixes files below.1
      | Some entry ↦ (below.0, below_found path fixes files below.1)
    ]

pub found_rise : (fixes : List Change) (files : List File) → IsRisingChanges fixes → IsRising (files_with_fix fixes files)
found_rise [] files up = tt
found_rise (fix ∷ fixes) files up =
    elim (entry_of fix.path files) as (λ o. IsRising (file_at fix.path o ++ files_with_fix fixes files)) [
      | None ↦ found_rise fixes files up.1
      | Some entry ↦ (below_found fix.path fixes files up.0, found_rise fixes files up.1)
    ]

entry_here : (path : List ℕ) (entry : Option FileEntry) (rest : List File) → IsBelowAll path_of path rest → entry_of path (file_at path entry ++ rest) ≡ entry
entry_here path None rest later = entry_of-later path rest later
entry_here path (Some entry) rest later = rw (bytes_same path path refl) refl

entry_there : (path at : List ℕ) (entry : Option FileEntry) (rest : List File) → bytes_eq path at ≡ false → entry_of path (file_at at entry ++ rest) ≡ entry_of path rest
entry_there path at None rest differs = refl
entry_there path at (Some entry) rest differs = rw differs refl

first_more : (at : List ℕ) (entry : Option FileEntry) (xs ys : List File) (fixes : List Change) → IsBelowAll change_path at fixes → HaveSameFixed fixes xs ys
    → HaveSameFixed fixes (file_at at entry ++ xs) ys
first_more at entry xs ys [] below same = tt
first_more at entry xs ys (fix ∷ fixes) below same = (entry_there fix.path at entry xs (above_differs fix.path at below.0) ∙ same.0, first_more at entry xs ys fixes below.1 same.1)

found_same : (fixes : List Change) (files : List File) → IsRisingChanges fixes → HaveSameFixed fixes (files_with_fix fixes files) files
found_same [] files up = tt
found_same (fix ∷ fixes) files up =
    let found = files_with_fix fixes files in
    (entry_here fix.path (entry_of fix.path files) found (below_found fix.path fixes files up.0), first_more fix.path (entry_of fix.path files) found files fixes up.0 (found_same fixes files up.1))

pub few_same : (fixes : List Change) (files : List File) → IsRisingChanges fixes → HaveSameFixed fixes (apply_changes fixes (files_with_fix fixes files)) (apply_changes fixes files)
few_same fixes files up = same_applied fixes fixes (files_with_fix fixes files) files (found_same fixes files up)

all_same : (fixes : List Change) (files : List File) → HaveSameFixed fixes files files
all_same [] files = tt
all_same (fix ∷ fixes) files = (refl, all_same fixes files)

pub accepted_same : (fixes : List Change) (staged : List File) (accepted : Accepted) → HasAcceptedFiles fixes staged accepted
    → HaveSameFixed fixes (map file_of (accepted_files accepted)) (apply_changes fixes staged)
accepted_same fixes staged (Few files) is = is
accepted_same fixes staged (All files) is = subst (λ (l : List File). HaveSameFixed fixes l (apply_changes fixes staged)) (sym is) (all_same fixes (apply_changes fixes staged))

-- one more is found, at a step of the loop
pub more_found : (made new all files : List File) (fixes : List SharedFix) (i : ℕ) (fix : SharedFix) → i < length fixes → fix ≡ get_or fixes i fix
    → new ≡ made ++ file_at fix.path (entry_of fix.path files)
    → made ++ files_with_fix (map fix_of (drop i fixes)) files ≡ all → new ++ files_with_fix (map fix_of (drop (i + 1) fixes)) files ≡ all
more_found made new all files fixes i fix within is new_is so_far =
    let rest = files_with_fix (map fix_of (drop (i + 1) fixes)) files in
    ap (λ (l : List File). l ++ rest) new_is ∙ append_assoc made (file_at fix.path (entry_of fix.path files)) rest
    ∙ ap (λ (l : List SharedFix). made ++ files_with_fix (map fix_of l) files) (sym (next_file fixes i fix within is)) ∙ so_far

pub all_found : (made all files : List File) (fixes : List SharedFix) (i : ℕ) → length fixes ≤ i → made ++ files_with_fix (map fix_of (drop i fixes)) files ≡ all → made ≡ all
all_found made all files fixes i over so_far = sym (append-nil made) ∙ ap (λ (l : List SharedFix). made ++ files_with_fix (map fix_of l) files) (sym (drop_of_length-le fixes over)) ∙ so_far

-- ---- a fix put in place

pub gone : (path : List ℕ) (now : Option (List ℕ)) (files : List File) → entry_of path (apply_at path now files) ≡ None → remove_file path files ≡ apply_at path now files
gone path None files none = refl
gone path (Some bytes) [] none = refl
gone path (Some bytes) (file ∷ files) none =
    elim (bytes_eq path file.path) as (λ b. (bytes_eq path file.path ≡ b) → (entry_of path ((if b then with_bytes bytes file else file) ∷ rewrite_file path bytes files) ≡ None)
    → (if b then remove_file path files else file ∷ remove_file path files) ≡ (if b then with_bytes bytes file else file) ∷ rewrite_file path bytes files) [
      | true ↦ λ h n.
          let there = entry_of-first path (with_bytes bytes file) (rewrite_file path bytes files) ((bytes_decides path file.path).0 h) in
          absurd (cc)
      | false ↦ λ h n.
          let skip : entry_of path (file ∷ rewrite_file path bytes files) ≡ entry_of path (rewrite_file path bytes files) = rw h refl in
          ap (λ (l : List File). file ∷ l) (gone path (Some bytes) files (sym skip ∙ n))
    ] refl none

some_before : (now : Option (List ℕ)) (before : Option FileEntry) (entry : FileEntry) → entry_now now before ≡ Some entry → IsTrue (is_some before)
some_before None before entry is = absurd (cc)
some_before (Some bytes) None entry is = absurd (cc)
some_before (Some bytes) (Some old) entry is = refl

pub was_there : (path : List ℕ) (now : Option (List ℕ)) (files : List File) (entry : FileEntry) → entry_of path (apply_at path now files) ≡ Some entry → IsTrue (is_some (entry_of path files))
was_there path now files entry is = some_before now (entry_of path files) entry (sym (own_entry path now files) ∙ is)

same_bytes_at : (entry old : FileEntry) (bytes : List ℕ) → Some (record { mode = old.mode; bytes = bytes }) ≡ Some entry → record { mode = old.mode; bytes = bytes } ≡ entry
same_bytes_at entry old bytes is = cc

pub put_fixed : (path : List ℕ) (now : Option (List ℕ)) (files : List File) (entry : FileEntry) → IsRising files → entry_of path (apply_at path now files) ≡ Some entry
    → put_row (record { path = path; entry = entry }) files ≡ apply_at path now files
put_fixed path None files entry up is = let none = own_entry path None files in absurd (cc)
put_fixed path (Some bytes) [] entry up is = absurd (cc)
put_fixed path (Some bytes) (file ∷ files) entry up is =
    elim (path_cases path file.path) [
      | inl (inl below) ↦
          let later : IsBelowAll path_of path (file ∷ files) = (below, below_all_later path_of path file.path files below up.0) in
          let none = ap (entry_of path) (rewrite_file-later path bytes (file ∷ files) later) ∙ entry_of-later path (file ∷ files) later in
          absurd (cc)
      | inl (inr same) ↦
          let first = entry_of-first path (with_bytes bytes file) (rewrite_file path bytes files) same in
          let whole : rewrite_file path bytes (file ∷ files) ≡ with_bytes bytes file ∷ files =
          rw (bytes_same path file.path same) (ap (λ (l : List File). with_bytes bytes file ∷ l)
          (rewrite_file-later path bytes files (subst (λ (p : List ℕ). IsBelowAll path_of p files) (sym same) up.0))) in
          let now_is : entry_of path (with_bytes bytes file ∷ files) ≡ Some entry = ap (entry_of path) (sym whole) ∙ is in
          let one = entry_of-first path (with_bytes bytes file) files same in
          let new : record { path = path; entry = entry } ≡ with_bytes bytes file = joined path file entry bytes same (sym one ∙ now_is) in
          rw (path_itself path file.path same) (ap (λ (f : File). f ∷ files) new ∙ sym whole)
      | inr above ↦
          let skip : entry_of path (rewrite_file path bytes (file ∷ files)) ≡ entry_of path (rewrite_file path bytes files) =
          rw (above_differs path file.path above, above_differs path file.path above) refl in
          let rest : rewrite_file path bytes (file ∷ files) ≡ file ∷ rewrite_file path bytes files = rw (above_differs path file.path above) refl in
          rw (greater_from_below file.path path above) (ap (λ (l : List File). file ∷ l) (put_fixed path (Some bytes) files entry up.1 (sym skip ∙ is)) ∙ sym rest)
    ]
  where
    joined : (path : List ℕ) (file : File) (entry : FileEntry) (bytes : List ℕ) → path ≡ file.path → Some (with_bytes bytes file).entry ≡ Some entry
        → record { path = path; entry = entry } ≡ with_bytes bytes file
    joined path file entry bytes same is =
        let entries : (with_bytes bytes file).entry ≡ entry = cc in
        ap (λ (e : FileEntry). let made : File = record { path = path; entry = e } in made) (sym entries)
        ∙ ap (λ (p : List ℕ). let made : File = record { path = p; entry = (with_bytes bytes file).entry } in made) same

-- ---- the fixes put in place one by one

pub first_fixed : (fix : Change) (fixes : List Change) (fixed files : List File) → IsRisingChanges (fix ∷ fixes) → HaveSameFixed (fix ∷ fixes) fixed (apply_changes (fix ∷ fixes) files)
    → entry_of fix.path fixed ≡ entry_of fix.path (apply_change fix files)
first_fixed fix fixes fixed files up same = same.0 ∙ earlier_entry fix.path fixes (apply_at fix.path fix.now files) up.0

first_less : (at : List ℕ) (fixes : List Change) (xs ys : List File) → IsBelowAll change_path at fixes → HaveSameFixed fixes xs ys → HaveSameFixed fixes (remove_file at xs) ys
first_less at [] xs ys below same = tt
first_less at (fix ∷ fixes) xs ys below same = (other_entry fix.path at None xs (above_differs fix.path at below.0) ∙ same.0, first_less at fixes xs ys below.1 same.1)

pub rest_fixed : (fix : Change) (fixes : List Change) (fixed files : List File) → IsRisingChanges (fix ∷ fixes) → HaveSameFixed (fix ∷ fixes) fixed (apply_changes (fix ∷ fixes) files)
    → HaveSameFixed fixes (remove_file fix.path fixed) (apply_changes fixes (apply_change fix files))
rest_fixed fix fixes fixed files up same = first_less fix.path fixes fixed (apply_changes fixes (apply_at fix.path fix.now files)) up.0 same.1
