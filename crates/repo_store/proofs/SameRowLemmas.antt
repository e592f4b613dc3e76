-- Files are the same where their rows are, and their entries where modes and digests are.
use Rattle.std.proofs.Common.{◌≡◌, ◌≢◌, ℕ, ◌+◌, ◌<◌, Bool, true, false, not, IsTrue, List, [], ◌∷◌, map, length, get_or, Option, None, Some, if◌then◌else◌, refl, sym, ap, ap₂, subst, ◌∙◌, below_more, arith}
use Rattle.std.specs.List.{AllByRecursion}
use Rattle.std.specs.Str.{bytes_eq}
use Rattle.std.proofs.lemmas.List.{get_or_default, length-map, ext_get_or}
use Rattle.std.proofs.lemmas.List.Sorted.{IsPermutation-refl}
use lib.ListN.{get_or-map}
use Rattle.sha2.specs.Sha256.{sha256}
use Rattle.hook_base.specs.declared.file.File.{File}
use Rattle.hook_base.specs.declared.file.FileEntry.{FileEntry}
use Rattle.hook_base.specs.declared.file.Mode.{Mode}
use Rattle.hook_base.specs.Trees.{entry_of}
use Rattle.store_tables.specs.declared.rows.StagedRow.{StagedRow}
use Rattle.repo_store.specs.Shared.{FileParts}
use Rattle.repo_store.specs.Complete.{HaveContents, HaveDistinctDigests, IsAmong, IsComplete}
use Rattle.repo_store.specs.Kept.{Kept}
use Rattle.repo_store.specs.Lists.{entry_in, file_of}
use Rattle.repo_store.specs.Repository.{Commit, last_tree}
use Rattle.repo_store.specs.Rows.{staged_row}
use Rattle.repo_store.proofs.DigestLemmas.{same_bytes, same_files}

-- ---- which contents are kept

last_has : (contents : List (List ℕ)) (history : List Commit) → AllByRecursion (λ (commit : Commit). HaveContents contents commit.tree) history → HaveContents contents (last_tree history)
last_has contents [] all = tt
last_has contents (commit ∷ []) all = all.0
last_has contents (commit ∷ next ∷ more) all = last_has contents (next ∷ more) all.1

entry_has : (contents : List (List ℕ)) (path : List ℕ) (files : List File) (entry : FileEntry) → HaveContents contents files → entry_of path files ≡ Some entry → IsAmong contents entry.bytes
entry_has contents path [] entry all is = absurd (let never : None ≡ Some entry = is in cc)
entry_has contents path (file ∷ files) entry all is =
    elim (bytes_eq path file.path) as (λ b. (if b then Some file.entry else entry_of path files) ≡ Some entry → IsAmong contents entry.bytes) [
      | true ↦ λ h. subst (λ (e : FileEntry). IsAmong contents e.bytes) (let same : file.entry ≡ entry = cc in same) all.0
      | false ↦ λ h. entry_has contents path files entry all.1 h
    ] is

-- ---- files of the same rows

abbrev pub row_of : FileParts → StagedRow
row_of file = staged_row (file_of file)

-- so far the rows are the same
abbrev pub SameRows : List FileParts → List FileParts → ℕ → Type 0
SameRows files others n = (k : ℕ) → k < n → (d : FileParts) → row_of (get_or files k d) ≡ row_of (get_or others k d)

row_at : (files : List FileParts) (i : ℕ) (d : FileParts) → get_or (map staged_row (map file_of files)) i (row_of d) ≡ row_of (get_or files i d)
row_at files i d = get_or-map staged_row (map file_of files) i (file_of d) ∙ ap staged_row (get_or-map file_of files i d)

rows_count : (files : List FileParts) → length (map staged_row (map file_of files)) ≡ length files
rows_count files = length-map (map file_of files) staged_row ∙ length-map files file_of

pub rows_apart : (files others : List FileParts) (i : ℕ) (file other : FileParts) → i < length others → file ≡ get_or files i file → other ≡ get_or others i other
    → map staged_row (map file_of files) ≡ map staged_row (map file_of others) → row_of file ≡ row_of other
rows_apart files others i file other within file_is other_is same =
    ap row_of file_is ∙ sym (row_at files i file) ∙ ap (λ (rows : List StagedRow). get_or rows i (row_of file)) same ∙ row_at others i file
    ∙ ap row_of (get_or_default others i file other within ∙ sym other_is)

pub rows_differ_in_number : (files others : List FileParts) → map staged_row (map file_of files) ≡ map staged_row (map file_of others) → length files ≡ length others
rows_differ_in_number files others same = sym (rows_count files) ∙ ap length same ∙ rows_count others

pub more_same : (files others : List FileParts) (i : ℕ) (file other : FileParts) → i < length files → i < length others → file ≡ get_or files i file → other ≡ get_or others i other
    → SameRows files others i → row_of file ≡ row_of other → SameRows files others (i + 1)
more_same files others i file other within inside file_is other_is before same =
    below_more (λ (k : ℕ). (d : FileParts) → row_of (get_or files k d) ≡ row_of (get_or others k d)) i before
    (λ d. ap row_of (get_or_default files i d file within ∙ sym file_is) ∙ same ∙ ap row_of (other_is ∙ get_or_default others i other d inside))

pub rows_same : (files others : List FileParts) → length files ≡ length others → SameRows files others (length files) → map staged_row (map file_of files) ≡ map staged_row (map file_of others)
rows_same [] [] count same = refl
rows_same [] (other ∷ others) count same = absurd (omega arith)
rows_same (file ∷ files) others count same =
    let all = file ∷ files in
    ext_get_or (row_of file) (map staged_row (map file_of all)) (map staged_row (map file_of others)) (rows_count all ∙ count ∙ sym (rows_count others))
    (λ i within. row_at all i file ∙ same i (omega (arith, rows_count all)) file ∙ sym (row_at others i file))

-- files of the same rows are the same within one store
pub same_from_rows : (kept : Kept) → IsComplete kept → map staged_row kept.repo.staged ≡ map staged_row (last_tree kept.repo.history) → kept.repo.staged ≡ last_tree kept.repo.history
same_from_rows kept complete rows =
    same_files kept.contents kept.contents (IsPermutation-refl kept.contents) complete.apart staged_row (λ (row : StagedRow). row) (λ file. refl) kept.repo.staged (last_tree kept.repo.history)
    complete.staged
    (last_has kept.contents kept.repo.history complete.trees) rows

-- ---- entries of one path

pub same_from_digests : (contents : List (List ℕ)) (path : List ℕ) (files others : List File) (file other : FileParts) → HaveDistinctDigests contents → HaveContents contents files
    → HaveContents contents others
    → Some (entry_in file) ≡ entry_of path files → Some (entry_in other) ≡ entry_of path others → file.mode ≡ other.mode → sha256 file.content ≡ sha256 other.content
    → entry_of path files ≡ entry_of path others
same_from_digests contents path files others file other apart have also file_is other_is mode digest =
    let bytes =
    same_bytes contents contents (IsPermutation-refl contents) apart file.content other.content (entry_has contents path files (entry_in file) have (sym file_is))
    (entry_has contents path others (entry_in other) also (sym other_is)) digest in
    sym file_is ∙ ap Some (ap₂ (λ (m : Mode) (b : List ℕ). let made : FileEntry = record { mode = m; bytes = b } in made) mode bytes) ∙ other_is

pub entries_parts : (path : List ℕ) (files others : List File) (file other : FileParts) → Some (entry_in file) ≡ entry_of path files → Some (entry_in other) ≡ entry_of path others
    → entry_of path files ≡ entry_of path others
    → (file.mode ≡ other.mode) × (sha256 file.content ≡ sha256 other.content)
entries_parts path files others file other file_is other_is same =
    let all : ◌≡◌ {A = Option FileEntry} (Some (entry_in file)) (Some (entry_in other)) = file_is ∙ same ∙ sym other_is in
    let entry : entry_in file ≡ entry_in other = cc in
    (ap (λ (e : FileEntry). e.mode) entry, ap (λ (e : FileEntry). sha256 e.bytes) entry)

-- a test that decides a fact tells by its opposite that the fact doesn't hold
pub opposite : {P : Type 0} (r : Bool) → (IsTrue r → P) → (P → IsTrue r) → (IsTrue (not r) → P → ⊥) × ((P → ⊥) → IsTrue (not r))
opposite true to from = (λ h _. absurd (let never : false ≡ true = h in cc), λ differs. absurd (differs (to refl)))
opposite false to from = (λ _ p. let never : false ≡ true = from p in cc, λ _. refl)

-- ---- the staged files and those of the last commit

module _ (kept : Kept) (here there : List File) (here_is : here ≡ kept.repo.staged) (there_is : there ≡ last_tree kept.repo.history) (complete : IsComplete kept) where
  pub head_tells : (r : Bool) → (IsTrue r → map staged_row here ≡ map staged_row there) × (map staged_row here ≡ map staged_row there → IsTrue r)
      → (IsTrue (not r) → kept.repo.staged ≢ last_tree kept.repo.history) × (kept.repo.staged ≢ last_tree kept.repo.history → IsTrue (not r))
  head_tells r tells =
      opposite r (λ h. same_from_rows kept complete (ap (map staged_row) (sym here_is) ∙ tells.0 h ∙ ap (map staged_row) there_is))
      (λ same. tells.1 (ap (map staged_row) (here_is ∙ same ∙ sym there_is)))

  abbrev Tells : List ℕ → Bool → List File → List File → Type 0
  Tells path r a b = (IsTrue r → entry_of path a ≢ entry_of path b) × (entry_of path a ≢ entry_of path b → IsTrue r)

  pub head_tells_at : (path : List ℕ) (r : Bool) → ((contents : List (List ℕ)) → HaveDistinctDigests contents → HaveContents contents here → HaveContents contents there → Tells path r here there)
      → Tells path r kept.repo.staged (last_tree kept.repo.history)
  head_tells_at path r tells =
      let have = subst (λ (l : List File). HaveContents kept.contents l) (sym here_is) complete.staged in
      let also = subst (λ (l : List File). HaveContents kept.contents l) (sym there_is) (last_has kept.contents kept.repo.history complete.trees) in
      subst (λ (l : List File). Tells path r kept.repo.staged l) there_is (subst (λ (l : List File). Tells path r l there) here_is (tells kept.contents complete.apart have also))
