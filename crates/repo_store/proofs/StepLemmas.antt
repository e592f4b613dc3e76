-- One row more, at a step of a loop.
use Rattle.std.proofs.Common.{◌≡◌, ℕ, ◌+◌, ◌<◌, ◌≤◌, List, [], ◌∷◌, ◌++◌, map, length, take, get_or, Ok, IsPermutation, sym, ap, subst, subst₂, ◌∙◌, append_assoc, append-nil}
use Rattle.std.proofs.lemmas.List.{take_all, take_more, map-append}
use Rattle.std.proofs.lemmas.List.Sorted.{IsPermutation-middle, IsPermutation-sym}
use mathlib.Core.List.{map-map}
use Rattle.sqlite_trees.specs.declared.store.Store.{Ghosts}
use Rattle.sqlite.specs.Held.{Held}
use Rattle.store_tables.specs.declared.rows.BlobRow.{BlobRow}
use Rattle.store_tables.specs.declared.rows.EntryRow.{EntryRow}
use Rattle.store_tables.specs.Steps.{IsStep}
use Rattle.store_tables.specs.Tables.{Tables, with_blob, with_entry, with_fix}
use Rattle.repo_store.specs.declared.shared.SharedFix.{SharedFix}
use Rattle.store_tables.specs.declared.rows.FixRow.{FixRow}
use Rattle.repo_store.specs.Shared.{FileParts}
use Rattle.repo_store.specs.Lists.{file_of, fix_of}
use Rattle.repo_store.specs.Rows.{blob_row, with_blobs, entry_row, with_entries, fix_row, with_fix_rows}
use Rattle.repo_store.proofs.CallLemmas.{step_then}
use Rattle.repo_store.proofs.SameLemmas.{same_blobs, same_entries, same_fixes, step_same}

-- the rows of the first items and of others, as those of one item more
pub one_more : {X Y : Type 0} (f : X → Y) (xs : List X) (i : ℕ) (x : X) (rest : List Y) → i < length xs → x ≡ get_or xs i x
    → IsPermutation (f x ∷ (map f (take i xs) ++ rest)) (map f (take (i + 1) xs) ++ rest)
one_more {X} {Y} f xs i x rest within is =
    let e : map f (take (i + 1) xs) ++ rest ≡ map f (take i xs) ++ (f x ∷ rest) =
    ap (λ (l : List X). map f l ++ rest) (take_more xs i x within ∙ ap (λ (y : X). take i xs ++ (y ∷ [])) (sym is)) ∙ ap (λ (l : List Y). l ++ rest) (map-append f (take i xs) (x ∷ []))
    ∙ append_assoc (map f (take i xs)) (f x ∷ []) rest in
    subst (IsPermutation (f x ∷ (map f (take i xs) ++ rest))) (sym e) (IsPermutation-sym _ _ (IsPermutation-middle (map f (take i xs)) (f x) rest))

-- what was done for the first items was done for all, where there are no more
pub done_for_all : {S X : Type 0} (g : Ghosts S) (old new : Held S) (makes : List X → Tables → Tables) (i : ℕ) (items : List X) → length items ≤ i
    → IsStep {A = Unit {0}} g old new (Ok tt) (makes (take i items)) → IsStep {A = Unit {0}} g old new (Ok tt) (makes items)
done_for_all {S} {X} g old new makes i items over = subst (λ (l : List X). IsStep {A = Unit {0}} g old new (Ok tt) (makes l)) (take_all i items over)

pub blob_more : {S : Type 0} (g : Ghosts S) (old mid new : Held S) (news : List (List ℕ)) (i : ℕ) (bytes : List ℕ) (row : BlobRow) → i < length news → bytes ≡ get_or news i bytes
    → row ≡ blob_row bytes
    → IsStep {A = Unit {0}} g old mid (Ok tt) (λ t. with_blobs (take i news) t) → IsStep {A = Unit {0}} g mid new (Ok tt) (with_blob row)
    → IsStep {A = Unit {0}} g old new (Ok tt) (λ t. with_blobs (take (i + 1) news) t)
blob_more g old mid new news i bytes row within is row_is one two =
    let put = subst (λ (r : BlobRow). IsStep {A = Unit {0}} g mid new (Ok tt) (with_blob r)) row_is two in
    let both = step_then g old mid new (Ok tt) (λ t. with_blobs (take i news) t) (with_blob (blob_row bytes)) one put in
    step_same g old new (Ok tt) (λ t. with_blob (blob_row bytes) (with_blobs (take i news) t)) (λ t. with_blobs (take (i + 1) news) t)
    (λ t. same_blobs (with_blob (blob_row bytes) (with_blobs (take i news) t)) (map blob_row (take (i + 1) news) ++ t.blobs) (one_more blob_row news i bytes t.blobs within is)) both

pub entry_more : {S : Type 0} (g : Ghosts S) (old mid new : Held S) (n : ℕ) (files : List FileParts) (i : ℕ) (file : FileParts) (row : EntryRow) → i < length files → file ≡ get_or files i file
    → row ≡ entry_row n (file_of file)
    → IsStep {A = Unit {0}} g old mid (Ok tt) (λ t. with_entries (map (entry_row n) (map file_of (take i files))) t) → IsStep {A = Unit {0}} g mid new (Ok tt) (with_entry row)
    → IsStep {A = Unit {0}} g old new (Ok tt) (λ t. with_entries (map (entry_row n) (map file_of (take (i + 1) files))) t)
entry_more g old mid new n files i file row within is row_is one two =
    let put = subst (λ (r : EntryRow). IsStep {A = Unit {0}} g mid new (Ok tt) (with_entry r)) row_is two in
    let before : Tables → Tables = λ t. with_entries (map (entry_row n) (map file_of (take i files))) t in
    let both = step_then g old mid new (Ok tt) before (with_entry (entry_row n (file_of file))) one put in
    step_same g old new (Ok tt) (λ t. with_entry (entry_row n (file_of file)) (before t)) (λ t. with_entries (map (entry_row n) (map file_of (take (i + 1) files))) t)
    (λ t. same_entries (with_entry (entry_row n (file_of file)) (before t)) (map (entry_row n) (map file_of (take (i + 1) files)) ++ t.entries)
    (subst₂ (λ (a b : List EntryRow). IsPermutation (entry_row n (file_of file) ∷ (a ++ t.entries)) (b ++ t.entries)) (sym (map-map (entry_row n) file_of (take i files)))
    (sym (map-map (entry_row n) file_of (take (i + 1) files)))
    (one_more (λ (f : FileParts). entry_row n (file_of f)) files i file t.entries within is))) both

pub fix_more : {S : Type 0} (g : Ghosts S) (old mid new : Held S) (fixes : List SharedFix) (i : ℕ) (fix : SharedFix) → i < length fixes → fix ≡ get_or fixes i fix
    → IsStep {A = Unit {0}} g old mid (Ok tt) (λ t. with_fix_rows (map fix_row (map fix_of (take i fixes))) t) → IsStep {A = Unit {0}} g mid new (Ok tt) (with_fix (fix_row (fix_of fix)))
    → IsStep {A = Unit {0}} g old new (Ok tt) (λ t. with_fix_rows (map fix_row (map fix_of (take (i + 1) fixes))) t)
fix_more g old mid new fixes i fix within is one put =
    let before : Tables → Tables = λ t. with_fix_rows (map fix_row (map fix_of (take i fixes))) t in
    let both = step_then g old mid new (Ok tt) before (with_fix (fix_row (fix_of fix))) one put in
    let rows = subst₂ (λ (a b : List FixRow). IsPermutation (fix_row (fix_of fix) ∷ a) b)
    (append-nil (map (λ (f : SharedFix). fix_row (fix_of f)) (take i fixes)) ∙ sym (map-map fix_row fix_of (take i fixes)))
    (append-nil (map (λ (f : SharedFix). fix_row (fix_of f)) (take (i + 1) fixes)) ∙ sym (map-map fix_row fix_of (take (i + 1) fixes)))
    (one_more (λ (f : SharedFix). fix_row (fix_of f)) fixes i fix [] within is) in
    step_same g old new (Ok tt) (λ t. with_fix (fix_row (fix_of fix)) (before t)) (λ t. with_fix_rows (map fix_row (map fix_of (take (i + 1) fixes))) t)
    (λ t. same_fixes (with_fix (fix_row (fix_of fix)) (before t)) (map fix_row (map fix_of (take (i + 1) fixes))) rows) both
