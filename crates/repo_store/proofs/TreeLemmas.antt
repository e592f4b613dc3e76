-- Trees and logs that are read from the lists.
use Rattle.std.proofs.Common.{◌≡◌, ℕ, zero, suc, ◌+◌, ◌-◌, ◌<◌, List, [], ◌∷◌, ◌++◌, map, length, take, get_or, slice_get, Option, None, Some, IfSome, option_copied, refl, sym, ap, subst, ◌∙◌, arith, ap₂, option_map, length-take}
use Rattle.std.specs.Borrow.{Bor}
use Rattle.std.specs.List.{AllByRecursion}
use Rattle.std.specs.Slice.{IsItemAt}
use Rattle.std.proofs.lemmas.List.{take_more, map-append, take-map, length-map}
use Rattle.std.proofs.lemmas.Option.{slice_get-get_or, slice_get-map, slice_get_past}
use Rattle.hook_base.specs.declared.file.File.{File}
use Rattle.hook_base.specs.Rising.{IsBelow, IsBelowAll}
use Rattle.hook_base.specs.RisingLemmas.{greater_from_below}
use Rattle.hook_base.specs.Trees.{IsRising, path_of, put_row}
use Rattle.repo_store.specs.Shared.{FileParts}
use Rattle.repo_store.specs.declared.shared.SharedCommit.{SharedCommit}
use Rattle.repo_store.specs.declared.log_entry.LogEntry.{LogEntry}
use Rattle.repo_store.specs.Lists.{file_of, commit_of}
use Rattle.repo_store.specs.Log.{entry_at, log_from}
use Rattle.repo_store.specs.Repository.{Commit, last_tree, commit_at}

last_below : (row new : File) (rows : List File) → IsBelowAll path_of row.path (rows ++ new ∷ []) → IsBelow row.path new.path
last_below row new [] all = all.0
last_below row new (first ∷ rows) all = last_below row new rows all.1

-- a file whose path comes last
put_last : (rows : List File) (new : File) → IsRising (rows ++ new ∷ []) → put_row new rows ≡ rows ++ new ∷ []
put_last [] new rising = refl
put_last (row ∷ rows) new rising = rw (greater_from_below row.path new.path (last_below row new rows rising.0)) (ap (λ (l : List File). row ∷ l) (put_last rows new rising.1))

below_front : (path : List ℕ) (n : ℕ) (rows : List File) → IsBelowAll path_of path rows → IsBelowAll path_of path (take n rows)
below_front path zero rows all = tt
below_front path (suc n) [] all = tt
below_front path (suc n) (row ∷ rows) all = (all.0, below_front path n rows all.1)

rising_front : (n : ℕ) (rows : List File) → IsRising rows → IsRising (take n rows)
rising_front zero rows rising = tt
rising_front (suc n) [] rising = tt
rising_front (suc n) (row ∷ rows) rising = (below_front row.path n rows rising.0, rising_front n rows rising.1)

pub tree_more : (files : List FileParts) (i : ℕ) (file : FileParts) (tree : List File) → i < length files → file ≡ get_or files i file → IsRising (map file_of files)
    → tree ≡ map file_of (take i files) → put_row (file_of file) tree ≡ map file_of (take (i + 1) files)
tree_more files i file tree within is rising tree_is =
    let step : map file_of (take (i + 1) files) ≡ map file_of (take i files) ++ file_of file ∷ [] =
    ap (map file_of) (take_more files i file within ∙ ap (λ (f : FileParts). take i files ++ f ∷ []) (sym is)) ∙ map-append file_of (take i files) (file ∷ []) in
    let front : IsRising (map file_of (take (i + 1) files)) = subst IsRising (take-map file_of (i + 1) files) (rising_front (i + 1) (map file_of files) rising) in
    ap (put_row (file_of file)) tree_is ∙ put_last (map file_of (take i files)) (file_of file) (subst IsRising step front) ∙ sym step

-- ---- commits

pub all_at : {X : Type 0} (P : X → Type 0) (xs : List X) (k : ℕ) (x : X) → AllByRecursion P xs → slice_get xs k ≡ Some x → P x
all_at P [] k x all is = absurd (let never : None ≡ Some x = is in cc)
all_at P (first ∷ xs) zero x all is = subst P (let same : Some first ≡ Some x = is in cc) all.0
all_at P (first ∷ xs) (suc k) x all is = all_at P xs k x all.1 is

pub log_more : (n : ℕ) (history : List Commit) (commit : Commit) → log_from n (history ++ commit ∷ []) ≡ log_from n history ++ entry_at (n + length history) commit ∷ []
log_more n [] commit = ap (λ (m : ℕ). entry_at m commit ∷ []) (omega arith)
log_more n (first ∷ history) commit =
    ap (λ (l : List LogEntry). entry_at n first ∷ l) (log_more (n + 1) history commit ∙ ap (λ (m : ℕ). log_from (n + 1) history ++ entry_at m commit ∷ []) (omega arith))

pub log_step : (history : List SharedCommit) (i : ℕ) (commit : SharedCommit) (number : ℕ) (message : List ℕ) (log : List LogEntry) → i < length history → commit ≡ get_or history i commit
    → number ≡ i + 1 → message ≡ commit.message
    → log ≡ log_from 1 (map commit_of (take i history)) → log ++ record { number = number; message = message } ∷ [] ≡ log_from 1 (map commit_of (take (i + 1) history))
log_step history i commit number message log within is number_is message_is log_is =
    let front = map commit_of (take i history) in
    let count : number ≡ 1 + length front = omega (arith, length-map (take i history) commit_of, length-take i history) in
    let step : map commit_of (take (i + 1) history) ≡ front ++ commit_of commit ∷ [] =
    ap (map commit_of) (take_more history i commit within ∙ ap (λ (c : SharedCommit). take i history ++ c ∷ []) (sym is)) ∙ map-append commit_of (take i history) (commit ∷ []) in
    ap₂ (λ (l : List LogEntry) (e : LogEntry). l ++ e ∷ []) log_is (ap₂ (λ (n : ℕ) (m : List ℕ). log_entry n m) count message_is) ∙ sym (log_more 1 front (commit_of commit))
    ∙ ap (log_from 1) (sym step)
  where
    log_entry : ℕ → List ℕ → LogEntry
    log_entry n m = record { number = n; message = m }

pub rising_at : (history : List SharedCommit) (k : ℕ) (commit : SharedCommit) → AllByRecursion (λ (c : Commit). IsRising c.tree) (map commit_of history) → k < length history
    → commit ≡ get_or history k commit → IsRising (map file_of commit.files.items)
rising_at [] k commit all within is = absurd (omega arith)
rising_at (first ∷ history) zero commit all within is = subst (λ (c : SharedCommit). IsRising (map file_of c.files.items)) (sym is) all.0
rising_at (first ∷ history) (suc k) commit all within is = rising_at history k commit all.1 (omega arith) is

pub last_at : (history : List SharedCommit) (k : ℕ) (commit : SharedCommit) → k + 1 ≡ length history → commit ≡ get_or history k commit
    → last_tree (map commit_of history) ≡ map file_of commit.files.items
last_at [] k commit count is = absurd (omega arith)
last_at (first ∷ []) zero commit count is = ap (λ (c : SharedCommit). map file_of c.files.items) (sym is)
last_at (first ∷ []) (suc k) commit count is = absurd (omega arith)
last_at (first ∷ second ∷ history) zero commit count is = absurd (omega arith)
last_at (first ∷ second ∷ history) (suc k) commit count is = last_at (second ∷ history) k commit (omega arith) is

read_at : (n : ℕ) (history : List Commit) → (n ≡ 0 → ⊥) → commit_at n history ≡ slice_get history (n - 1)
read_at zero history some = absurd (some refl)
read_at (suc n) history some = ap (λ (k : ℕ). slice_get history k) (omega arith)

abbrev tree_in : Commit → List File
tree_in commit = commit.tree

-- what `get` says of a slice
pub got : {X : Type 0} (xs : List X) (k : ℕ) (r : Option (Bor X)) → IsItemAt xs k r → option_copied r ≡ slice_get xs k
got xs k None it = sym (slice_get_past xs k it.3)
got xs k (Some x) it = sym (slice_get-get_or xs k x.now it.3.0 ∙ ap Some (sym it.1))

pub commit_read : (history : List SharedCommit) (n : ℕ) → (n ≡ 0 → ⊥) → option_map commit_of (slice_get history (n - 1)) ≡ commit_at n (map commit_of history)
commit_read history n some = sym (read_at n (map commit_of history) some ∙ slice_get-map commit_of history (n - 1))

pub commit_rises : (history : List SharedCommit) (k : ℕ) (r : Option (Bor SharedCommit)) → AllByRecursion (λ (c : Commit). IsRising c.tree) (map commit_of history) → IsItemAt history k r
    → IfSome r (λ commit. IsRising (map file_of commit.now.files.items))
commit_rises history k None all it = tt
commit_rises history k (Some commit) all it = rising_at history k commit.now all it.3.0 it.1

-- ---- trees rise

pub last_rises : (history : List Commit) → AllByRecursion (λ (c : Commit). IsRising c.tree) history → IsRising (last_tree history)
last_rises [] all = tt
last_rises (commit ∷ []) all = all.0
last_rises (commit ∷ next ∷ more) all = last_rises (next ∷ more) all.1

rises_at : (history : List Commit) (k : ℕ) (found : Option Commit) → AllByRecursion (λ (c : Commit). IsRising c.tree) history → slice_get history k ≡ found → IfSome (option_map tree_in found) IsRising
rises_at history k None all is = tt
rises_at history k (Some commit) all is = all_at (λ (c : Commit). IsRising c.tree) history k commit all is

commit_tree_rises : (n : ℕ) (history : List Commit) → AllByRecursion (λ (c : Commit). IsRising c.tree) history → IfSome (option_map tree_in (commit_at n history)) IsRising
commit_tree_rises zero history all = tt
commit_tree_rises (suc n) history all = rises_at history n (slice_get history n) all refl

pub found_tree_rises : (n : ℕ) (history : List Commit) (tree : Option (List File)) → AllByRecursion (λ (c : Commit). IsRising c.tree) history
    → tree ≡ option_map (λ (c : Commit). c.tree) (commit_at n history) → IfSome tree IsRising
found_tree_rises n history tree all is = subst (λ (o : Option (List File)). IfSome o IsRising) (sym is) (commit_tree_rises n history all)
