-- Rows read one after another, and what they make of the lists.
use Rattle.std.proofs.Common.{◌≡◌, ℕ, zero, suc, ◌+◌, ◌-◌, ◌<◌, ◌≤◌, ◌||◌, ℤ, pos, true, false, List, [], ◌∷◌, ◌++◌, map, length, get_or, reverse, set, take, is_some, Option, None, Some, if◌then◌else◌, IsPermutation, Vec, Global, refl, sym, ap, ap₂, subst, ◌∙◌, arith}
use Rattle.std.specs.List.{AllByRecursion}
use Rattle.std.specs.Str.{bytes_eq}
use Rattle.std.proofs.lemmas.List.{take_more, map-append, length-map, reverse-append}
use Rattle.std.specs.Ordering.{int_cmp, is_lt}
use Rattle.std.proofs.lemmas.Bool.{lt-ltb}
use Rattle.std.specs.List.Sorted.{IsSorted}
use Rattle.std.specs.declared.cmp.Ordering.TheVariants.{Less}
use Rattle.std.proofs.lemmas.Cmp.{int_cmp_total}
use Rattle.std.proofs.lemmas.List.Sorted.{IsPermutation-refl, IsPermutation-cons, IsPermutation-trans, IsPermutation-sym, IsPermutation-middle, IsPermutation-reverse, IsPermutation-to_front, IsPermutation-append_left, IsPermutation-append_right}
use lib.ListN.{get_or-map}
use Rattle.hook_base.specs.declared.file.File.{File}
use Rattle.hook_base.specs.Rising.{IsBelow, IsBelowAll, IsRisingBy}
use Rattle.hook_base.specs.RisingLemmas.{IsBelow-trans}
use Rattle.hook_base.specs.Trees.{IsRising, IsRisingChanges, entry_of}
use Rattle.hook_base.specs.declared.change.Change.{Change}
use Rattle.repo_store.proofs.Kit.{sorted_unique}
use Rattle.store_tables.specs.Rowids.{IsLastRowidBelow as IsBelowNumber, AreRisingRowids as IsRisingNumbers}
use Rattle.store_tables.proofs.RisingLemmas.{RisesTo, rises_on}
use Rattle.store_tables.specs.declared.rows.BlobRow.{BlobRow}
use Rattle.store_tables.specs.declared.rows.EntryRow.{EntryRow}
use Rattle.store_tables.specs.declared.rows.FixRow.{FixRow}
use Rattle.store_tables.specs.declared.rows.MetaRow.{MetaRow}
use Rattle.store_tables.specs.declared.rows.StagedRow.{StagedRow}
use Rattle.store_faults.specs.declared.fault.StoreFault.{StoreFault}
use Rattle.store_faults.specs.declared.fault.StoreFault.TheVariants.{NotAStore, Damaged, Sql, OutOfMemory, Collision, TooLarge, TooMany}
use Rattle.repo_store.specs.Shared.{FileParts}
use Rattle.repo_store.specs.declared.shared.SharedFix.{SharedFix}
use Rattle.repo_store.specs.declared.table_rows.StoreRows.{StoreRows}
use Rattle.repo_store.specs.Answers.{KeptAnswer}
use Rattle.repo_store.specs.Kept.{Kept}
use Rattle.repo_store.specs.Sound.{IsSound}
use Rattle.repo_store.specs.declared.shared.SharedCommit.{SharedCommit}
use Rattle.store_faults.specs.Faults.{IsDamage}
use Rattle.repo_store.specs.Lists.{commit_of, file_of, fix_of, repository_of}
use Rattle.repo_store.specs.FromRows.{AreBare, AreEntered, IsSame, tables_of_rows, tables_with, with_file}
use Rattle.repo_store.specs.Repository.{Commit}
use Rattle.repo_store.specs.Rows.{answer_row, blob_row, commit_rows, entry_row, entry_rows, fix_at, fix_row, staged_row}
use Rattle.repo_store.specs.RowRules.{AreCommitRows, AreStagedRows, IsAnswerRow, IsBlobRow, IsEntryRow, IsFileRow, IsFixRow, AreStoreRows, is_staged, commit_number_in, numbers_from}
use Rattle.store_tables.specs.declared.rows.CommitRow.{CommitRow}
use Rattle.store_faults.specs.Limits.{Fits, IsSmall, most_commits}
use Rattle.repo_store.proofs.SoundLemmas.{AreStaged, few}

pub all_pushed : {X : Type 0} (P : X → Type 0) (xs : List X) (x : X) → AllByRecursion P xs → P x → AllByRecursion P (xs ++ x ∷ [])
all_pushed P [] x all one = (one, tt)
all_pushed P (y ∷ xs) x all one = (all.0, all_pushed P xs x all.1 one)

front_more : {X : Type 0} (xs : List X) (i : ℕ) (x : X) → i < length xs → x ≡ get_or xs i x → take (i + 1) xs ≡ take i xs ++ x ∷ []
front_more {X} xs i x within is = take_more xs i x within ∙ ap (λ (y : X). take i xs ++ y ∷ []) (sym is)

-- one row more stands in the lists
pub rows_more : {X Y : Type 0} (row : Y → X) (rows : List X) (x : X) (held now : List Y) (one : Y) → map row held ≡ rows → now ≡ held ++ one ∷ [] → row one ≡ x → map row now ≡ rows ++ x ∷ []
rows_more {X} row rows x held now one same added this =
    ap (map row) added ∙ map-append row held (one ∷ []) ∙ ap (λ (l : List X). l ++ row one ∷ []) same ∙ ap (λ (y : X). rows ++ y ∷ []) this

-- one row more stands in front of the lists
pub rows_front : {X Y : Type 0} (row : Y → X) (rows : List X) (x : X) (held now : List Y) (one : Y) → map row held ≡ reverse rows → now ≡ one ∷ held → row one ≡ x
    → map row now ≡ reverse (rows ++ x ∷ [])
rows_front {X} row rows x held now one same added this = ap (map row) added ∙ ap₂ (λ (y : X) (l : List X). y ∷ l) this same ∙ sym (reverse-append rows (x ∷ []))

-- what holds of each, holds of the one at a place
pub all_of_at : {A X : Type 0} (f : A → X) (P : X → Type 0) (xs : List A) (i : ℕ) (x : A) → i < length xs → x ≡ get_or xs i x → AllByRecursion P (map f xs) → P (f x)
all_of_at f P [] i x within is all = absurd (omega arith)
all_of_at f P (y ∷ xs) zero x within is all = subst (λ z. P (f z)) (sym is) all.0
all_of_at f P (y ∷ xs) (suc i) x within is all = all_of_at f P xs i x (omega arith) is all.1

-- ---- what comes last

pub below_all_pushed : {X : Type 0} (path_of : X → List ℕ) (p : List ℕ) (xs : List X) (x : X) → IsBelowAll path_of p xs → IsBelow p (path_of x) → IsBelowAll path_of p (xs ++ x ∷ [])
below_all_pushed path_of p [] x all one = (one, tt)
below_all_pushed path_of p (y ∷ xs) x all one = (all.0, below_all_pushed path_of p xs x all.1 one)

pub rising_pushed : {X : Type 0} (path_of : X → List ℕ) (xs : List X) (x : X) → IsRisingBy path_of xs → AllByRecursion (λ y. IsBelow (path_of y) (path_of x)) xs → IsRisingBy path_of (xs ++ x ∷ [])
rising_pushed path_of [] x up all = (tt, tt)
rising_pushed path_of (y ∷ xs) x up all = (below_all_pushed path_of (path_of y) xs x up.0 all.0, rising_pushed path_of xs x up.1 all.1)

-- ---- numbers

-- each row has the next number, and a small message
abbrev pub AreNumbered : ℕ → List CommitRow → Type 0
AreNumbered n [] = Unit {0}
AreNumbered n (row ∷ rows) = ((row.n ≡ pos n) × IsSmall row.message) × AreNumbered (n + 1) rows

pub commits_rise_more : (rows : List CommitRow) (i : ℕ) (row : CommitRow) (last : Option ℤ) → i < length rows → row ≡ get_or rows i row → RisesTo (map commit_number_in (take i rows)) last
    → IsBelowNumber last row.n → RisesTo (map commit_number_in (take (i + 1) rows)) (Some row.n)
commits_rise_more rows i row last within is rises below =
    subst (λ (l : List ℤ). RisesTo l (Some row.n)) (sym (ap (map commit_number_in) (front_more rows i row within is) ∙ map-append commit_number_in (take i rows) (row ∷ [])))
    (rises_on (map commit_number_in (take i rows)) last row.n rises below)

-- ---- what follows the last

follows_last : {X : Type 0} (path_of : X → List ℕ) (xs : List X) (x : X) (p : List ℕ) → IsRisingBy path_of xs → x ≡ get_or xs (length xs - 1) x → IsBelow (path_of x) p
    → AllByRecursion (λ y. IsBelow (path_of y) p) xs
follows_last path_of [] x p up is below = tt
follows_last path_of (y ∷ []) x p up is below = (subst (λ z. IsBelow (path_of z) p) is below, tt)
follows_last path_of (y ∷ z ∷ ys) x p up is below =
    let shift : suc (suc (length ys)) - 1 ≡ suc (suc (length ys) - 1) = omega arith in
    let rest = follows_last path_of (z ∷ ys) x p up.1 (is ∙ ap (λ k. get_or (y ∷ z ∷ ys) k x) shift) below in
    (IsBelow-trans (path_of y) (path_of z) p up.0.0 rest.0, rest)

pub follows_mapped : {A X : Type 0} (f : A → X) (path_of : X → List ℕ) (xs : List A) (last : A) (p : List ℕ) → IsRisingBy path_of (map f xs) → last ≡ get_or xs (length xs - 1) last
    → IsBelow (path_of (f last)) p
    → AllByRecursion (λ y. IsBelow (path_of y) p) (map f xs)
follows_mapped f path_of xs last p up is below =
    follows_last path_of (map f xs) (f last) p up (ap f is ∙ sym (get_or-map f xs (length xs - 1) last) ∙ ap (λ k. get_or (map f xs) (k - 1) (f last)) (sym (length-map xs f))) below

-- ---- refusals

pub damage_of : (P Q : Type 0) (fault : StoreFault) → (P → Q) → IsDamage P fault → IsDamage Q fault
damage_of P Q NotAStore f h = h
damage_of P Q Damaged f h = f h
damage_of P Q (Sql error) f h = tt
damage_of P Q OutOfMemory f h = tt
damage_of P Q Collision f h = h
damage_of P Q TooLarge f h = h
damage_of P Q TooMany f h = h

pub file_moved : (blobs : List BlobRow) (p q : List ℕ) (mode : ℤ) (d e : List ℕ) → p ≡ q → d ≡ e → IsFileRow blobs p mode d → IsFileRow blobs q mode e
file_moved blobs p q mode d e path digest h = subst (λ (x : List ℕ). IsFileRow blobs x mode e) path (subst (λ (x : List ℕ). IsFileRow blobs p mode x) digest h)

-- a path that is not staged
pub staged_as_entry : (path : List ℕ) (files : List File) → is_some (entry_of path files) ≡ is_staged (map staged_row files) path
staged_as_entry path [] = refl
staged_as_entry path (file ∷ files) =
    elim (bytes_eq path file.path) as (λ b. is_some (if b then Some file.entry else entry_of path files) ≡ (b || is_staged (map staged_row files) path))
    [ true ↦ refl | false ↦ staged_as_entry path files ]

-- ---- files of commits

abbrev Rises : Commit → Type 0
Rises commit = IsRising commit.tree

pub set_file : (hs : List SharedCommit) (k : ℕ) (c : SharedCommit) (f : File) (files : Vec FileParts Global) → k < length hs → c ≡ get_or hs k c
    → map file_of files.items ≡ map file_of c.files.items ++ f ∷ []
    → map commit_of (set hs k (record { message = c.message; files = files })) ≡ with_file k f (map commit_of hs)
set_file [] k c f files within is added = absurd (omega arith)
set_file (h ∷ hs) zero c f files within is added =
    ap₂ (λ (m : List ℕ) (t : List File). record { message = m; tree = t } ∷ map commit_of hs) (ap (λ (x : SharedCommit). x.message) is)
    (added ∙ ap (λ (x : SharedCommit). map file_of x.files.items ++ f ∷ []) is)
set_file (h ∷ hs) (suc k) c f files within is added = ap (λ (l : List Commit). commit_of h ∷ l) (set_file hs k c f files (omega arith) is added)

pub rises_at_place : (hs : List SharedCommit) (k : ℕ) (c : SharedCommit) → k < length hs → c ≡ get_or hs k c → AllByRecursion Rises (map commit_of hs) → IsRising (map file_of c.files.items)
rises_at_place [] k c within is all = absurd (omega arith)
rises_at_place (h ∷ hs) zero c within is all = subst (λ (x : SharedCommit). IsRising (map file_of x.files.items)) (sym is) all.0
rises_at_place (h ∷ hs) (suc k) c within is all = rises_at_place hs k c (omega arith) is all.1

pub rises_set : (hs : List SharedCommit) (k : ℕ) (c : SharedCommit) → AllByRecursion Rises (map commit_of hs) → IsRising (map file_of c.files.items) → AllByRecursion Rises (map commit_of (set hs k c))
rises_set [] k c all one = tt
rises_set (h ∷ hs) zero c all one = (one, all.1)
rises_set (h ∷ hs) (suc k) c all one = (all.0, rises_set hs k c all.1 one)

bare_entries : (n : ℕ) (history : List Commit) → AreBare history → entry_rows n history ≡ []
bare_entries n [] bare = refl
bare_entries n (commit ∷ history) bare = ap₂ (λ (t : List File) (l : List EntryRow). map (entry_row n) t ++ l) bare.0 (bare_entries (n + 1) history bare.1)

bare_rise : (history : List Commit) → AreBare history → AllByRecursion Rises history
bare_rise [] bare = tt
bare_rise (commit ∷ history) bare = (subst IsRising (sym bare.0) tt, bare_rise history bare.1)

pub none_entered : (history : List Commit) → AreBare history → AreEntered history history []
none_entered history bare =
    record { commits = refl; entries = subst (λ (l : List EntryRow). IsPermutation l []) (sym (bare_entries 1 history bare)) (IsPermutation-refl []); rising = bare_rise history bare }

same_commits : (n k : ℕ) (f : File) (history : List Commit) → commit_rows n (with_file k f history) ≡ commit_rows n history
same_commits n k f [] = refl
same_commits n zero f (commit ∷ history) = refl
same_commits n (suc k) f (commit ∷ history) = ap (λ (l : List CommitRow). record { n = pos n; message = commit.message } ∷ l) (same_commits (n + 1) k f history)

pub length_with_file : (k : ℕ) (f : File) (history : List Commit) → length (with_file k f history) ≡ length history
length_with_file k f [] = refl
length_with_file zero f (commit ∷ history) = refl
length_with_file (suc k) f (commit ∷ history) = ap suc (length_with_file k f history)

entry_moves : (n k : ℕ) (f : File) (history : List Commit) → k < length history → IsPermutation (entry_rows n (with_file k f history)) (entry_row (n + k) f ∷ entry_rows n history)
entry_moves n k f [] within = absurd (omega arith)
entry_moves n zero f (commit ∷ history) within =
    let obeys : map (entry_row n) (commit.tree ++ f ∷ []) ≡ map (entry_row n) commit.tree ++ entry_row n f ∷ [] = map-append (entry_row n) commit.tree (f ∷ []) in
    let number : n ≡ n + 0 = omega arith in
    subst (λ (l : List EntryRow). IsPermutation (l ++ entry_rows (n + 1) history) (entry_row (n + 0) f ∷ (map (entry_row n) commit.tree ++ entry_rows (n + 1) history))) (sym obeys)
    (subst (λ (m : ℕ). IsPermutation ((map (entry_row n) commit.tree ++ entry_row n f ∷ []) ++ entry_rows (n + 1) history)
    (entry_row m f ∷ (map (entry_row n) commit.tree ++ entry_rows (n + 1) history))) number
    (IsPermutation-append_left (entry_rows (n + 1) history) (map (entry_row n) commit.tree ++ entry_row n f ∷ []) (entry_row n f ∷ map (entry_row n) commit.tree)
    (IsPermutation-to_front (map (entry_row n) commit.tree) (entry_row n f))))
entry_moves n (suc k) f (commit ∷ history) within =
    let rest = entry_moves (n + 1) k f history (omega arith) in
    let number : (n + 1) + k ≡ n + suc k = omega arith in
    let moved = IsPermutation-append_right (map (entry_row n) commit.tree) (entry_rows (n + 1) (with_file k f history)) (entry_row ((n + 1) + k) f ∷ entry_rows (n + 1) history) rest in
    let front = IsPermutation-middle (map (entry_row n) commit.tree) (entry_row ((n + 1) + k) f) (entry_rows (n + 1) history) in
    subst (λ (m : ℕ). IsPermutation (map (entry_row n) commit.tree ++ entry_rows (n + 1) (with_file k f history)) (entry_row m f ∷ (map (entry_row n) commit.tree ++ entry_rows (n + 1) history)))
    number (IsPermutation-trans _ _ _ moved front)

pub entered_more : (old now new : List Commit) (rows : List EntryRow) (k : ℕ) (f : File) (row : EntryRow) → k < length now → AreEntered old now rows → new ≡ with_file k f now
    → AllByRecursion Rises new → row.n ≡ pos (k + 1)
    → staged_row f ≡ record { path = row.path; mode = row.mode; digest = row.digest } → AreEntered old new (rows ++ row ∷ [])
entered_more old now new rows k f row inside so_far added rising number file =
    let one : entry_row (1 + k) f ≡ row =
    ap₂ (λ (n : ℤ) (x : _). record { n = n; path = x.path; mode = x.mode; digest = x.digest }) (ap pos (let e : 1 + k ≡ k + 1 = omega arith in e) ∙ sym number) file in
    let moves =
    IsPermutation-trans _ _ _ (entry_moves 1 k f now inside) (subst (λ (r : EntryRow). IsPermutation (entry_row (1 + k) f ∷ entry_rows 1 now) (r ∷ rows)) one
    (IsPermutation-cons (entry_row (1 + k) f) (entry_rows 1 now) rows so_far.entries)) in
    let last = IsPermutation-trans _ _ _ moves (IsPermutation-sym _ _ (IsPermutation-to_front rows row)) in
    record {
      commits = ap (commit_rows 1) added ∙ same_commits 1 k f now ∙ so_far.commits;
      entries = subst (λ (l : List Commit). IsPermutation (entry_rows 1 l) (rows ++ row ∷ [])) (sym added) last;
      rising = rising;
    }

-- ---- rows that are moved out of their list

all_middle : {X : Type 0} (P : X → Type 0) (xs : List X) (x : X) (ys : List X) → AllByRecursion P (xs ++ x ∷ ys) → P x
all_middle P [] x ys all = all.0
all_middle P (y ∷ xs) x ys all = all_middle P xs x ys all.1

pub damage_middle : {X : Type 0} (P : X → Type 0) (xs : List X) (x : X) (ys left rows : List X) (fault : StoreFault) → xs ++ left ≡ rows → left ≡ x ∷ ys → IsDamage (¬ P x) fault
    → IsDamage (¬ AllByRecursion P rows) fault
damage_middle {X} P xs x ys left rows fault obeys step =
    damage_of (¬ P x) (¬ AllByRecursion P rows) fault (λ breaks all. breaks (all_middle P xs x ys (subst (AllByRecursion P) (sym obeys ∙ ap (λ (l : List X). xs ++ l) step) all)))

pub pos_less : (a b : ℕ) → a < b → int_cmp (pos a) (pos b) ≡ Less
pos_less a b below = rw (lt-ltb a b below) refl

numbers_sorted : (n : ℕ) (rows : List CommitRow) → IsSorted int_cmp (numbers_from n rows)
numbers_sorted n [] k d low high = absurd (omega arith)
numbers_sorted n (a ∷ []) k d low high = absurd (omega arith)
numbers_sorted n (a ∷ b ∷ rows) zero d low high =
    let back = int_cmp_total.antisymm (pos (n + 1)) (pos n) in
    let less = pos_less n (n + 1) (omega arith) in
    rw (back, less) refl
numbers_sorted n (a ∷ b ∷ rows) (suc k) d low high =
    let all = numbers_from n (a ∷ b ∷ rows) in
    let shift : suc (k + 1) ≡ suc k + 1 = omega arith in
    subst (λ (j : ℕ). is_lt (int_cmp (get_or all j d) (get_or all (suc k) d)) ≡ false) shift (numbers_sorted (n + 1) (b ∷ rows) k d (omega arith) (omega arith))

number_at : (n : ℕ) (xs : List CommitRow) (x : CommitRow) (ys : List CommitRow) → map commit_number_in (xs ++ x ∷ ys) ≡ numbers_from n (xs ++ x ∷ ys) → x.n ≡ pos (n + length xs)
number_at n [] x ys same = let first : x.n ≡ pos n = cc in first ∙ ap pos (let e : n ≡ n + 0 = omega arith in e)
number_at n (y ∷ xs) x ys same = let rest : map commit_number_in (xs ++ x ∷ ys) ≡ numbers_from (n + 1) (xs ++ x ∷ ys) =
    cc in number_at (n + 1) xs x ys rest ∙ ap pos (let e : (n + 1) + length xs ≡ n + suc (length xs) = omega arith in e)

pub history_broken : (xs : List CommitRow) (x : CommitRow) (ys left rows : List CommitRow) (count : ℕ) (fault : StoreFault) → IsRisingNumbers (map commit_number_in rows) → xs ++ left ≡ rows
    → left ≡ x ∷ ys → count ≡ length xs
    → IsDamage (¬ ((x.n ≡ pos (count + 1)) × IsSmall x.message)) fault → IsDamage (¬ AreCommitRows rows) fault
history_broken xs x ys left rows count fault rises obeys step count_is =
    let split : rows ≡ xs ++ x ∷ ys = sym obeys ∙ ap (λ (l : List CommitRow). xs ++ l) step in
    damage_of (¬ ((x.n ≡ pos (count + 1)) × IsSmall x.message)) (¬ AreCommitRows rows) fault (λ breaks commits.
    let same : map commit_number_in rows ≡ numbers_from 1 rows =
    sym (sorted_unique int_cmp int_cmp_total (map commit_number_in rows) (numbers_from 1 rows) rises commits.numbered (numbers_sorted 1 rows)) in
    let number = number_at 1 xs x ys (subst (λ (l : List CommitRow). map commit_number_in l ≡ numbers_from 1 l) split same) in
    let small = all_middle (λ (row : CommitRow). IsSmall row.message) xs x ys (subst (AllByRecursion (λ (row : CommitRow). IsSmall row.message)) split commits.messages_small) in
    breaks (number ∙ ap pos (let e : 1 + length xs ≡ count + 1 = omega arith in e), small))

numbered_numbers : (n : ℕ) (rows : List CommitRow) → AreNumbered n rows → (map commit_number_in rows ≡ numbers_from n rows) × AllByRecursion (λ (row : CommitRow). IsSmall row.message) rows
numbered_numbers n [] all = (refl, tt)
numbered_numbers n (row ∷ rows) all = let rest = numbered_numbers (n + 1) rows all.1 in (ap₂ (λ (x : ℤ) (l : List ℤ). x ∷ l) all.0.0 rest.0, (all.0.1, rest.1))

pub commits_obey : (rows : List CommitRow) → AreNumbered 1 rows → length rows ≤ most_commits → AreCommitRows rows
commits_obey rows all few =
    let it = numbered_numbers 1 rows all in
    record { numbered = subst (IsPermutation (map commit_number_in rows)) it.0 (IsPermutation-refl (map commit_number_in rows)); few = few; messages_small = it.1 }

numbered_pushed : (n : ℕ) (rows : List CommitRow) (row : CommitRow) → AreNumbered n rows → row.n ≡ pos (n + length rows) → IsSmall row.message → AreNumbered n (rows ++ row ∷ [])
numbered_pushed n [] row all number small = ((number ∙ ap pos (let e : n + 0 ≡ n = omega arith in e), small), tt)
numbered_pushed n (first ∷ rows) row all number small =
    (all.0, numbered_pushed (n + 1) rows row all.1 (number ∙ ap pos (let e : n + suc (length rows) ≡ (n + 1) + length rows = omega arith in e)) small)

pub numbered_more : (rows : List CommitRow) (row : CommitRow) (count : ℕ) → AreNumbered 1 rows → count ≡ length rows → row.n ≡ pos (count + 1) → IsSmall row.message → AreNumbered 1 (rows ++ row ∷ [])
numbered_more rows row count all count_is number small = numbered_pushed 1 rows row all (number ∙ ap pos (let e : count + 1 ≡ 1 + length rows = omega arith in e)) small

commit_rows_more : (n : ℕ) (history : List Commit) (commit : Commit)
    → commit_rows n (history ++ commit ∷ []) ≡ commit_rows n history ++ record { n = pos (n + length history); message = commit.message } ∷ []
commit_rows_more n [] commit = ap (λ (m : ℕ). record { n = pos m; message = commit.message } ∷ []) (let e : n ≡ n + 0 = omega arith in e)
commit_rows_more n (first ∷ history) commit =
    ap (λ (l : List CommitRow). record { n = pos n; message = first.message } ∷ l) (commit_rows_more (n + 1) history commit
    ∙ ap (λ (m : ℕ). commit_rows (n + 1) history ++ record { n = pos m; message = commit.message } ∷ []) (let e : (n + 1) + length history ≡ n + suc (length history) = omega arith in e))

pub history_more : (history now : List SharedCommit) (commit : SharedCommit) (rows : List CommitRow) (row : CommitRow) → now ≡ history ++ commit ∷ []
    → commit_of commit ≡ record { message = row.message; tree = [] } → row.n ≡ pos (length history + 1)
    → commit_rows 1 (map commit_of history) ≡ rows → commit_rows 1 (map commit_of now) ≡ rows ++ row ∷ []
history_more history now commit rows row pushed this number so_far =
    let obeys : map commit_of now ≡ map commit_of history ++ commit_of commit ∷ [] = ap (map commit_of) pushed ∙ map-append commit_of history (commit ∷ []) in
    let at : 1 + length (map commit_of history) ≡ length history + 1 = omega (arith, length-map history commit_of) in
    let one : record { n = pos (1 + length (map commit_of history)); message = (commit_of commit).message } ≡ row =
    ap₂ (λ (n : ℤ) (m : List ℕ). let made : CommitRow = record { n = n; message = m } in made) (ap pos at ∙ sym number) (ap (λ (x : Commit). x.message) this) in
    ap (commit_rows 1) obeys ∙ commit_rows_more 1 (map commit_of history) (commit_of commit) ∙ ap₂ (λ (l : List CommitRow) (r : CommitRow). l ++ r ∷ []) so_far one

pub bare_more : (history now : List SharedCommit) (commit : SharedCommit) (message : List ℕ) → now ≡ history ++ commit ∷ [] → commit_of commit ≡ record { message = message; tree = [] }
    → AreBare (map commit_of history) → AreBare (map commit_of now)
bare_more history now commit message pushed this bare =
    subst AreBare (sym (ap (map commit_of) pushed ∙ map-append commit_of history (commit ∷ [])))
    (all_pushed (λ (c : Commit). c.tree ≡ []) (map commit_of history) (commit_of commit) bare (ap (λ (x : Commit). x.tree) this))

pub length_commit_rows : (n : ℕ) (history : List Commit) → length (commit_rows n history) ≡ length history
length_commit_rows n [] = refl
length_commit_rows n (commit ∷ history) = ap suc (length_commit_rows (n + 1) history)

pub history_length : (history : List SharedCommit) (rows : List CommitRow) → commit_rows 1 (map commit_of history) ≡ rows → length history ≡ length rows
history_length history rows same = sym (length-map history commit_of) ∙ sym (length_commit_rows 1 (map commit_of history)) ∙ ap length same

-- ---- fixes of staged files

pub fix_path : (path : List ℕ) (now : Option (List ℕ)) → (fix_at path now).path ≡ path
fix_path path None = refl
fix_path path (Some bytes) = refl

pub fixes_staged : (fixes : List Change) (files : List File) (blobs : List BlobRow) → AllByRecursion (IsFixRow blobs (map staged_row files)) (map fix_row fixes) → AreStaged fixes files
fixes_staged [] files blobs all = tt
fixes_staged (fix ∷ fixes) files blobs all =
    (staged_as_entry fix.path files ∙ ap (is_staged (map staged_row files)) (sym (fix_path fix.path fix.now)) ∙ all.0.file_staged, fixes_staged fixes files blobs all.1)

pub fixes_few : (fixes : List Change) (files : List File) (blobs : List BlobRow) → IsRisingChanges fixes → IsRising files → AllByRecursion (IsFixRow blobs (map staged_row files)) (map fix_row fixes)
    → length fixes ≤ length files
fixes_few fixes files blobs up rising all = few fixes files up rising (fixes_staged fixes files blobs all)

pub perm_same : {X : Type 0} (xs ys : List X) → xs ≡ ys → IsPermutation xs ys
perm_same xs ys same = subst (IsPermutation xs) same (IsPermutation-refl xs)

-- ---- all of them

pub lists_same : (rows : StoreRows) (contents : List (List ℕ)) (history : List SharedCommit) (staged : List FileParts) (fixes : List SharedFix) (answers : List KeptAnswer) (limit : ℕ) (kept : Kept)
    → map blob_row contents ≡ rows.blobs.items
    → map staged_row (map file_of staged) ≡ rows.staged.items → map fix_row (map fix_of fixes) ≡ rows.fixes.items → commit_rows 1 (map commit_of history) ≡ rows.commits.items
    → IsPermutation (entry_rows 1 (map commit_of history)) rows.entries.items
    → map answer_row answers ≡ reverse rows.answers.items → kept ≡ record { repo = repository_of history staged fixes; contents = contents; answers = answers; limit = limit } → (meta : List MetaRow)
    → IsSame (tables_of_rows meta rows) (tables_with meta kept)
lists_same rows contents history staged fixes answers limit kept blobs files changes commits entries remembered is meta =
    subst (λ (k : Kept). IsSame (tables_of_rows meta rows) (tables_with meta k)) (sym is) (record {
      meta = IsPermutation-refl meta;
      blobs = perm_same rows.blobs.items (map blob_row contents) (sym blobs);
      staged = perm_same rows.staged.items (map staged_row (map file_of staged)) (sym files);
      fixes = perm_same rows.fixes.items (map fix_row (map fix_of fixes)) (sym changes);
      commits = perm_same rows.commits.items (commit_rows 1 (map commit_of history)) (sym commits);
      entries = IsPermutation-sym _ _ entries;
      answers = subst (IsPermutation rows.answers.items) (sym remembered) (IsPermutation-reverse rows.answers.items);
    })

pub lists_obey : (rows : StoreRows) (blobs : List BlobRow) (staged : List StagedRow) → blobs ≡ rows.blobs.items → staged ≡ rows.staged.items → AllByRecursion IsBlobRow rows.blobs.items
    → AreStagedRows blobs rows.staged.items
    → AllByRecursion (IsFixRow blobs staged) rows.fixes.items → AreCommitRows rows.commits.items → AllByRecursion (IsEntryRow blobs (length rows.commits.items)) rows.entries.items
    → AllByRecursion (IsAnswerRow blobs) rows.answers.items
    → (meta : List MetaRow) → AreStoreRows (tables_of_rows meta rows)
lists_obey rows blobs staged blobs_are staged_are contents files fixes commits entries answers meta = record {
  blobs = contents;
  staged = subst (λ (l : List BlobRow). AreStagedRows l rows.staged.items) blobs_are files;
  fixes =
      subst (λ (l : List BlobRow). AllByRecursion (IsFixRow l rows.staged.items) rows.fixes.items) blobs_are
      (subst (λ (l : List StagedRow). AllByRecursion (IsFixRow blobs l) rows.fixes.items) staged_are fixes);
  commits = commits;
  entries = subst (λ (l : List BlobRow). AllByRecursion (IsEntryRow l (length rows.commits.items)) rows.entries.items) blobs_are entries;
  answers = subst (λ (l : List BlobRow). AllByRecursion (IsAnswerRow l) rows.answers.items) blobs_are answers;
}

pub lists_sound : (history : List SharedCommit) (staged : List FileParts) (fixes : List SharedFix) (blobs : List BlobRow) (rows : List FixRow) (commits : List CommitRow)
    → IsRising (map file_of staged) → Fits (map file_of staged)
    → IsRisingChanges (map fix_of fixes) → map fix_row (map fix_of fixes) ≡ rows → AllByRecursion (IsFixRow blobs (map staged_row (map file_of staged))) rows
    → AllByRecursion Rises (map commit_of history) → commit_rows 1 (map commit_of history) ≡ commits → AreCommitRows commits
    → IsSound (repository_of history staged fixes)
lists_sound history staged fixes blobs rows commits rising fits up same all trees numbers obeys = record {
  staged_rise = rising;
  staged_fit = fits;
  fixes_rise = up;
  fixes_fit =
      let fewer = fixes_few (map fix_of fixes) (map file_of staged) blobs up rising (subst (AllByRecursion (IsFixRow blobs (map staged_row (map file_of staged)))) (sym same) all) in
      let most = fits.files_fit in
      omega arith;
  trees_rise = trees;
  numbered = let count = length_commit_rows 1 (map commit_of history) in let same_count = ap length numbers in let most = obeys.few in omega arith;
}
