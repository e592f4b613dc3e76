-- Lemmas on trees: what each edit does at the place of a path, that edits keep the order, and that look-ups
-- determine a tree.
use Rattle.std.specs.Prelude.{◌≡◌, ℕ, zero, suc, ◌<◌, Bool, true, false, if◌then◌else◌, List, [], ◌∷◌, ◌++◌, length, filter, Option, None, Some, refl, insert, remove}
use Rattle.std.proofs.Common.{ap, sym, ◌∙◌, inl, inr, subst, get_or, set, arith}
use Rattle.std.specs.declared.cmp.Ordering.TheVariants.{Less, Equal, Greater}
use Rattle.std.specs.Str.{bytes_eq}
use Rattle.hook_base.specs.declared.change.Change.{Change}
use Rattle.hook_base.specs.declared.file.File.{File}
use Rattle.hook_base.specs.declared.file.FileEntry.{FileEntry}
use Rattle.hook_base.specs.Rising.{IsBelow, IsBelowAll, path_cmp}
use Rattle.hook_base.specs.RisingLemmas.{below_all_later, below_all_filter, greater_from_below, path_itself, below_differs, above_differs, bytes_same, path_cases}
use Rattle.hook_base.specs.Trees.{IsPartOf, IsRising, IsRisingChanges, change_to, changes_between, path_of, entry_of, remove_file, put_before, put_file, put_found, put_row, with_bytes, rewrite_file, apply_at, apply_changes}
use Rattle.hook_base.specs.Places.{IsAt, IsGap}

-- if the path has a row

pub at_within : (path : List ℕ) (rows : List File) (k : ℕ) → IsAt path rows k → k < length rows
at_within path [] k at = absurd at
at_within path (row ∷ rows) zero at = omega arith
at_within path (row ∷ rows) (suc k) at = let within = at_within path rows k at.1 in omega arith

pub path-at : (path : List ℕ) (rows : List File) (k : ℕ) (d : File) → IsAt path rows k → path ≡ (get_or rows k d).path
path-at path [] k d at = absurd at
path-at path (row ∷ rows) zero d at = at
path-at path (row ∷ rows) (suc k) d at = path-at path rows k d at.1

pub entry_of-at : (path : List ℕ) (rows : List File) (k : ℕ) (d : File) → IsAt path rows k
    → entry_of path rows ≡ Some (get_or rows k d).entry
entry_of-at path [] k d at = absurd at
entry_of-at path (row ∷ rows) zero d at = rw (bytes_same path row.path at)
entry_of-at path (row ∷ rows) (suc k) d at = rw (above_differs path row.path at.0) (entry_of-at path rows k d at.1)

pub put_row-at : (new : File) (rows : List File) (k : ℕ) → IsAt new.path rows k → put_row new rows ≡ set rows k new
put_row-at new [] k at = absurd at
put_row-at new (row ∷ rows) zero at = rw (path_itself new.path row.path at)
put_row-at new (row ∷ rows) (suc k) at =
    rw (greater_from_below row.path new.path at.0) (ap (λ (rest : List File). row ∷ rest) (put_row-at new rows k at.1))

-- putting what another tree has at a path is putting the row at that place
pub put_found-at : (path : List ℕ) (others rows : List File) (k : ℕ) (d : File) → IsAt path others k
    → put_found path (entry_of path others) rows ≡ put_row (get_or others k d) rows
put_found-at path [] rows k d at = absurd at
put_found-at path (row ∷ others) rows zero d at =
    rw (bytes_same path row.path at) (ap (λ (path : List ℕ). put_file path row.entry rows) at)
put_found-at path (row ∷ others) rows (suc k) d at =
    rw (above_differs path row.path at.0) (put_found-at path others rows k d at.1)

-- editing the rows of one path leaves rows of later paths

pub remove_file-later : (path : List ℕ) (rows : List File) → IsBelowAll path_of path rows → remove_file path rows ≡ rows
remove_file-later path [] later = refl
remove_file-later path (row ∷ rows) later =
    rw (below_differs path row.path later.0)
    (ap (λ (rest : List File). row ∷ rest) (remove_file-later path rows later.1))

pub rewrite_file-later : (path bytes : List ℕ) (rows : List File) → IsBelowAll path_of path rows
    → rewrite_file path bytes rows ≡ rows
rewrite_file-later path bytes [] later = refl
rewrite_file-later path bytes (row ∷ rows) later =
    rw (below_differs path row.path later.0)
    (ap (λ (rest : List File). row ∷ rest) (rewrite_file-later path bytes rows later.1))

pub entry_of-later : (path : List ℕ) (rows : List File) → IsBelowAll path_of path rows → entry_of path rows ≡ None
entry_of-later path [] later = refl
entry_of-later path (row ∷ rows) later = rw (below_differs path row.path later.0) (entry_of-later path rows later.1)

later_of_same : (path : List ℕ) (row : File) (rows : List File) → path ≡ row.path → IsBelowAll path_of row.path rows
    → IsBelowAll path_of path rows
later_of_same path row rows e later = subst (λ (p : List ℕ). IsBelowAll path_of p rows) (sym e) later

pub remove_file-at : (path : List ℕ) (rows : List File) (k : ℕ) → IsRising rows → IsAt path rows k
    → remove_file path rows ≡ remove rows k
remove_file-at path [] k rising at = absurd at
remove_file-at path (row ∷ rows) zero rising at =
    rw (bytes_same path row.path at) (remove_file-later path rows (later_of_same path row rows at rising.0))
remove_file-at path (row ∷ rows) (suc k) rising at =
    rw (above_differs path row.path at.0) (ap (λ (rest : List File). row ∷ rest)
    (remove_file-at path rows k rising.1 at.1))

pub rewrite_file-at : (path bytes : List ℕ) (rows : List File) (k : ℕ) (d : File) → IsRising rows → IsAt path rows k
    → rewrite_file path bytes rows ≡ set rows k (with_bytes bytes (get_or rows k d))
rewrite_file-at path bytes [] k d rising at = absurd at
rewrite_file-at path bytes (row ∷ rows) zero d rising at =
    rw (bytes_same path row.path at) (ap (λ (rest : List File). with_bytes bytes row ∷ rest)
    (rewrite_file-later path bytes rows (later_of_same path row rows at rising.0)))
rewrite_file-at path bytes (row ∷ rows) (suc k) d rising at =
    rw (above_differs path row.path at.0) (ap (λ (rest : List File). row ∷ rest)
    (rewrite_file-at path bytes rows k d rising.1 at.1))

-- if the path has no row

pub gap_within : (path : List ℕ) (rows : List File) (k : ℕ) → IsGap path rows k → k < suc (length rows)
gap_within path rows zero at = omega arith
gap_within path [] (suc k) at = absurd at
gap_within path (row ∷ rows) (suc k) at = let within = gap_within path rows k at.1 in omega arith

pub entry_of-gap : (path : List ℕ) (rows : List File) (k : ℕ) → IsGap path rows k → entry_of path rows ≡ None
entry_of-gap path rows zero at = entry_of-later path rows at
entry_of-gap path [] (suc k) at = absurd at
entry_of-gap path (row ∷ rows) (suc k) at = rw (above_differs path row.path at.0) (entry_of-gap path rows k at.1)

pub put_row-gap : (new : File) (rows : List File) (k : ℕ) → IsGap new.path rows k → put_row new rows ≡ insert rows k new
put_row-gap new [] zero at = refl
put_row-gap new (row ∷ rows) zero at = rw at.0.is_less
put_row-gap new [] (suc k) at = absurd at
put_row-gap new (row ∷ rows) (suc k) at =
    rw (greater_from_below row.path new.path at.0) (ap (λ (rest : List File). row ∷ rest) (put_row-gap new rows k at.1))

pub remove_file-gap : (path : List ℕ) (rows : List File) (k : ℕ) → IsGap path rows k → remove_file path rows ≡ rows
remove_file-gap path rows zero at = remove_file-later path rows at
remove_file-gap path [] (suc k) at = absurd at
remove_file-gap path (row ∷ rows) (suc k) at =
    rw (above_differs path row.path at.0) (ap (λ (rest : List File). row ∷ rest) (remove_file-gap path rows k at.1))

pub rewrite_file-gap : (path bytes : List ℕ) (rows : List File) (k : ℕ) → IsGap path rows k
    → rewrite_file path bytes rows ≡ rows
rewrite_file-gap path bytes rows zero at = rewrite_file-later path bytes rows at
rewrite_file-gap path bytes [] (suc k) at = absurd at
rewrite_file-gap path bytes (row ∷ rows) (suc k) at =
    rw (above_differs path row.path at.0) (ap (λ (rest : List File). row ∷ rest)
    (rewrite_file-gap path bytes rows k at.1))

-- edits keep the order

below_all-put_row : (path : List ℕ) (new : File) (rows : List File) → IsBelow path new.path
    → IsBelowAll path_of path rows → IsBelowAll path_of path (put_row new rows)
below_all-put_row path new [] below all = (below, tt)
below_all-put_row path new (row ∷ rows) below all =
    elim (path_cmp new.path row.path) as (λ o. IsBelowAll path_of path (put_before o new row rows (put_row new rows))) [
      | Less ↦ (below, all)
      | Equal ↦ (below, all.1)
      | Greater ↦ (all.0, below_all-put_row path new rows below all.1)
    ]

pub IsRising-put_row : (new : File) (rows : List File) → IsRising rows → IsRising (put_row new rows)
IsRising-put_row new [] rising = (tt, tt)
IsRising-put_row new (row ∷ rows) rising =
    elim (path_cases new.path row.path) [
      | inl (inl below) ↦ rw below.is_less (
        (below, below_all_later path_of new.path row.path rows below rising.0),
        rising,
      )
      | inl (inr same) ↦ rw (path_itself new.path row.path same)
          (later_of_same new.path row rows same rising.0, rising.1)
      | inr above ↦ rw (greater_from_below row.path new.path above)
          (below_all-put_row row.path new rows above rising.0, IsRising-put_row new rows rising.1)
    ]

below_all-remove_file : (path from : List ℕ) (rows : List File) → IsBelowAll path_of path rows
    → IsBelowAll path_of path (remove_file from rows)
below_all-remove_file path from [] all = tt
below_all-remove_file path from (row ∷ rows) all =
    elim (bytes_eq from row.path) as (λ b. IsBelowAll path_of path
    (if b then remove_file from rows else row ∷ remove_file from rows)) [
      | true ↦ below_all-remove_file path from rows all.1
      | false ↦ (all.0, below_all-remove_file path from rows all.1)
    ]

pub IsRising-remove_file : (path : List ℕ) (rows : List File) → IsRising rows → IsRising (remove_file path rows)
IsRising-remove_file path [] rising = tt
IsRising-remove_file path (row ∷ rows) rising =
    elim (bytes_eq path row.path) as (λ b. IsRising (if b then remove_file path rows else row ∷ remove_file path rows)) [
      | true ↦ IsRising-remove_file path rows rising.1
      | false ↦ (below_all-remove_file row.path path rows rising.0, IsRising-remove_file path rows rising.1)
    ]

-- a rewritten row keeps its path
rewritten_path : (row : File) (bytes : List ℕ) (b : Bool) → (if b then with_bytes bytes row else row).path ≡ row.path
rewritten_path row bytes true = refl
rewritten_path row bytes false = refl

below_all-rewrite_file : (path at bytes : List ℕ) (rows : List File) → IsBelowAll path_of path rows
    → IsBelowAll path_of path (rewrite_file at bytes rows)
below_all-rewrite_file path at bytes [] all = tt
below_all-rewrite_file path at bytes (row ∷ rows) all = (
  subst (λ (p : List ℕ). IsBelow path p) (sym (rewritten_path row bytes (bytes_eq at row.path))) all.0,
  below_all-rewrite_file path at bytes rows all.1,
)

pub IsRising-rewrite_file : (path bytes : List ℕ) (rows : List File) → IsRising rows
    → IsRising (rewrite_file path bytes rows)
IsRising-rewrite_file path bytes [] rising = tt
IsRising-rewrite_file path bytes (row ∷ rows) rising = (
  subst (λ (p : List ℕ). IsBelowAll path_of p (rewrite_file path bytes rows))
      (sym (rewritten_path row bytes (bytes_eq path row.path)))
      (below_all-rewrite_file row.path path bytes rows rising.0),
  IsRising-rewrite_file path bytes rows rising.1,
)

pub IsRising-apply_at : (path : List ℕ) (now : Option (List ℕ)) (rows : List File) → IsRising rows
    → IsRising (apply_at path now rows)
IsRising-apply_at path None rows rising = IsRising-remove_file path rows rising
IsRising-apply_at path (Some bytes) rows rising = IsRising-rewrite_file path bytes rows rising

pub IsRising-apply_changes : (changes : List Change) (rows : List File) → IsRising rows
    → IsRising (apply_changes changes rows)
IsRising-apply_changes [] rows rising = rising
IsRising-apply_changes (change ∷ changes) rows rising =
    IsRising-apply_changes changes (apply_at change.path change.now rows)
    (IsRising-apply_at change.path change.now rows rising)

-- the changes between two trees are in the order of their paths

abbrev change_path : Change → List ℕ
change_path change = change.path

below_all-change_to : (path : List ℕ) (row : File) (now : Option FileEntry) (changes : List Change)
    → IsBelow path row.path → IsBelowAll change_path path changes
    → IsBelowAll change_path path (change_to row now ++ changes)
below_all-change_to path row None changes below all = (below, all)
below_all-change_to path row (Some entry) changes below all =
    elim (bytes_eq row.entry.bytes entry.bytes) as
    (λ b. IsBelowAll change_path path ((if b then [] else (record { path = row.path; now = Some entry.bytes } ∷ []))
    ++ changes)) [ true ↦ all | false ↦ (below, all) ]

pub below_all-changes_between : (path : List ℕ) (rows after : List File) → IsBelowAll path_of path rows
    → IsBelowAll change_path path (changes_between rows after)
below_all-changes_between path [] after all = tt
below_all-changes_between path (row ∷ rows) after all =
    below_all-change_to path row (entry_of row.path after) (changes_between rows after) all.0
    (below_all-changes_between path rows after all.1)

rising-change_to : (row : File) (now : Option FileEntry) (changes : List Change)
    → IsBelowAll change_path row.path changes → IsRisingChanges changes → IsRisingChanges (change_to row now ++ changes)
rising-change_to row None changes all rising = (all, rising)
rising-change_to row (Some entry) changes all rising =
    elim (bytes_eq row.entry.bytes entry.bytes) as
    (λ b. IsRisingChanges ((if b then [] else (record { path = row.path; now = Some entry.bytes } ∷ [])) ++
    changes)) [ true ↦ rising | false ↦ (all, rising) ]

pub IsRisingChanges-changes_between : (rows after : List File) → IsRising rows
    → IsRisingChanges (changes_between rows after)
IsRisingChanges-changes_between [] after rising = tt
IsRisingChanges-changes_between (row ∷ rows) after rising =
    rising-change_to row (entry_of row.path after) (changes_between rows after)
    (below_all-changes_between row.path rows after rising.0) (IsRisingChanges-changes_between rows after rising.1)

pub apply_changes-append : (first second : List Change) (rows : List File)
    → apply_changes (first ++ second) rows ≡ apply_changes second (apply_changes first rows)
apply_changes-append [] second rows = refl
apply_changes-append (change ∷ first) second rows =
    apply_changes-append first second (apply_at change.path change.now rows)

-- look-ups determine a tree whose rows are in order

pub entry_of-first : (path : List ℕ) (row : File) (rows : List File) → path ≡ row.path
    → entry_of path (row ∷ rows) ≡ Some row.entry
entry_of-first path row rows same = rw (bytes_same path row.path same)

pub entry_of-rest : (path : List ℕ) (row : File) (rows : List File) → IsBelow row.path path
    → entry_of path (row ∷ rows) ≡ entry_of path rows
entry_of-rest path row rows below = rw (above_differs path row.path below)

absent_and_there : (entry : FileEntry) (there : Option FileEntry) → there ≡ None → there ≡ Some entry → ⊥
absent_and_there entry there absent present = cc

before_first : (path : List ℕ) (row : File) (rows : List File) → IsBelow path row.path → IsRising (row ∷ rows)
    → entry_of path (row ∷ rows) ≡ None
before_first path row rows below rising =
    entry_of-later path (row ∷ rows) (below, below_all_later path_of path row.path rows below rising.0)

-- if two trees begin with the same path and agree at all paths, their other rows agree too
same_rest : (first second : File) (xs ys : List File) → first.path ≡ second.path → IsRising (first ∷ xs)
    → IsRising (second ∷ ys) → ((path : List ℕ) → entry_of path (first ∷ xs) ≡ entry_of path (second ∷ ys))
    → (path : List ℕ) → entry_of path xs ≡ entry_of path ys
same_rest first second xs ys same up others look path =
    elim (path_cases path first.path) [
      | inl (inl below) ↦ entry_of-later path xs (below_all_later path_of path first.path xs below up.0)
          ∙ sym (entry_of-later path ys (below_all_later path_of path second.path ys
          (subst (λ (p : List ℕ). IsBelow path p) same below) others.0))
      | inl (inr here) ↦ entry_of-later path xs (later_of_same path first xs here up.0)
          ∙ sym (entry_of-later path ys (later_of_same path second ys (here ∙ same) others.0))
      | inr above ↦ sym (entry_of-rest path first xs above)
          ∙ (look path ∙ entry_of-rest path second ys (subst (λ (p : List ℕ). IsBelow p path) same above))
    ]

abbrev with_entry : List ℕ → FileEntry → File
with_entry path entry = record { path = path; entry = entry }

file_of : (p q : List ℕ) (a b : FileEntry) → p ≡ q → a ≡ b → with_entry p a ≡ with_entry q b
file_of p q a b path entry = cc

joined_row : (x y : File) → x.path ≡ y.path → Some x.entry ≡ Some y.entry → x ≡ y
joined_row x y path entry = let same : x.entry ≡ y.entry = cc in file_of x.path y.path x.entry y.entry path same

pub same_rows : (xs ys : List File) → IsRising xs → IsRising ys
    → ((path : List ℕ) → entry_of path xs ≡ entry_of path ys) → xs ≡ ys
same_rows [] [] up others look = refl
same_rows [] (y ∷ ys) up others look =
    absurd (absent_and_there y.entry (entry_of y.path (y ∷ ys)) (sym (look y.path)) (entry_of-first y.path y ys refl))
same_rows (x ∷ xs) [] up others look =
    absurd (absent_and_there x.entry (entry_of x.path (x ∷ xs)) (look x.path) (entry_of-first x.path x xs refl))
same_rows (x ∷ xs) (y ∷ ys) up others look =
    elim (path_cases x.path y.path) [
      | inl (inl below) ↦ absurd (absent_and_there x.entry (entry_of x.path (x ∷ xs))
          (look x.path ∙ before_first x.path y ys below others) (entry_of-first x.path x xs refl))
      | inl (inr same) ↦
          let entries : Some x.entry ≡ Some y.entry =
          sym (entry_of-first x.path x xs refl) ∙ (look x.path ∙ entry_of-first x.path y ys same) in
          let rest = same_rows xs ys up.1 others.1 (same_rest x y xs ys same up others look) in
          let first = joined_row x y same entries in
          cc
      | inr above ↦ absurd (absent_and_there y.entry (entry_of y.path (y ∷ ys))
          (sym (look y.path) ∙ before_first y.path x xs above up) (entry_of-first y.path y ys refl))
    ]

-- parts of a tree

pub IsPartOf-refl : (tree : List File) → IsPartOf tree tree
IsPartOf-refl tree = record { held = λ path entry found. found }

pub IsPartOf-trans : (a b c : List File) → IsPartOf a b → IsPartOf b c → IsPartOf a c
IsPartOf-trans a b c first second =
    record { held = λ path entry found. second.held path entry (first.held path entry found) }

-- at each path, a filtered tree has nothing, or what the tree has
filter_held : (keeps : File → Bool) (rows : List File) → IsRising rows → (path : List ℕ) (entry : FileEntry)
    → entry_of path (filter keeps rows) ≡ Some entry → entry_of path rows ≡ Some entry
filter_held keeps [] rising path entry = λ found. found
filter_held keeps (row ∷ rows) rising path entry =
    elim (path_cases path row.path) [
      | inl (inl below) ↦ λ found. absurd (absent_and_there entry (entry_of path (filter keeps (row ∷ rows)))
          (entry_of-later path (filter keeps (row ∷ rows))
          (below_all_filter path_of path keeps (row ∷ rows)
          (below, below_all_later path_of path row.path rows below rising.0))) found)
      | inl (inr same) ↦
          elim (keeps row) as (λ b. entry_of path (if b then row ∷ filter keeps rows else filter keeps rows)
          ≡ Some entry → entry_of path (row ∷ rows) ≡ Some entry) [
            | true ↦ λ found. entry_of-first path row rows same
                ∙ (sym (entry_of-first path row (filter keeps rows) same) ∙ found)
            | false ↦ λ found. absurd (absent_and_there entry (entry_of path (filter keeps rows))
                (entry_of-later path (filter keeps rows)
                (below_all_filter path_of path keeps rows (later_of_same path row rows same rising.0))) found)
          ]
      | inr above ↦
          elim (keeps row) as (λ b. entry_of path (if b then row ∷ filter keeps rows else filter keeps rows)
          ≡ Some entry → entry_of path (row ∷ rows) ≡ Some entry) [
            | true ↦ λ found. entry_of-rest path row rows above
                ∙ filter_held keeps rows rising.1 path entry
                (sym (entry_of-rest path row (filter keeps rows) above) ∙ found)
            | false ↦ λ found. entry_of-rest path row rows above ∙ filter_held keeps rows rising.1 path entry found
          ]
    ]

pub IsPartOf-filter : (keeps : File → Bool) (rows : List File) → IsRising rows → IsPartOf (filter keeps rows) rows
IsPartOf-filter keeps rows rising = record { held = filter_held keeps rows rising }
