-- Which files of a tree some indexes are those of, and what these files come to.
use Rattle.std.proofs.Common.{◌≡◌, ◌∙◌, ℕ, zero, suc, ◌+◌, ◌<◌, ◌++◌, length, get_or, take, map, slice_get, Bool, true, false, ◌||◌, if◌then◌else◌, List, [], ◌∷◌, None, Some, IfOk, Result, Ok, Err, inl, inr, refl, ap, sym, subst, arith}
use Rattle.std.proofs.lemmas.Bool.{cases_lt}
use Rattle.std.proofs.lemmas.List.Elements.{All-nil, All-push}
use Rattle.std.proofs.lemmas.List.Folds.{list_any-append, list_any_more}
use Rattle.std.proofs.lemmas.List.Sorted.{All-permutation, list_any-IsPermutation}
use Rattle.std.specs.List.{filter, list_any}
use Rattle.std.specs.List.Sorted.{IsPermutation}
use Rattle.std.specs.Str.{bytes_eq}
use Rattle.child_port.proofs.SearchLemmas.{path_at}
use Rattle.child_port.specs.Indexes.{AreIndexesOf, indexed_path, is_indexed}
use Rattle.child_port.specs.Seen.{is_seen_path, plain_word}
use Rattle.child_port.specs.SeenLemmas.{files_where}
use Rattle.hook_base.specs.declared.file.File.{File}
use Rattle.owned_lists.specs.declared.memory.OutOfMemory.{OutOfMemory}
use Rattle.hook_base.specs.Rising.{IsBelow, IsBelowAll}
use Rattle.hook_base.specs.RisingLemmas.{above_differs, below_all_filter, below_differs, bytes_same, greater_from_below, path_itself}
use Rattle.hook_base.specs.TreeLemmas.{put_row-gap}
use Rattle.hook_base.specs.Trees.{IsRising, entry_of, path_of, put_row}

same_text : (p q : List ℕ) → Some p ≡ Some q → p ≡ q
same_text p q e = cc

same_file : (x y : File) → Some x ≡ Some y → x ≡ y
same_file x y e = cc

-- for each file, whether its path passes a test
abbrev marks_by : (List ℕ → Bool) → List File → List Bool
marks_by keeps tree = map (λ row. keeps row.path) tree

-- the test of the paths with one more
abbrev or_at : (List ℕ → Bool) → List ℕ → List ℕ → Bool
or_at keeps path other = keeps other || bytes_eq path other

or_false : (b c : Bool) → c ≡ false → b ≡ (b || c)
or_false true c e = refl
or_false false c e = sym e

or_true : (b c : Bool) → c ≡ true → (b || c) ≡ true
or_true true c e = refl
or_true false c e = e

or_right : (b : Bool) → (b || false) ≡ b
or_right true = refl
or_right false = refl

same_marks : (a b : Bool) (xs ys : List Bool) → a ≡ b → xs ≡ ys → (a ∷ xs) ≡ (b ∷ ys)
same_marks a b xs ys first rest = cc

-- ---- the indexes of the files at some paths

-- a path at which the tree has no file adds none
marks_absent : (keeps : List ℕ → Bool) (path : List ℕ) (tree : List File) → entry_of path tree ≡ None → map (λ row. keeps row.path) tree ≡ map (λ row. keeps row.path || bytes_eq path row.path) tree
marks_absent keeps path [] = λ none. refl
marks_absent keeps path (row ∷ rows) =
    elim (bytes_eq path row.path) as (λ b. bytes_eq path row.path ≡ b → (if b then Some row.entry else entry_of path rows) ≡ None
    → marks_by keeps (row ∷ rows) ≡ marks_by (or_at keeps path) (row ∷ rows)) [
      | true ↦ λ e none. cc
      | false ↦ λ e none. same_marks (keeps row.path) (or_at keeps path row.path) (marks_by keeps rows) (marks_by (or_at keeps path) rows) (or_false (keeps row.path) (bytes_eq path row.path) e)
          (marks_absent keeps path rows none)
    ] refl

marks_agree : (f g : File → Bool) → ((row : File) → f row ≡ g row) → (rows : List File) → map f rows ≡ map g rows
marks_agree f g agree [] = refl
marks_agree f g agree (row ∷ rows) = same_marks (f row) (g row) (map f rows) (map g rows) (agree row) (marks_agree f g agree rows)

or_joins : (a b c d : Bool) → d ≡ (b || c) → ((a || b) || c) ≡ (a || d)
or_joins true b c d e = refl
or_joins false b c d e = sym e

or_nothing : (a b c : Bool) → b ≡ (a || c) → ((a || false) || c) ≡ (b || false)
or_nothing true b c e = rw e refl
or_nothing false true c e = sym e
or_nothing false false c e = sym e

-- word by word
pub more_marks : (words extra : List (List ℕ)) (i : ℕ) (d path : List ℕ) (tree : List File) → i < length words → path ≡ plain_word (get_or words i d)
    → map (λ row. is_seen_path (take i words) extra row.path || bytes_eq path row.path) tree ≡ map (λ row. is_seen_path (take (i + 1) words) extra row.path) tree
more_marks words extra i d path tree within plain =
    marks_agree (λ row. is_seen_path (take i words) extra row.path || bytes_eq path row.path) (λ row. is_seen_path (take (i + 1) words) extra row.path)
    (λ row. or_joins (list_any (λ other. bytes_eq other row.path) extra) (list_any (λ word. bytes_eq (plain_word word) row.path) (take i words)) (bytes_eq path row.path)
    (list_any (λ word. bytes_eq (plain_word word) row.path) (take (i + 1) words))
    (list_any_more (λ word. bytes_eq (plain_word word) row.path) words i d within
    ∙ ap (λ (p : List ℕ). list_any (λ word. bytes_eq (plain_word word) row.path) (take i words) || bytes_eq p row.path) (sym plain))) tree

-- path by path
pub more_extra : (extra : List (List ℕ)) (i : ℕ) (d path : List ℕ) (tree : List File) → i < length extra → path ≡ get_or extra i d
    → map (λ row. is_seen_path [] (take i extra) row.path || bytes_eq path row.path) tree ≡ map (λ row. is_seen_path [] (take (i + 1) extra) row.path) tree
more_extra extra i d path tree within is =
    marks_agree (λ row. is_seen_path [] (take i extra) row.path || bytes_eq path row.path) (λ row. is_seen_path [] (take (i + 1) extra) row.path)
    (λ row. or_nothing (list_any (λ other. bytes_eq other row.path) (take i extra)) (list_any (λ other. bytes_eq other row.path) (take (i + 1) extra)) (bytes_eq path row.path)
    (list_any_more (λ other. bytes_eq other row.path) extra i d within ∙ ap (λ (p : List ℕ). list_any (λ other. bytes_eq other row.path) (take i extra) || bytes_eq p row.path) (sym is))) tree

-- two tests that agree on a tree's files still do with one more path
marks_more : (f g : List ℕ → Bool) (path : List ℕ) (tree : List File) → marks_by f tree ≡ marks_by g tree → marks_by (or_at f path) tree ≡ marks_by (or_at g path) tree
marks_more f g path [] same = refl
marks_more f g path (row ∷ rows) same =
    let first : f row.path ≡ g row.path = cc in
    let rest : marks_by f rows ≡ marks_by g rows = cc in
    same_marks (or_at f path row.path) (or_at g path row.path) (marks_by (or_at f path) rows) (marks_by (or_at g path) rows) (ap (λ (b : Bool). b || bytes_eq path row.path) first)
    (marks_more f g path rows rest)

-- the path at an index, by what stands there
text_at : (paths : List (List ℕ)) (k : ℕ) (path : List ℕ) → slice_get paths k ≡ Some path → get_or paths k [] ≡ path
text_at [] k path at = cc
text_at (first ∷ paths) zero path at = same_text first path at
text_at (first ∷ paths) (suc k) path at = text_at paths k path at

indexed_push : (tree : List File) (indexes : List ℕ) (k : ℕ) (path other : List ℕ) → slice_get (map path_of tree) k ≡ Some path
    → is_indexed tree (indexes ++ (k ∷ [])) other ≡ (is_indexed tree indexes other || bytes_eq path other)
indexed_push tree indexes k path other at =
    list_any-append (λ index. bytes_eq (indexed_path tree index) other) indexes (k ∷ [])
    ∙ ap (λ (b : Bool). is_indexed tree indexes other || b) (or_right (bytes_eq (indexed_path tree k) other) ∙ ap (λ (p : List ℕ). bytes_eq p other) (text_at (map path_of tree) k path at))

no_marks : (tree : List File) → map (λ row. is_indexed tree [] row.path) tree ≡ map (λ row. is_seen_path [] [] row.path) tree
no_marks tree = marks_agree (λ row. is_indexed tree [] row.path) (λ row. is_seen_path [] [] row.path) (λ row. refl) tree

pub no_indexes : (tree : List File) → AreIndexesOf (is_seen_path [] []) tree []
no_indexes tree = record { within = All-nil (λ index. index < length tree); same = no_marks tree }

pub indexes_absent : (keeps : List ℕ → Bool) (path : List ℕ) (tree : List File) (indexes : List ℕ) → entry_of path tree ≡ None → AreIndexesOf keeps tree indexes
    → AreIndexesOf (λ other. keeps other || bytes_eq path other) tree indexes
indexes_absent keeps path tree indexes none held = record { within = held.within; same = held.same ∙ marks_absent keeps path tree none }

pub indexes_push : (keeps : List ℕ → Bool) (path : List ℕ) (tree : List File) (indexes : List ℕ) (k : ℕ) → k < length tree → slice_get (map path_of tree) k ≡ Some path
    → AreIndexesOf keeps tree indexes → AreIndexesOf (λ other. keeps other || bytes_eq path other) tree (indexes ++ (k ∷ []))
indexes_push keeps path tree indexes k below at held = record {
  within = All-push (λ index. index < length tree) indexes k held.within below;
  same =
      marks_agree (λ row. is_indexed tree (indexes ++ (k ∷ [])) row.path) (λ row. is_indexed tree indexes row.path || bytes_eq path row.path) (λ row. indexed_push tree indexes k path row.path at) tree
      ∙ marks_more (is_indexed tree indexes) keeps path tree held.same;
}

-- the order of the indexes means nothing
pub indexes_sorted : (keeps : List ℕ → Bool) (tree : List File) (indexes others : List ℕ) → IsPermutation indexes others → AreIndexesOf keeps tree indexes → AreIndexesOf keeps tree others
indexes_sorted keeps tree indexes others moved held = record {
  within = All-permutation (λ index. index < length tree) indexes others moved held.within;
  same =
      marks_agree (λ row. is_indexed tree others row.path) (λ row. is_indexed tree indexes row.path)
      (λ row. sym (list_any-IsPermutation (λ index. bytes_eq (indexed_path tree index) row.path) indexes others moved)) tree ∙ held.same;
}

pub indexes_as : (f g : List ℕ → Bool) (tree : List File) (indexes : List ℕ) → map (λ row. f row.path) tree ≡ map (λ row. g row.path) tree → AreIndexesOf f tree indexes → AreIndexesOf g tree indexes
indexes_as f g tree indexes agree held = record { within = held.within; same = held.same ∙ agree }

-- ---- the files at the indexes

if_same : (a b : Bool) (row : File) (xs ys : List File) → a ≡ b → xs ≡ ys → (if a then row ∷ xs else xs) ≡ (if b then row ∷ ys else ys)
if_same a b row xs ys first rest = cc

-- they are those that pass a test with the same marks
pub same_files : (f g : List ℕ → Bool) (tree : List File) → map (λ row. f row.path) tree ≡ map (λ row. g row.path) tree → files_where f tree ≡ files_where g tree
same_files f g [] same = refl
same_files f g (row ∷ rows) same =
    let first : f row.path ≡ g row.path = cc in
    let rest : marks_by f rows ≡ marks_by g rows = cc in
    if_same (f row.path) (g row.path) row (files_where f rows) (files_where g rows) first (same_files f g rows rest)

-- they are all where each index is among them
kept_all : (keeps : List ℕ → Bool) (tree : List File) → ((k : ℕ) → k < length tree → keeps (get_or (map path_of tree) k []) ≡ true) → tree ≡ files_where keeps tree
kept_all keeps [] all = refl
kept_all keeps (row ∷ rows) all =
    let first : keeps row.path ≡ true = all 0 (omega arith) in
    rw first (ap (λ (files : List File). row ∷ files) (kept_all keeps rows (λ k below. all (suc k) (omega arith))))

-- index by index
indexed_more : (tree : List File) (indexes : List ℕ) (i d : ℕ) (path : List ℕ) → i < length indexes
    → is_indexed tree (take (i + 1) indexes) path ≡ (is_indexed tree (take i indexes) path || bytes_eq (indexed_path tree (get_or indexes i d)) path)
indexed_more tree indexes i d path within = list_any_more (λ index. bytes_eq (indexed_path tree index) path) indexes i d within

or_left : (b c : Bool) → b ≡ true → (b || c) ≡ true
or_left true c e = refl
or_left false c e = cc

indexed_kept : (tree : List File) (indexes : List ℕ) (i : ℕ) (path : List ℕ) → i < length indexes → is_indexed tree (take i indexes) path ≡ true → is_indexed tree (take (i + 1) indexes) path ≡ true
indexed_kept tree indexes i path within held =
    indexed_more tree indexes i 0 path within ∙ or_left (is_indexed tree (take i indexes) path) (bytes_eq (indexed_path tree (get_or indexes i 0)) path) held

indexed_here : (tree : List File) (indexes : List ℕ) (i d k : ℕ) → i < length indexes → get_or indexes i d ≡ k → is_indexed tree (take (i + 1) indexes) (indexed_path tree k) ≡ true
indexed_here tree indexes i d k within here =
    let same : bytes_eq (indexed_path tree (get_or indexes i d)) (indexed_path tree k) ≡ true =
    bytes_same (indexed_path tree (get_or indexes i d)) (indexed_path tree k) (ap (indexed_path tree) here) in
    indexed_more tree indexes i d (indexed_path tree k) within ∙ or_true (is_indexed tree (take i indexes) (indexed_path tree k))
    (bytes_eq (indexed_path tree (get_or indexes i d)) (indexed_path tree k)) same

-- the first n indexes of the tree are among these
pub record HasFirst (n : ℕ) (tree : List File) (indexes : List ℕ) : Type 0 where
  pub first : (k : ℕ) → k < n → is_indexed tree indexes (indexed_path tree k) ≡ true

pub none_first : (tree : List File) (indexes : List ℕ) → HasFirst 0 tree indexes
none_first tree indexes = record { first = λ k below. absurd (omega arith) }

pub first_kept : (tree : List File) (indexes : List ℕ) (i n : ℕ) → i < length indexes → HasFirst n tree (take i indexes) → HasFirst n tree (take (i + 1) indexes)
first_kept tree indexes i n within has = record { first = λ k below. indexed_kept tree indexes i (indexed_path tree k) within (has.first k below) }

pub first_more : (tree : List File) (indexes : List ℕ) (i d n : ℕ) → i < length indexes → get_or indexes i d ≡ n → HasFirst n tree (take i indexes) → HasFirst (n + 1) tree (take (i + 1) indexes)
first_more tree indexes i d n within here has = record {
  first = λ k below. elim (cases_lt k n) [
    | inl earlier ↦ indexed_kept tree indexes i (indexed_path tree k) within (has.first k earlier)
    | inr later ↦ let last : get_or indexes i d ≡ k = omega arith in indexed_here tree indexes i d k within last
  ];
}

pub all_first : (tree : List File) (indexes : List ℕ) → HasFirst (length tree) tree indexes → tree ≡ files_where (is_indexed tree indexes) tree
all_first tree indexes has = kept_all (is_indexed tree indexes) tree has.first

path_below : (path : List ℕ) (row : File) (rows : List File) (k : ℕ) → slice_get rows k ≡ Some row → IsBelowAll path_of path rows → IsBelow path row.path
path_below path row [] k at all = cc
path_below path row (first ∷ rows) zero at all = subst (λ (r : File). IsBelow path r.path) (same_file first row at) all.0
path_below path row (first ∷ rows) (suc k) at all = path_below path row rows k at all.1

-- a path before those of all files adds none
none_below : (keeps : List ℕ → Bool) (path : List ℕ) (rows : List File) → IsBelowAll path_of path rows → files_where keeps rows ≡ files_where (or_at keeps path) rows
none_below keeps path [] all = refl
none_below keeps path (row ∷ rows) all =
    if_same (keeps row.path) (or_at keeps path row.path) row (files_where keeps rows) (files_where (or_at keeps path) rows)
    (or_false (keeps row.path) (bytes_eq path row.path) (below_differs path row.path all.0)) (none_below keeps path rows all.1)

put_first : (keeps : List ℕ → Bool) (row : File) (rows : List File) → IsBelowAll path_of row.path rows → put_row row (files_where keeps (row ∷ rows)) ≡ row ∷ files_where keeps rows
put_first keeps row rows above =
    elim (keeps row.path) as (λ b. put_row row (if b then row ∷ files_where keeps rows else files_where keeps rows) ≡ (row ∷ files_where keeps rows)) [
      | true ↦ rw (path_itself row.path row.path refl) refl
      | false ↦ put_row-gap row (files_where keeps rows) zero (below_all_filter path_of row.path (λ r. keeps r.path) rows above)
    ]

first_put : (keeps : List ℕ → Bool) (row : File) (rows : List File) → IsBelowAll path_of row.path rows → put_row row (files_where keeps (row ∷ rows)) ≡ files_where (or_at keeps row.path) (row ∷ rows)
first_put keeps row rows above =
    let here : or_at keeps row.path row.path ≡ true = or_true (keeps row.path) (bytes_eq row.path row.path) (bytes_same row.path row.path refl) in
    rw here (put_first keeps row rows above ∙ ap (λ (files : List File). row ∷ files) (none_below keeps row.path rows above))

-- a file of the tree that is put among those that pass a test
put_file_of : (keeps : List ℕ → Bool) (row : File) (tree : List File) (k : ℕ) → IsRising tree → slice_get tree k ≡ Some row
    → put_row row (files_where keeps tree) ≡ files_where (or_at keeps row.path) tree
put_file_of keeps row [] k rising at = cc
put_file_of keeps row (first ∷ rows) zero rising at =
    subst (λ (r : File). put_row r (files_where keeps (first ∷ rows)) ≡ files_where (or_at keeps r.path) (first ∷ rows)) (same_file first row at) (first_put keeps first rows rising.0)
put_file_of keeps row (first ∷ rows) (suc k) rising at =
    let below = path_below first.path row rows k at rising.0 in
    let above = greater_from_below first.path row.path below in
    let rest = put_file_of keeps row rows k rising.1 at in
    subst (λ (b : Bool). put_row row (files_where keeps (first ∷ rows)) ≡ (if b then first ∷ files_where (or_at keeps row.path) rows else files_where (or_at keeps row.path) rows))
    (or_false (keeps first.path) (bytes_eq row.path first.path) (above_differs row.path first.path below))
    (elim (keeps first.path) as (λ b. put_row row (if b then first ∷ files_where keeps rows else files_where keeps rows)
    ≡ (if b then first ∷ files_where (or_at keeps row.path) rows else files_where (or_at keeps row.path) rows)) [
      | true ↦ rw above (ap (λ (files : List File). first ∷ files) rest)
      | false ↦ rest
    ])

pub put_more : (tree : List File) (indexes : List ℕ) (i d : ℕ) (row : File) → IsRising tree → i < length indexes → slice_get tree (get_or indexes i d) ≡ Some row
    → put_row row (files_where (is_indexed tree (take i indexes)) tree) ≡ files_where (is_indexed tree (take (i + 1) indexes)) tree
put_more tree indexes i d row rising within at =
    let k = get_or indexes i d in
    let path : indexed_path tree k ≡ row.path = text_at (map path_of tree) k row.path (path_at tree k row at) in
    put_file_of (is_indexed tree (take i indexes)) row tree k rising at
    ∙ same_files (or_at (is_indexed tree (take i indexes)) row.path) (is_indexed tree (take (i + 1) indexes)) tree
    (marks_agree (λ r. is_indexed tree (take i indexes) r.path || bytes_eq row.path r.path) (λ r. is_indexed tree (take (i + 1) indexes) r.path)
    (λ r. ap (λ (p : List ℕ). is_indexed tree (take i indexes) r.path || bytes_eq p r.path) (sym path) ∙ sym (indexed_more tree indexes i d r.path within)) tree)

none_kept : (rows : List File) → [] ≡ filter (λ row. false) rows
none_kept [] = refl
none_kept (row ∷ rows) = none_kept rows

pub no_files : (tree : List File) → [] ≡ files_where (is_indexed tree []) tree
no_files tree = none_kept tree

pub where_ok : (P Q : List File → Type 0) (result : Result (List File) OutOfMemory) → IfOk result P → ((files : List File) → P files → Q files) → IfOk result Q
where_ok P Q (Ok files) held gives = gives files held
where_ok P Q (Err refused) held gives = held
