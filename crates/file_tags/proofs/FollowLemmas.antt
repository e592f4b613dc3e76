-- Lemmas: the tags of a tree, taken over row by row next to the paths that changed.
use Rattle.std.proofs.Common.{◌≡◌, ℕ, ◌+◌, ◌<◌, ◌≤◌, zero, suc, Bool, false, List, [], ◌∷◌, ◌++◌, length, get_or, drop, Option, Some, refl, ap, sym, ◌∙◌, append_assoc, option_map, add-one, arith, subst}
use Rattle.std.specs.Prelude.{◌||◌}
use Rattle.std.specs.declared.cmp.Ordering.TheVariants.{Less, Greater}
use Rattle.std.specs.List.{slice_get}
use Rattle.std.proofs.Math.Seq.{drop-cons}
use Rattle.std.proofs.lemmas.List.{append-nil, drop_all, map-append}
use Rattle.std.proofs.lemmas.Option.{slice_get_within, slice_get-map, get_or_from_slice_get}
use Rattle.hook_base.specs.declared.file.File.{File}
use Rattle.hook_base.specs.declared.file.FileEntry.{FileEntry}
use Rattle.hook_base.specs.Rising.{IsBelow, IsBelowAll, IsRisingBy, path_cmp}
use Rattle.hook_base.specs.RisingLemmas.{above_differs, below_all_later, below_differs, below_from_greater}
use Rattle.hook_base.specs.Trees.{IsRising, entry_of, path_of}
use Rattle.hook_base.specs.TreeLemmas.{entry_of-first, entry_of-rest}
use Rattle.file_tags.specs.ChangedFiles.{IsChangedAt, first_cmp, is_among, row_with}
use Rattle.file_tags.specs.TagTables.{texts_of}
use Rattle.file_tags.specs.TreeTags.{tags_of_row, tags_of_tree}
use Rattle.file_tags.proofs.ChangedLemmas.{rows_in}
use denote.Ref.{Bor}

abbrev itself : List ℕ → List ℕ
itself path = path

-- ---- rows of a tree

pub at_row : (tree : List File) (index : ℕ) (row : File) → slice_get tree index ≡ Some row → drop index tree ≡ row ∷ drop (index + 1) tree
at_row tree index row held =
    rw (add-one, drop-cons tree index row (slice_get_within tree index row held), get_or_from_slice_get tree index row row held) refl

rising_rest : {X : Type 0} (key : X → List ℕ) (items : List X) (n : ℕ) → IsRisingBy key items → IsRisingBy key (drop n items)
rising_rest key items zero rising = rising
rising_rest key [] (suc n) rising = tt
rising_rest key (item ∷ items) (suc n) rising = rising_rest key items n rising.1

below_held : (path : List ℕ) (rows : List File) (k : ℕ) (row : File) → IsBelowAll path_of path rows → slice_get rows k ≡ Some row → IsBelow path row.path
below_held path [] k row below held = cc
below_held path (first ∷ rows) zero row below held = let same : first ≡ row = cc in subst (λ (r : File). IsBelow path r.path) same below.0
below_held path (first ∷ rows) (suc k) row below held = below_held path rows k row below.1 held

held_at : (rows : List File) (k : ℕ) (row : File) → IsRising rows → slice_get rows k ≡ Some row → entry_of row.path rows ≡ Some row.entry
held_at [] k row rising held = cc
held_at (first ∷ rows) zero row rising held = let same : first ≡ row = cc in subst (λ (r : File). entry_of r.path (first ∷ rows) ≡ Some r.entry) same (entry_of-first first.path first rows refl)
held_at (first ∷ rows) (suc k) row rising held = entry_of-rest row.path first rows (below_held first.path rows k row rising.0 held) ∙ held_at rows k row rising.1 held

-- ---- the paths that are left

-- a row's path is among those left where it is among all
abbrev pub AreLeft : (left all : List (List ℕ)) → List File → Type 0
AreLeft left all [] = Unit {0}
AreLeft left all (row ∷ rows) = (is_among left row.path ≡ is_among all row.path) × AreLeft left all rows

pub all_left : (all : List (List ℕ)) (rows : List File) → AreLeft all all rows
all_left all [] = tt
all_left all (row ∷ rows) = (refl, all_left all rows)

-- a path before all rows is that of none of them
without_first : (first : List ℕ) (left all : List (List ℕ)) (rows : List File) → IsBelowAll path_of first rows → AreLeft (first ∷ left) all rows → AreLeft left all rows
without_first first left all [] below same = tt
without_first first left all (row ∷ rows) below same =
    (sym (ap (λ (b : Bool). b || is_among left row.path) (below_differs first row.path below.0)) ∙ same.0, without_first first left all rows below.1 same.1)

without_next : (paths all : List (List ℕ)) (next : ℕ) (row : File) (rows : List File) → IsRising (row ∷ rows) → first_cmp (drop next paths) row.path ≡ Less → AreLeft (drop next paths) all (row ∷ rows)
    → AreLeft (drop (suc next) paths) all (row ∷ rows)
without_next [] all zero row rows rising is same = absurd (cc)
without_next [] all (suc next) row rows rising is same = absurd (cc)
without_next (first ∷ paths) all zero row rows rising is same =
    let below : IsBelow first row.path = record { is_less = is } in
    without_first first paths all (row ∷ rows) (below, below_all_later path_of first row.path rows below rising.0) same
without_next (first ∷ paths) all (suc next) row rows rising is same = without_next paths all next row rows rising is same

none_above : (path : List ℕ) (paths : List (List ℕ)) → IsBelowAll itself path paths → is_among paths path ≡ false
none_above path [] below = refl
none_above path (other ∷ paths) below = rw (above_differs other path below.0) (none_above path paths below.1)

none_left : (left : List (List ℕ)) (path : List ℕ) → IsRisingBy itself left → first_cmp left path ≡ Greater → is_among left path ≡ false
none_left [] path rising is = refl
none_left (first ∷ left) path rising is =
    let above : IsBelow path first = below_from_greater path first is in
    none_above path (first ∷ left) (above, below_all_later itself path first left above rising.0)

pub path_left : (paths : List (List ℕ)) (next : ℕ) (path : List ℕ) → (first_cmp (drop next paths) path ≡ Greater → ⊥) → next < length paths
path_left [] zero path some = absurd (some refl)
path_left [] (suc next) path some = absurd (some refl)
path_left (first ∷ paths) zero path some = omega arith
path_left (first ∷ paths) (suc next) path some = let left = path_left paths next path some in omega arith

pub cmp_found : (paths : List (Bor (List ℕ))) (next : ℕ) (found : Bor (List ℕ)) (path : List ℕ) → slice_get paths next ≡ Some found
    → path_cmp found.now path ≡ first_cmp (drop next (texts_of paths)) path
cmp_found [] next found path held = absurd (cc)
cmp_found (first ∷ paths) zero found path held = let same : first ≡ found = cc in ap (λ (f : Bor (List ℕ)). path_cmp f.now path) (sym same)
cmp_found (first ∷ paths) (suc next) found path held = cmp_found paths next found path held

pub cmp_past : (paths : List (Bor (List ℕ))) (next : ℕ) (path : List ℕ) → length paths ≤ next → Greater ≡ first_cmp (drop next (texts_of paths)) path
cmp_past [] zero path past = refl
cmp_past [] (suc next) path past = refl
cmp_past (first ∷ paths) zero path past = absurd (omega arith)
cmp_past (first ∷ paths) (suc next) path past = cmp_past paths next path (omega arith)

-- ---- steps of the walk over the rows of the old tree and the paths

module _ (paths : List (List ℕ)) (old new : List File) (index next : ℕ) (row : File) (held : slice_get old index ≡ Some row) where
  at_first : AreLeft (drop next paths) paths (drop index old) → AreLeft (drop next paths) paths (row ∷ drop (index + 1) old)
  at_first left = subst (λ (rows : List File). AreLeft (drop next paths) paths rows) (at_row old index row held) left

  pub left_behind_row : AreLeft (drop next paths) paths (drop index old) → AreLeft (drop next paths) paths (drop (index + 1) old)
  left_behind_row left = (at_first left).1

  pub left_behind_path : IsRising old → first_cmp (drop next paths) row.path ≡ Less → AreLeft (drop next paths) paths (drop index old) → AreLeft (drop (next + 1) paths) paths (drop index old)
  left_behind_path rising is left =
      let one : suc next ≡ next + 1 = omega arith in
      let rest : IsRising (row ∷ drop (index + 1) old) = subst IsRising (at_row old index row held) (rising_rest path_of old index rising) in
      let after = without_next paths paths next row (drop (index + 1) old) rest is (at_first left) in
      subst (λ (rows : List File). AreLeft (drop (next + 1) paths) paths rows) (sym (at_row old index row held))
      (subst (λ (n : ℕ). AreLeft (drop n paths) paths (row ∷ drop (index + 1) old)) one after)

  pub rows_split : rows_in new (drop index old) ≡ row_with row.path (entry_of row.path new) ++ rows_in new (drop (index + 1) old)
  rows_split = ap (rows_in new) (at_row old index row held)

  -- a row whose path is before all that are left stays
  pub row_stays : IsRising old → IsRisingBy itself paths → IsChangedAt paths old new → first_cmp (drop next paths) row.path ≡ Greater → AreLeft (drop next paths) paths (drop index old)
      → rows_in new (drop index old) ≡ row ∷ rows_in new (drop (index + 1) old)
  row_stays rising_old rising changed is left =
      let none : is_among paths row.path ≡ false = sym (at_first left).0 ∙ none_left (drop next paths) row.path (rising_rest itself paths next rising) is in
      let same : entry_of row.path new ≡ Some row.entry = changed.elsewhere row.path none ∙ held_at old index row rising_old held in
      rows_split ∙ ap (λ (entry : Option FileEntry). row_with row.path entry ++ rows_in new (drop (index + 1) old)) same

  -- what is kept for a row are its tags
  pub tags_at : (tags : List (List (List ℕ))) (found : List (List ℕ)) → tags ≡ tags_of_tree old → found ≡ get_or tags index found → found ≡ tags_of_row row
  tags_at tags found same at =
      at
      ∙ ap (λ (all : List (List (List ℕ))). get_or all index found) same
      ∙ get_or_from_slice_get (tags_of_tree old) index (tags_of_row row) found (slice_get-map tags_of_row old index ∙ ap (option_map tags_of_row) held)

-- the tags of rows that are split are split alike
pub tags_more : (made : List (List (List ℕ))) (first all rest : List File) (target : List (List (List ℕ))) → all ≡ first ++ rest → made ++ tags_of_tree all ≡ target
    → (made ++ tags_of_tree first) ++ tags_of_tree rest ≡ target
tags_more made first all rest target split so_far =
    append_assoc made (tags_of_tree first) (tags_of_tree rest)
    ∙ ap (λ (more : List (List (List ℕ))). made ++ more) (sym (map-append tags_of_row first rest) ∙ ap tags_of_tree (sym split))
    ∙ so_far

pub tags_all : (made : List (List (List ℕ))) (old new : List File) (index : ℕ) (target : List (List (List ℕ))) → length old ≤ index → made ++ tags_of_tree (rows_in new (drop index old)) ≡ target
    → made ≡ target
tags_all made old new index target past so_far =
    sym (append-nil made)
    ∙ ap (λ (rows : List File). made ++ tags_of_tree (rows_in new rows)) (sym (drop_all index old past))
    ∙ so_far
