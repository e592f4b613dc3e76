-- Lemmas: what one row of a tree says of the place of a path, and the tags that are kept of it.
use Rattle.std.proofs.Common.{◌≡◌, ℕ, ◌+◌, ◌<◌, suc, List, length, get_or, Option, None, Some, refl, ap, sym, ◌∙◌, arith, subst}
use Rattle.std.specs.declared.cmp.Ordering.TheVariants.{Less, Equal, Greater}
use Rattle.std.specs.List.{slice_get}
use Rattle.std.specs.Option.{option_map}
use Rattle.std.proofs.lemmas.List.{length-map}
use Rattle.std.proofs.lemmas.Option.{slice_get_within, slice_get-map, get_or_from_slice_get}
use Rattle.hook_base.specs.declared.file.File.{File}
use Rattle.hook_base.specs.declared.file.FileEntry.{FileEntry}
use Rattle.hook_base.specs.Places.{IsAt}
use Rattle.hook_base.specs.Rising.{IsBelow, path_cmp}
use Rattle.hook_base.specs.RisingLemmas.{below_from_greater, path_tied}
use Rattle.hook_base.specs.TreeLemmas.{at_within, entry_of-at, path-at}
use Rattle.hook_base.specs.Trees.{IsRising, entry_of}
use Rattle.hook_base.specs.Overlays.{From, UpTo}
use Rattle.hook_base.proofs.PlaceLemmas.{found, from_on, up_to}
use Rattle.file_tags.specs.FileTags.{tags_of_file}
use Rattle.file_tags.specs.TreeTags.{tags_of_row, tags_of_tree}
use Rattle.path_select.specs.Chosen.{fits_entry}
use Rattle.path_select.specs.KeptTags.{fits_tags, tags_at}
use Rattle.path_select.specs.Selection.{RuleTexts}

module _ (path : List ℕ) (tree : List File) (index : ℕ) (row : File) (rising : IsRising tree) (held : slice_get tree index ≡ Some row) where
  is_row : get_or tree index row ≡ row
  is_row = get_or_from_slice_get tree index row row held

  -- the row has the path
  pub at_index : path_cmp row.path path ≡ Equal → IsAt path tree index
  at_index tied =
      found path tree index row (slice_get_within tree index row held) rising (sym (ap (λ (r : File). r.path) is_row ∙ path_tied row.path path tied))

  -- the row comes before the path, and so do the earlier ones
  pub before_index : path_cmp row.path path ≡ Less → UpTo path tree (index + 1)
  before_index less =
      let next : suc index ≡ index + 1 = omega arith in
      let below : IsBelow (get_or tree index row).path path = record { is_less = ap (λ (r : File). path_cmp r.path path) is_row ∙ less } in
      subst (λ (n : ℕ). UpTo path tree n) next (up_to path tree index row (slice_get_within tree index row held) rising below)

  -- the row comes after the path, and so do the later ones
  pub after_index : path_cmp row.path path ≡ Greater → From path tree index
  after_index greater =
      from_on path tree index row (slice_get_within tree index row held) rising (below_from_greater path (get_or tree index row).path (ap (λ (r : File). path_cmp r.path path) is_row ∙ greater))

-- the row at the path's place, and what the tree holds there

row_at : (path : List ℕ) (tree : List File) (index : ℕ) (row : File) → IsAt path tree index → slice_get tree index ≡ Some row → entry_of path tree ≡ Some row.entry
row_at path tree index row at held =
    entry_of-at path tree index row at ∙ ap (λ (r : File). Some r.entry) (get_or_from_slice_get tree index row row held)

pub entry_at_index : (path : List ℕ) (tree : List File) (index : ℕ) (row : File) → IsAt path tree index → slice_get tree index ≡ Some row → Some row.entry ≡ entry_of path tree
entry_at_index path tree index row at held = sym (row_at path tree index row at held)

tags_of_path : (path : List ℕ) (row : File) → path ≡ row.path → tags_of_row row ≡ tags_of_file path row.entry
unfolding tags_of_row
tags_of_path path row same = ap (λ (p : List ℕ). tags_of_file p row.entry) (sym same)

module _ (path : List ℕ) (tree : List File) (tags : List (List (List ℕ))) (index : ℕ) (kept : tags ≡ tags_of_tree tree) (at : IsAt path tree index) where
  pub tags_within : index < length tags
  tags_within = rw (kept, length-map tree tags_of_row) (at_within path tree index at)

  row_tags : (row : Option File) (found : List (List ℕ)) → slice_get tree index ≡ row → option_map tags_of_row row ≡ Some found → Some found ≡ tags_at tree path
  row_tags None found held is = absurd (cc)
  row_tags (Some row) found held is =
      let same : path ≡ row.path = path-at path tree index row at ∙ ap (λ (r : File). r.path) (get_or_from_slice_get tree index row row held) in
      sym is ∙ ap Some (tags_of_path path row same) ∙ ap (option_map (tags_of_file path)) (sym (row_at path tree index row at held))

  -- what is kept at the path's place are the tags of what the tree holds there
  pub tags_at_index : (found : List (List ℕ)) → slice_get tags index ≡ Some found → Some found ≡ tags_at tree path
  tags_at_index found held =
      row_tags (slice_get tree index) found refl (sym (slice_get-map tags_of_row tree index) ∙ ap (λ (all : List (List (List ℕ))). slice_get all index) (sym kept) ∙ held)

-- the tags of an entry fit where the entry does
pub fits_tags_of : (rules : RuleTexts) (path : List ℕ) (entry : Option FileEntry) → fits_tags rules path (option_map (tags_of_file path) entry) ≡ fits_entry rules path entry
fits_tags_of rules path None = refl
fits_tags_of rules path (Some entry) = refl
