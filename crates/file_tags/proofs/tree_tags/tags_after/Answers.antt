use Rattle.std.proofs.Common.{◌<◌, ◌≤◌, ◌∷◌, [], ◌∙◌, ap, sym, arith, length}
use Rattle.hook_base.specs.Trees.{entry_of}
use Rattle.file_tags.specs.ChangedFiles.{row_with}
use Rattle.file_tags.specs.TagTables.{texts_of}
use Rattle.file_tags.specs.TreeTags.{tags_of_tree}
use Rattle.file_tags.proofs.ChangedLemmas.{rows_in_all}
use Rattle.file_tags.proofs.FollowLemmas.{all_left, left_behind_path, left_behind_row, path_left, row_stays, rows_split, tags_all, tags_at, tags_more}
use Rattle.file_tags.proofs.tree_tags.tags_after.Goals as goal

pub rows-init : goal.rows-init
rows-init c =
    let paths = texts_of c.args.paths.now in
    let old = c.args.old.now in
    let new = c.args.new.now in (
      omega arith,
      omega arith,
      all_left paths old,
      rw c.in_ok-after.ensures.items (ap tags_of_tree (rows_in_all paths old new c.len-count.ensures.rising c.len.ensures.rising c.requires.changed)),
    )

pub rows-preserved-in-Less : goal.rows-preserved-in-Less
rows-preserved-in-Less c =
    let paths = texts_of c.args.paths.now in
    let old = c.args.old.now in
    let row = c.entry-row.result.now in
    let is = sym c.first_cmp.ensures ∙ c.in-Less.is in
    let within : c.rows.next < length paths = path_left paths c.rows.next row.path (λ greater. absurd (cc)) in (
      c.rows.invariant.0,
      omega arith,
      left_behind_path paths old c.args.new.now c.rows.index c.rows.next row c.entry-row.ensures.row c.entry-row.ensures.rising is c.rows.invariant.2,
      c.rows.invariant.3,
    )

pub rows-preserved-in-Equal : goal.rows-preserved-in-Equal
rows-preserved-in-Equal c =
    let paths = texts_of c.args.paths.now in
    let old = c.args.old.now in
    let new = c.args.new.now in
    let row = c.entry-row.result.now in
    let split = rows_split paths old new c.rows.index c.rows.next row c.entry-row.ensures.row in (
      omega arith,
      c.rows.invariant.1,
      left_behind_row paths old new c.rows.index c.rows.next row c.entry-row.ensures.row c.rows.invariant.2,
      rw (c.in_ok-push_tags-in-Equal.ensures, c.get.ensures) (tags_more c.rows.after.items (row_with row.path (entry_of row.path new)) _ _ (tags_of_tree new) split c.rows.invariant.3),
    )

pub rows-preserved : goal.rows-preserved
rows-preserved c =
    let paths = texts_of c.args.paths.now in
    let old = c.args.old.now in
    let new = c.args.new.now in
    let row = c.entry-row.result.now in
    let is = sym c.first_cmp.ensures ∙ c.in-Greater.is in
    let stays = row_stays paths old new c.rows.index c.rows.next row c.entry-row.ensures.row c.entry-row.ensures.rising c.requires.rising c.requires.changed is c.rows.invariant.2 in
    let found = tags_at paths old new c.rows.index c.rows.next row c.entry-row.ensures.row c.args.tags.now c.index-tags-index.result c.requires.held c.index-tags-index.is in (
      omega arith,
      c.rows.invariant.1,
      left_behind_row paths old new c.rows.index c.rows.next row c.entry-row.ensures.row c.rows.invariant.2,
      rw (c.in_ok-push-in-Greater.ensures.items, c.in_ok-clone-in-Greater.ensures.cases, found) (tags_more c.rows.after.items (row ∷ []) _ _ (tags_of_tree new) stays c.rows.invariant.3),
    )

pub returns : goal.returns
returns c =
    let past : length c.args.old.now ≤ c.rows.index = omega arith in
    tags_all c.rows.after.items c.args.old.now c.args.new.now c.rows.index _ past c.rows.invariant.3
