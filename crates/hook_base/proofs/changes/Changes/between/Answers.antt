use Rattle.std.proofs.Common.{◌≡◌, ◌∙◌, ◌+◌, ◌<◌, List, ◌++◌, Option, ap, arith, drop, get_or, length, suc, sym, subst, ℕ}
use Rattle.std.proofs.lemmas.Grind.{common_steps}
use Rattle.std.proofs.lemmas.Option.{get_or_from_slice_get}
use Rattle.hook_base.specs.declared.file.File.{File}
use Rattle.hook_base.specs.declared.file.FileEntry.{FileEntry}
use Rattle.hook_base.specs.Rising.{IsBelow}
use Rattle.hook_base.specs.RisingLemmas.{rising_next}
use Rattle.hook_base.specs.Trees.{IsRisingChanges, change_to, changes_between, entry_of, path_of}
use Rattle.hook_base.specs.TreeLemmas.{IsRisingChanges-changes_between}
use Rattle.hook_base.proofs.ListLemmas.{next_drop, walk_step}
use Rattle.hook_base.proofs.PlaceLemmas.{UpTo-later}
use Rattle.hook_base.proofs.changes.Changes.between.Goals as goal

pub rows-preserved : goal.rows-preserved
rows-preserved c =
    let before = c.args.before.now in
    let after = c.args.after.now in
    let k = c.rows.index in
    let row = c.entry-row.result.now in
    let next : suc k ≡ k + 1 = omega arith in
    let rest = next_drop before k (k + 1) row (sym next) c.entry-row.ensures.row in
    let left = ap (λ (rows : List File). changes_between rows after) rest in
    let more = c.in_ok-add_change.ensures ∙ ap (λ (now : Option FileEntry). c.rows.changes.items ++ change_to row now) c.reach-reached.ensures.entry in
    let at = get_or_from_slice_get before k row row c.entry-row.ensures.row in (
      walk_step c.rows.changes.items c.add_change.new.changes.items (change_to row (entry_of row.path after)) (changes_between (drop (k + 1) before) after) (changes_between (drop k before) after)
          (changes_between before after) more left c.rows.invariant.0,
      λ d within.
          let step : suc k < length before = omega arith in
          let below = subst (λ (n : ℕ). IsBelow (get_or before k row).path (get_or before n d).path) next (rising_next path_of before k row d step c.entry-row.ensures.rising) in
          UpTo-later row.path (get_or before (k + 1) d).path after c.reach-reached.result.index (subst (λ (first : File). IsBelow first.path (get_or before (k + 1) d).path) at below)
          c.reach-reached.ensures.passed,
    )

pub invariant_of-result : goal.invariant_of-result
invariant_of-result c =
    let whole = c.rows.invariant.0 in
    let all : c.rows.changes.items ≡ changes_between c.args.before.now c.args.after.now = grind (arith, common_steps) in
    subst IsRisingChanges (sym all) (IsRisingChanges-changes_between c.args.before.now c.args.after.now c.len-index-end.ensures.rising)
