use Rattle.std.proofs.Common.{◌∙◌, sym, arith}
use Rattle.std.proofs.lemmas.Grind.{common_steps}
use Rattle.hook_base.specs.Trees.{path_of}
use Rattle.commit_flow.proofs.CandidateLemmas.{is_changed_in, kept_at, left_at, row_tested}
use Rattle.commit_flow.proofs.candidates.changed_paths.Goals.{then-differs_from_head_at+in_ok-clone+in_ok-push, else-differs_from_head_at}
use Rattle.commit_flow.proofs.candidates.changed_paths.Goals as goal

pub rows-preserved : goal.rows-preserved
rows-preserved g c =
    let repo = c.args.store.now.kept.repo in
    let rows = c.args.staged.now in
    let row = c.entry.result.now in
    let at = c.entry.ensures.row in
    let tested = row_tested repo rows c.rows.index row c.differs_from_head_at.result c.requires c.entry.ensures.rising at c.differs_from_head_at.ensures in
    elim c.if-differs_from_head_at.branch [
      | then-differs_from_head_at+in_ok-clone+in_ok-push w ↦
          let next = kept_at (is_changed_in repo) path_of rows c.rows.index row at (sym tested ∙ w.if-differs_from_head_at.true) in
          grind (arith, common_steps)
      | else-differs_from_head_at w ↦
          let next = left_at (is_changed_in repo) path_of rows c.rows.index row at (sym tested ∙ w.if-differs_from_head_at.false) in
          grind (arith, common_steps)
    ]
