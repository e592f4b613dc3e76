use Rattle.std.proofs.Common.{arith}
use Rattle.std.proofs.lemmas.Grind.{common_steps}
use Rattle.hook_base.specs.Trees.{path_of}
use Rattle.commit_flow.proofs.CandidateLemmas.{mapped_at}
use Rattle.commit_flow.proofs.candidates.all_paths.Goals as goal

pub rows-preserved : goal.rows-preserved
rows-preserved c =
    let next = mapped_at path_of c.args.staged.now c.rows.index c.entry.result.now c.entry.ensures.row in
    grind (arith, common_steps)
