use Rattle.std.proofs.Common.{◌<◌, ◌∙◌, length, arith}
use Rattle.hook_run.proofs.CandidateLemmas.{files-more, files-of_nothing}
use Rattle.hook_run.proofs.candidate_files.files_at.Goals as goal

pub paths-init : goal.paths-init
paths-init c = c.new-files.ensures ∙ files-of_nothing c.args.tree.now

pub paths-preserved : goal.paths-preserved
paths-preserved c =
    let paths = c.args.paths.now in
    let path = c.path-item.result in
    let within : c.paths.path-index < length paths = omega arith in
    rw (c.in_ok-put_from.ensures.put, c.paths.invariant)
    (files-more paths c.paths.path-index path within c.path-item.is c.args.tree.now c.len.ensures.rising)
