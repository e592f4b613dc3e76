use Rattle.std.proofs.Common.{◌<◌, arith, length}
use Rattle.configuration_run.proofs.AskLemmas.{paths-more}
use Rattle.configuration_run.proofs.run_ask.paths_of.Goals as goal

pub places-preserved : goal.places-preserved
places-preserved c =
    let count = c.len-place-end.ensures.count in
    let within : c.places.place < length c.args.tree.now = omega arith in
    paths-more c.places.paths.items c.push.new.self.items c.in_ok-clone.field-0 c.args.tree.now c.places.place c.entry.result.now
    within c.places.invariant c.entry.ensures.row c.in_ok-clone.ensures.cases c.in_ok-push.ensures.items
