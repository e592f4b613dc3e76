use Rattle.arg_partition.proofs.PartLemmas.{parts-push}
use Rattle.arg_partition.proofs.command_parts.cuts_of.Goals as goal

pub parts-preserved : goal.parts-preserved
parts-preserved c =
    let more = parts-push c.args.room c.args.names.now c.args.most c.parts.start c.part_end-end.result c.parts.cuts.items c.parts.invariant.1 c.parts.invariant.2 c.part_end-end.ensures.part in
    rw c.in_ok-push-2.ensures.items (c.part_end-end.ensures.within, more.0, more.1)
