use Rattle.hook_base.proofs.PlaceLemmas.{From-length}
use Rattle.hook_base.proofs.row_place.place_of.Goals as goal

pub place_between-requires-clause-before : goal.place_between-requires-clause-before
place_between-requires-clause-before c = From-length c.args.path.now c.args.rows.now
