use Rattle.std.proofs.Common.{◌∙◌}
use Rattle.arg_partition.proofs.RoomLemmas.{fits_alone}
use Rattle.arg_partition.proofs.room.Room.fits.Goals as goal

pub returns : goal.returns
returns c = c.is_some.ensures ∙ fits_alone c.args.self c.args.name.now c.after.result (rw c.as_str.ensures.same at c.after.ensures)
