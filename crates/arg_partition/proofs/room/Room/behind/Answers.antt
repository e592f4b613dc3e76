use Rattle.std.proofs.Common.{◌<◌, false, length, arith}
use Rattle.arg_partition.proofs.RoomLemmas.{one_more}
use Rattle.arg_partition.proofs.room.Room.behind.Goals as goal

pub returns-in_err-room : goal.returns-in_err-room
returns-in_err-room c =
    let within : c.words.word-index < length c.args.words.now = omega arith in
    let step =
    one_more (record { left = c.args.limit; begun = false }) c.words.room c.args.words.now c.words.word-index c.word-item.result c.after.result within c.word-item.is c.words.invariant
    (rw c.as_str.ensures at c.after.ensures) in
    rw c.from_residual.ensures (rw c.in_err-room.was at step)

pub words-preserved : goal.words-preserved
words-preserved c =
    let within : c.words.word-index < length c.args.words.now = omega arith in
    let step =
    one_more (record { left = c.args.limit; begun = false }) c.words.room c.args.words.now c.words.word-index c.word-item.result c.after.result within c.word-item.is c.words.invariant
    (rw c.as_str.ensures at c.after.ensures) in
    rw c.in_ok-room.was at step
