use Rattle.std.proofs.Common.{take}
use Rattle.result_book.specs.Contents.{LackRow}
use Rattle.result_book.proofs.rows.place_of.Given as goal

-- no row so far is for the key
abbrev pub invariant-rows : goal.invariant-rows
invariant-rows l = LackRow l.words l.seen (take l.index l.rows)
