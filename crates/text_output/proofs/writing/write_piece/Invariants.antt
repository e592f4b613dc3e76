use Rattle.std.proofs.Common.{◌≤◌, length, take}
use Rattle.std.specs.Io.KnownBytes.{Appends}
use Rattle.text_output.proofs.writing.write_piece.Given as goal

abbrev pub invariant-tries : goal.invariant-tries
invariant-tries g l = record {
  within : l.written ≤ length l.text;
  taken : Appends (g.W.Write.contents l.initial.writer) (g.W.Write.contents l.writer) (take l.written l.text);
}
