use Rattle.std.proofs.Common.{map, take}
use Rattle.std.specs.Io.KnownBytes.{Appends}
use Rattle.std.specs.List.{concat}
use Rattle.text_output.proofs.writing.write_pieces.Given as goal

abbrev pub invariant-pieces : goal.invariant-pieces
invariant-pieces g l =
    Appends (g.W.Write.contents l.initial.writer) (g.W.Write.contents l.writer) (concat (map (λ s. s.now) (take l.piece-index l.pieces)))
