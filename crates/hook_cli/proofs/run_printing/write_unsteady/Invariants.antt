use Rattle.std.proofs.Common.{take}
use Rattle.std.specs.Io.KnownBytes.{Appends}
use Rattle.std.specs.List.{flat_map}
use Rattle.hook_cli.specs.RunText.{unsteady_line}
use Rattle.hook_cli.proofs.run_printing.write_unsteady.Given as goal

abbrev pub invariant-ids : goal.invariant-ids
invariant-ids g l =
    Appends (g.O.Write.contents l.initial.out) (g.O.Write.contents l.out) (flat_map unsteady_line (take l.id-index l.unsteady))
