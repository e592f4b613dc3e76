use Rattle.std.proofs.Common.{take}
use Rattle.std.specs.Io.KnownBytes.{Appends}
use Rattle.std.specs.List.{concat}
use Rattle.hook_cli.proofs.run_printing.write_reports.Given as goal

abbrev pub invariant-reports : goal.invariant-reports
invariant-reports g l =
    Appends (g.O.Write.contents l.initial.out) (g.O.Write.contents l.out) (concat (take l.report-index l.reports))
