use Rattle.std.proofs.Common.{◌≡◌, ◌≤◌, map, drop, max}
use Rattle.report_text.specs.Report.{greatest_width}
use Rattle.report_text.proofs.report.columns.Given as goal

-- the widest so far, and it or one of the rest is the widest of all
abbrev pub invariant-loop-name : goal.invariant-loop-name
invariant-loop-name l =
    (l.widest ≤ 2097152)
    × (max l.widest (greatest_width (map (λ name. name.now) (drop l.name-index l.names)))
    ≡ greatest_width (map (λ name. name.now) l.names))
