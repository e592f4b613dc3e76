use Rattle.std.proofs.Common.{◌≡◌, take}
use Rattle.std.specs.List.{flat_map}
use Rattle.report_text.specs.Report.{hook_text}
use Rattle.report_text.proofs.report.hook_texts.Given as goal

abbrev pub invariant-loop-hook : goal.invariant-loop-hook
invariant-loop-hook l = l.texts.items ≡ flat_map (hook_text l.columns) (take l.hook-index l.hooks)
