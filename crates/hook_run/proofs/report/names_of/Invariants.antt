use Rattle.std.proofs.Common.{◌≡◌, ◌≤◌, All, length, map, take}
use Rattle.hook_config.specs.Limits.{most_text_bytes}
use Rattle.hook_run.proofs.report.names_of.Given as goal

abbrev pub invariant-hooks : goal.invariant-hooks
invariant-hooks l =
    (map (λ name. name.now) l.names.items ≡ map (λ hook. hook.now.name) (take l.hook-index l.hooks))
    × All (λ name. length name.now ≤ most_text_bytes) l.names.items
