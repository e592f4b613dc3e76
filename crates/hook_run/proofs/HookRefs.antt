-- The hooks that references lead to.
use Rattle.std.proofs.Common.{List, Bor, map}
use Rattle.hook_config.specs.declared.configuration.Hook.{Hook}

abbrev pub hooks_behind : List (Bor Hook) → List Hook
hooks_behind hooks = map (λ hook. hook.now) hooks
