use Rattle.std.proofs.Common.{◌≡◌, map, take}
use Rattle.command_line.proofs.values.copied.Given as goal

-- the copies so far
abbrev pub invariant-loop-text : goal.invariant-loop-text
invariant-loop-text l = l.copies.items ≡ map (λ s. s.now) (take l.text-index l.texts)
