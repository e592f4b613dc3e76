use Rattle.std.proofs.Common.{◌≡◌, length}
use Rattle.builtin_hooks.specs.Lines.{without_returns_after}
use Rattle.builtin_hooks.proofs.line_feeds.without_returns_after.Given as goal

-- what was passed over are carriage returns
abbrev pub invariant-returns : goal.invariant-returns
invariant-returns l = without_returns_after l.rest ≡ without_returns_after l.bytes

abbrev pub decreases-returns : goal.decreases-returns
decreases-returns l = length l.rest
