use Rattle.std.proofs.Common.{map}
use Rattle.commit_flow.proofs.MessageLemmas.{IsWritten}
use Rattle.commit_flow.proofs.message.cleaned_message.Given as goal

-- the lines so far are written
abbrev pub invariant-lines : goal.invariant-lines
invariant-lines l = IsWritten (map (λ x. x.now) l.yielded) l.cleaned.items l.waits l.before
