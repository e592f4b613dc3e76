use Rattle.builtin_hooks.proofs.PlaceLemmas.{IsSameLine}
use Rattle.builtin_hooks.proofs.matched_file.line_at.Given as goal

abbrev pub invariant-lines : goal.invariant-lines
invariant-lines l = IsSameLine l.bytes l.rest l.index l.place l.number

abbrev pub decreases-lines : goal.decreases-lines
decreases-lines l = l.place
