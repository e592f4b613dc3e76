use Rattle.std.proofs.Common.{◌≡◌, not, is_some, drop}
use Rattle.std.specs.List.{list_any}
use Rattle.child_port.specs.Seen.{is_stray}
use Rattle.hook_base.specs.Trees.{entry_of}
use Rattle.child_port.proofs.seen.is_stray.Given as goal

-- the changes from here on decide
abbrev pub invariant-changes : goal.invariant-changes
invariant-changes l =
    list_any (λ change. not (is_some (entry_of change.path l.seen))) (drop l.change-index l.answer.changes) ≡ is_stray l.answer l.seen
