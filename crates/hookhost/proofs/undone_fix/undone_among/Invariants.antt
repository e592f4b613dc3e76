use Rattle.std.proofs.Common.{◌≡◌, drop}
use Rattle.hookhost.specs.UndoneFixes.{undone_among}
use Rattle.hookhost.proofs.undone_fix.undone_among.Given as goal

-- what was seen of the edits undoes nothing
abbrev pub invariant-edits : goal.invariant-edits
invariant-edits g l =
    undone_among l.store.kept.repo.fixes l.edits ≡ undone_among l.store.kept.repo.fixes (drop l.edit-index l.edits)
