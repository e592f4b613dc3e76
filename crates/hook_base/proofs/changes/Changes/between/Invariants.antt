use Rattle.std.proofs.Common.{◌≡◌, ◌++◌, ◌<◌, drop, get_or, length}
use Rattle.hook_base.specs.declared.file.File.{File}
use Rattle.hook_base.specs.Overlays.{UpTo}
use Rattle.hook_base.specs.Trees.{changes_between}
use Rattle.hook_base.proofs.changes.Changes.between.Given as goal

abbrev pub invariant-rows : goal.invariant-rows
invariant-rows l =
    (l.changes.items ++ changes_between (drop l.index l.before) l.after ≡ changes_between l.before l.after)
    × ((next : File) → l.index < length l.before → UpTo (get_or l.before l.index next).path l.after l.passed)
