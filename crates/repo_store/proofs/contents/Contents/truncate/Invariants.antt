use Rattle.std.proofs.Common.{◌≡◌, ◌≤◌, length, take}
use Rattle.repo_store.proofs.contents.Contents.truncate.Given as goal

abbrev pub invariant-later : goal.invariant-later
invariant-later l = record { front : l.self ≡ take (length l.self) l.initial.self; reaches : length (take l.place l.initial.self) ≤ length l.self }

abbrev pub decreases-later : goal.decreases-later
decreases-later l = length l.self
