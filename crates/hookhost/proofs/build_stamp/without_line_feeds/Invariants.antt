use Rattle.std.proofs.Common.{◌≡◌, length}
use Rattle.hookhost.specs.BuildStamps.{without_line_feeds}
use Rattle.hookhost.proofs.build_stamp.without_line_feeds.Given as goal

abbrev pub invariant-feeds : goal.invariant-feeds
invariant-feeds l = without_line_feeds l.rest ≡ without_line_feeds l.bytes

abbrev pub decreases-feeds : goal.decreases-feeds
decreases-feeds l = length l.rest
