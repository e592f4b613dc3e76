use denote.Text.{Utf8}
use denote.Shadow.{shadow}
use Rattle.std.proofs.Common.{◌≡◌, length}
use Rattle.configuration_run.specs.SkipList.{without_spaces_before}
use Rattle.configuration_run.proofs.skip_list.without_spaces_before.Given as goal

abbrev pub invariant-spaces : goal.invariant-spaces
invariant-spaces l = shadow (Utf8 l.rest) × (without_spaces_before l.rest ≡ without_spaces_before l.text)

abbrev pub decreases-spaces : goal.decreases-spaces
decreases-spaces l = length l.rest
