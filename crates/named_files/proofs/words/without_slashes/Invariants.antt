use denote.Text.{Utf8}
use denote.Shadow.{shadow}
use Rattle.std.proofs.Common.{◌≡◌, length}
use Rattle.named_files.specs.Words.{without_slashes}
use Rattle.named_files.proofs.words.without_slashes.Given as goal

abbrev pub invariant-slashes : goal.invariant-slashes
invariant-slashes l = shadow (Utf8 l.rest) × (without_slashes l.rest ≡ without_slashes l.word)

abbrev pub decreases-slashes : goal.decreases-slashes
decreases-slashes l = length l.rest
