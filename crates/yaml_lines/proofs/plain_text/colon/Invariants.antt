use Rattle.std.proofs.Common.{◌≡◌, true}
use Rattle.yaml_lines.specs.Plain.{sides_of}
use Rattle.yaml_lines.proofs.Scans.{sides_from}
use Rattle.yaml_lines.proofs.plain_text.colon.Given as goal

abbrev pub invariant-loop-i : goal.invariant-loop-i
invariant-loop-i l = sides_of true l.content ≡ sides_from l.content l.free l.i
