use Rattle.std.proofs.Common.{◌≡◌, ◌++◌, true, take, drop}
use Rattle.yaml_lines.specs.Plain.{uncommented}
use Rattle.yaml_lines.proofs.scan.uncommented.Given as goal

abbrev pub invariant-loop-i : goal.invariant-loop-i
invariant-loop-i l = uncommented true l.text ≡ take l.i l.text ++ uncommented l.free (drop l.i l.text)
