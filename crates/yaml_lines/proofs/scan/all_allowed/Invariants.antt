use Rattle.std.proofs.Common.{◌≡◌, drop}
use Rattle.std.specs.List.{list_all}
use Rattle.yaml_lines.specs.Characters.{is_allowed}
use Rattle.yaml_lines.proofs.scan.all_allowed.Given as goal

-- the characters may stand in a line if those that are left may
abbrev pub invariant-loop-c : goal.invariant-loop-c
invariant-loop-c l = list_all is_allowed l.text ≡ list_all is_allowed (drop l.c-index l.text)
