use Rattle.std.proofs.Common.{[], string_bytes}
use Rattle.yaml_lines.proofs.BlockSteps.{characters_more}
use Rattle.yaml_lines.proofs.scan.text_of.Goals as goal

pub loop-c-preserved : goal.loop-c-preserved
loop-c-preserved c =
    characters_more c.args.characters.now c.loop-c.c-index c.c-item.result [] (string_bytes c.loop-c.text) (string_bytes c.push.new.self) c.loop-c-test.true c.c-item.is c.loop-c.invariant
    c.in_ok-push.ensures.bytes
