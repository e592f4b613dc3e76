use Rattle.std.proofs.Common.{take}
use Rattle.hook_config.proofs.FirstWords.{still_named}
use Rattle.hook_config.proofs.command_words.CommandWords.read.Goals as goal

pub invariant_of-result : goal.invariant_of-result
invariant_of-result c =
    rw c.loop-arg.invariant (still_named c.in_ok-words.words.items (take c.loop-arg.arg-index c.args.args.now) c.in_ok-words.ensures.named)
