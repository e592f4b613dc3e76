use Rattle.std.proofs.Common.{◌≡◌, ◌++◌, take}
use Rattle.hook_config.proofs.command_words.CommandWords.read.Given as goal

abbrev pub invariant-loop-arg : goal.invariant-loop-arg
invariant-loop-arg l = l.words.items ≡ l.initial.words.items ++ take l.arg-index l.args
