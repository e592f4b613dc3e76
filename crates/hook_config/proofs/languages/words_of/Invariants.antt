use Rattle.std.proofs.Common.{◌≡◌, map, take}
use Rattle.hook_config.proofs.languages.words_of.Given as goal

abbrev pub invariant-loop-arg : goal.invariant-loop-arg
invariant-loop-arg l = map (λ word. word.now) l.words.items ≡ take l.arg-index l.args
