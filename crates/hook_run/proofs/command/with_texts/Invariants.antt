use Rattle.std.proofs.Common.{◌≡◌, ◌++◌, take}
use Rattle.hook_run.proofs.command.with_texts.Given as goal

abbrev pub invariant-texts : goal.invariant-texts
invariant-texts l = l.texts.items ≡ l.fn.texts.items ++ take l.text-index l.more
