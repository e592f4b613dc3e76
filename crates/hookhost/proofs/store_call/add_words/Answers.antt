use Rattle.command_line.specs.declared.line.PathSource.TheVariants.{Words}
use Rattle.hookhost.proofs.store_call.add_words.Goals as goal

pub returns-in_default-clause-call : goal.returns-in_default-clause-call
returns-in_default-clause-call g c = c.stage_call.ensures.call (Words c.args.words)

pub returns-then-is_some-clause-call : goal.returns-then-is_some-clause-call
returns-then-is_some-clause-call g c = c.stage_call-then-is_some.ensures.call (Words c.args.words)
