use Rattle.hook_cli.proofs.over_messages.run_message_hooks.Goals as goal

pub returns-clause-over : goal.returns-clause-over
returns-clause-over g c = (c.hooks_of_message-answered.result.message, c.hooks_of_message-answered.ensures.over)
