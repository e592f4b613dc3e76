use Rattle.commit_flow.proofs.host.Host.play_message.Goals as goal

pub returns-in-Err-clause-played : goal.returns-in-Err-clause-played
returns-in-Err-clause-played g c = rw (c.as_slice.ensures) at c.in-Err.ensures.command

pub returns-in-Ok-clause-played : goal.returns-in-Ok-clause-played
returns-in-Ok-clause-played g c = rw (c.as_slice.ensures) at c.in-Ok.ensures.command
