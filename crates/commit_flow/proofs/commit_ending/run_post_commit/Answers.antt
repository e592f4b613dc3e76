use Rattle.std.proofs.Common.{refl}
use Rattle.commit_flow.proofs.commit_ending.run_post_commit.Goals as goal

pub returns-in-Ok-clause-post : goal.returns-in-Ok-clause-post
returns-in-Ok-clause-post g c =
    let over = c.in-Ok.ensures.run.over in
    record { told = record { trace = over.trace; out = _ }; run = over.run; answered = over.answered; reported = refl }
