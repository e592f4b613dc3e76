use Rattle.std.proofs.Common.{inl, inr}
use Rattle.std.proofs.lemmas.Result.{IfErr-weaker, err_from_is_err_and}
use Rattle.hookhost.proofs.StopLemmas.{opening_stops}
use Rattle.hookhost.proofs.commands.change_under.Goals as goal

pub returns-in_err-call-clause-stopped : goal.returns-in_err-call-clause-stopped
returns-in_err-call-clause-stopped c =
    let p = err_from_is_err_and c.from_residual.result c.from_residual.ensures.1 in
    rw (p.1, p.2) (inr (inr c.in_err-call.ensures.stopped))

pub returns-clause-stopped : goal.returns-clause-stopped
returns-clause-stopped c = IfErr-weaker c.open_and_do.result _ _ (λ stop why. inl (opening_stops stop why)) c.open_and_do.ensures.stopped
