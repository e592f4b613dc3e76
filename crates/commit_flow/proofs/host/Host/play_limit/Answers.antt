use Rattle.std.proofs.Common.{subst}
use Rattle.store_faults.specs.Limits.{IsLimit}
use Rattle.repo_store.specs.StoreBooks.{remembered_by}
use Rattle.commit_flow.specs.declared.reply.Reply.TheVariants.{Limited, Refused}
use Rattle.commit_flow.proofs.CommandLemmas.{limit_fits, limit_made, limit_one, limit_step}
use Rattle.commit_flow.proofs.host.Host.play_limit.Goals as goal

pub set_limit-requires : goal.set_limit-requires
set_limit-requires g c = limit_fits c.args.most.now c.number.result c.number.ensures.same c.number.ensures.within

pub returns-in-Ok-clause-step : goal.returns-in-Ok-clause-step
returns-in-Ok-clause-step g c =
    limit_step c.args.most.now c.number.result c.number.ensures.same c.args.self.now.store.kept.repo c.set_limit.new.self.store.kept.repo (Limited c.in-Ok.number) c.in-Ok.ensures.step

pub returns-in-Err-clause-step : goal.returns-in-Err-clause-step
returns-in-Err-clause-step g c =
    limit_step c.args.most.now c.number.result c.number.ensures.same c.args.self.now.store.kept.repo c.set_limit.new.self.store.kept.repo (Refused c.in-Err.refusal) c.in-Err.ensures.step

pub returns-in-Ok-clause-one : goal.returns-in-Ok-clause-one
returns-in-Ok-clause-one g c =
    limit_one c.args.most.now c.number.result c.number.ensures.same g.S.Store c.args.self.now.store c.set_limit.new.self.store (Limited c.in-Ok.number) c.in-Ok.ensures.command

pub returns-in-Err-clause-one : goal.returns-in-Err-clause-one
returns-in-Err-clause-one g c =
    limit_one c.args.most.now c.number.result c.number.ensures.same g.S.Store c.args.self.now.store c.set_limit.new.self.store (Refused c.in-Err.refusal) c.in-Err.ensures.command

pub returns-in-Ok-clause-limited : goal.returns-in-Ok-clause-limited
returns-in-Ok-clause-limited g c =
    limit_made c.args.most.now c.number.result c.number.ensures.same (remembered_by c.args.self.now.store.kept) (remembered_by c.set_limit.new.self.store.kept) c.in-Ok.number c.in-Ok.ensures.number
    c.in-Ok.ensures.limited
