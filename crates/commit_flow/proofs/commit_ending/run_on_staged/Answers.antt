use Rattle.std.proofs.Common.{[]}
use Rattle.std.proofs.lemmas.Result.{err_from_is_err_and}
use Rattle.hook_config.specs.declared.stage.Stage.TheVariants.{PostCommit}
use Rattle.repo_store.specs.StoreBooks.{MayRemember, RefusesAnswers, remembered_by}
use Rattle.hook_run.specs.Moments.{moment}
use Rattle.commit_flow.specs.CommitStages.{ask_in}
use Rattle.commit_flow.proofs.StagesLemmas.{stopped_for_memory}
use Rattle.repo_store.specs.RestLemmas.{rests_itself}
use Rattle.commit_flow.proofs.LeftLemmas.{left_same}
use Rattle.commit_flow.proofs.commit_ending.run_on_staged.Goals as goal

pub returns-in_err-staged-clause-stopped : goal.returns-in_err-staged-clause-stopped
returns-in_err-staged-clause-stopped g c =
    let children = g.C.Children in
    let p = err_from_is_err_and c.from_residual.result c.from_residual.ensures.1 in
    rw (p.1, p.2) (stopped_for_memory RefusesAnswers (children.tells c.args.children.now)
    (moment (children.call_count c.args.children.now) (children.fault_count c.args.children.now) (remembered_by c.args.store.now.kept))
    c.args.config.now (ask_in [] c.args.skip.now PostCommit) c.args.store.now.kept.repo.staged)

pub returns-in_err-staged-clause-rest : goal.returns-in_err-staged-clause-rest
returns-in_err-staged-clause-rest g c = rests_itself g.S.Store c.args.store.now

pub returns-in_err-staged-clause-left : goal.returns-in_err-staged-clause-left
returns-in_err-staged-clause-left g c = left_same (g.C.Children.tells c.args.children.now) (remembered_by c.args.store.now.kept) (MayRemember g.S.Store c.args.store.now)
