use Rattle.std.proofs.Common.{◌∙◌, arith}
use Rattle.std.proofs.lemmas.Result.{err_from_is_err_and}
use Rattle.hook_config.specs.Hooks.{hooks_of_repository}
use Rattle.hook_config.proofs.HookLists.{found_at, refused_at}
use Rattle.hook_config.proofs.repositories.hooks_of_repositories.Goals as goal

pub returns-in_err-add_repository : goal.returns-in_err-add_repository
returns-in_err-add_repository c =
    let p = err_from_is_err_and c.from_residual.result c.from_residual.ensures.1 in
    rw (p.1, p.2)
    (λ other pattern. c.loop-repository.invariant.same
    ∙ refused_at (hooks_of_repository c.args.defaults.now) c.loop-repository.hooks.items c.args.repositories.now c.loop-repository.repository-index c.repository-item.result (omega arith)
    c.repository-item.is (c.in_err-add_repository.ensures other pattern))

pub loop-repository-preserved : goal.loop-repository-preserved
loop-repository-preserved c =
    let found =
    found_at (hooks_of_repository c.args.defaults.now) c.loop-repository.hooks.items c.add_repository.new.hooks.items c.args.repositories.now c.loop-repository.repository-index
    c.repository-item.result
    (omega arith) c.repository-item.is c.in_ok-add_repository.ensures in
    record { within = found.0; same = c.loop-repository.invariant.same ∙ found.1 }
