use Rattle.std.proofs.Common.{subst, IfErr}
use Rattle.std.proofs.lemmas.Result.{err_from_is_err_and}
use Rattle.hook_run.specs.declared.run_ask.RunAsk.{RunAsk}
use Rattle.hook_run.specs.Moments.{moment}
use Rattle.commit_flow.specs.CommitStages.{ask_with}
use Rattle.commit_flow.specs.Preparations.{HaveStopped}
use Rattle.commit_flow.proofs.StagesLemmas.{run_stopped_if, stopped_for_memory}
use Rattle.commit_flow.proofs.LeftLemmas.{left_same}
use Rattle.commit_flow.proofs.commit_stages.run_hooks_of.Goals as goal

pub returns-in_err-ask-clause-stopped : goal.returns-in_err-ask-clause-stopped
returns-in_err-ask-clause-stopped g c =
    let children = g.C.Children in
    let book = g.B.Book in
    let p = err_from_is_err_and c.from_residual.result c.from_residual.ensures.1 in
    rw (p.1, p.2) (stopped_for_memory book.refuses (children.tells c.args.children.now)
    (moment (children.call_count c.args.children.now) (children.fault_count c.args.children.now) (book.contents c.args.book.now))
    c.args.config.now (ask_with c.args.reuse c.args.changed.now c.args.skip.now c.args.stage) c.args.tree.now)

pub returns-clause-stopped : goal.returns-clause-stopped
returns-clause-stopped g c =
    let children = g.C.Children in
    let book = g.B.Book in
    let tells = children.tells c.args.children.now in
    let from = moment (children.call_count c.args.children.now) (children.fault_count c.args.children.now) (book.contents c.args.book.now) in
    let to = moment (children.call_count c.run_with_book.new.children) (children.fault_count c.run_with_book.new.children) (book.contents c.run_with_book.new.book) in
    run_stopped_if book.refuses tells from to c.args.config.now c.args.reuse c.args.changed.now c.args.skip.now c.args.stage c.args.tree.now c.run_with_book.result
    (subst (λ (ask : RunAsk). IfErr c.run_with_book.result (HaveStopped book.refuses tells from to c.args.config.now ask c.args.tree.now)) c.in_ok-ask.ensures c.run_with_book.ensures.stopped)

pub returns-in_err-ask-clause-rest : goal.returns-in_err-ask-clause-rest
returns-in_err-ask-clause-rest g c = g.met.B.Book.rests_itself c.args.book.now

pub returns-in_err-ask-clause-left : goal.returns-in_err-ask-clause-left
returns-in_err-ask-clause-left g c = left_same (g.C.Children.tells c.args.children.now) (g.B.Book.contents c.args.book.now) (g.B.Book.leaves c.args.book.now)
