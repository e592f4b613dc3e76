use Rattle.std.proofs.Common.{◌≢◌, IfErr, rules}
use Rattle.hook_run.specs.declared.run_refusal.RunRefusal.TheVariants.{Spent}
use Rattle.hook_run.specs.Moments.{moment}
use Rattle.hook_run.proofs.FaultLemmas.{reported_if}
use Rattle.hook_run.proofs.RunLemmas.{adds_if, run-counted_if, run-over_if, stopped-at-once_if, stopped_if}
use Rattle.hook_run.proofs.run_over.run_hooks.Goals as goal

pub returns-in_err-plan-clause-stopped : goal.returns-in_err-plan-clause-stopped
returns-in_err-plan-clause-stopped g c =
    let children = g.C.Children in
    let book = g.B.Book in
    let countable : IfErr c.from_residual.result (λ refusal. refusal ≢ Spent) = search rules in
    stopped-at-once_if (children.tells c.args.children.now) (moment (children.call_count c.args.children.now) (children.fault_count c.args.children.now) (book.contents c.args.book.now))
    c.args.config.now c.args.ask.now c.args.tree.now c.from_residual.result countable

pub returns-clause-run : goal.returns-clause-run
returns-clause-run g c =
    let children = g.C.Children in
    let book = g.B.Book in
    run-over_if (children.tells c.args.children.now) (moment (children.call_count c.args.children.now) (children.fault_count c.args.children.now) (book.contents c.args.book.now))
    (moment (children.call_count c.run_plan.new.children) (children.fault_count c.run_plan.new.children) (book.contents c.run_plan.new.book)) c.args.config.now c.args.ask.now c.args.tree.now
    c.in_ok-plan.plan c.in_ok-plan.ensures.plan
    c.run_plan.result c.run_plan.ensures.run

pub returns-clause-reused : goal.returns-clause-reused
returns-clause-reused g c =
    let children = g.C.Children in
    let book = g.B.Book in
    run-counted_if (children.tells c.args.children.now) (moment (children.call_count c.args.children.now) (children.fault_count c.args.children.now) (book.contents c.args.book.now))
    (moment (children.call_count c.run_plan.new.children) (children.fault_count c.run_plan.new.children) (book.contents c.run_plan.new.book)) c.args.config.now c.args.ask.now c.args.tree.now
    c.in_ok-plan.plan c.in_ok-plan.ensures.plan
    c.run_plan.result c.run_plan.ensures.run

pub returns-clause-stopped : goal.returns-clause-stopped
returns-clause-stopped g c =
    let children = g.C.Children in
    let book = g.B.Book in
    stopped_if (children.tells c.args.children.now) (moment (children.call_count c.args.children.now) (children.fault_count c.args.children.now) (book.contents c.args.book.now))
    (moment (children.call_count c.run_plan.new.children) (children.fault_count c.run_plan.new.children) (book.contents c.run_plan.new.book)) c.args.config.now c.args.ask.now c.args.tree.now
    c.in_ok-plan.plan c.in_ok-plan.ensures.plan
    c.run_plan.result c.run_plan.ensures.stopped

pub returns-clause-reported : goal.returns-clause-reported
returns-clause-reported g c =
    let children = g.C.Children in
    let book = g.B.Book in
    reported_if (children.tells c.args.children.now) (moment (children.call_count c.args.children.now) (children.fault_count c.args.children.now) (book.contents c.args.book.now))
    (moment (children.call_count c.run_plan.new.children) (children.fault_count c.run_plan.new.children) (book.contents c.run_plan.new.book)) c.args.config.now c.args.ask.now c.args.tree.now
    c.run_plan.result
    (run-over_if (children.tells c.args.children.now) (moment (children.call_count c.args.children.now) (children.fault_count c.args.children.now) (book.contents c.args.book.now))
    (moment (children.call_count c.run_plan.new.children) (children.fault_count c.run_plan.new.children) (book.contents c.run_plan.new.book)) c.args.config.now c.args.ask.now c.args.tree.now
    c.in_ok-plan.plan c.in_ok-plan.ensures.plan
    c.run_plan.result c.run_plan.ensures.run)

pub returns-clause-told : goal.returns-clause-told
returns-clause-told g c =
    let children = g.C.Children in
    let book = g.B.Book in
    adds_if (children.tells c.args.children.now) (moment (children.call_count c.args.children.now) (children.fault_count c.args.children.now) (book.contents c.args.book.now))
    (moment (children.call_count c.run_plan.new.children) (children.fault_count c.run_plan.new.children) (book.contents c.run_plan.new.book)) c.args.config.now c.args.ask.now c.args.tree.now
    c.in_ok-plan.plan c.in_ok-plan.ensures.plan
    c.run_plan.result c.run_plan.ensures.run c.run_plan.ensures.stopped
