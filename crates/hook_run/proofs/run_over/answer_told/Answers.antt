use Rattle.hook_run.specs.Moments.{moment}
use Rattle.hook_run.specs.PlanRuns.{IsPartStopped}
use Rattle.hook_run.proofs.PartLemmas.{at-moment, stopped-back_to}
use Rattle.hook_run.proofs.run_over.answer_told.Goals as goal

pub returns-in-Err-clause-stopped : goal.returns-in-Err-clause-stopped
returns-in-Err-clause-stopped g c =
    let children = g.C.Children in
    let book = g.B.Book in
    let tells = children.tells c.args.children.now in
    let told = c.tell_news.new.children in
    let to = moment (children.call_count c.answer_part.new.children) (children.fault_count c.answer_part.new.children) (book.contents c.answer_part.new.book) in
    at-moment (λ from. IsPartStopped tells c.args.reuse from to c.args.plan.now c.in-Err.refusal)
    (children.call_count told) (children.call_count c.args.children.now) (children.fault_count told) (children.fault_count c.args.children.now) (book.contents c.args.book.now)
    c.tell_news.ensures.calls c.tell_news.ensures.faults
    (stopped-back_to tells (children.tells told) c.tell_news.ensures.same c.args.reuse (moment (children.call_count told) (children.fault_count told) (book.contents c.args.book.now)) to
    c.args.plan.now c.in-Err.refusal
    c.in-Err.ensures.stopped)
