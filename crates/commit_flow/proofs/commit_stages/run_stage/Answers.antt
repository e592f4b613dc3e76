use Rattle.std.proofs.Common.{List, [], subst}
use Rattle.std.proofs.lemmas.Result.{err_from_is_err_and}
use Rattle.hook_base.specs.declared.file.File.{File}
use Rattle.hook_run.specs.AnswerLemmas.{answered-none}
use Rattle.hook_run.specs.Moments.{moment}
use Rattle.hook_run.specs.Parts.{all_parts}
use Rattle.hook_run.specs.RunOuts.{IsBegun, NeedsChild}
use Rattle.hook_run.proofs.CompletionLemmas.{begins-at-once}
use Rattle.commit_flow.specs.CommitStages.{ask_with, tree_in}
use Rattle.commit_flow.proofs.StagesLemmas.{begun_all, halted_for_memory, halted_run, stage_over}
use Rattle.commit_flow.proofs.LeftLemmas.{left_same}
use Rattle.commit_flow.proofs.commit_stages.run_stage.Goals as goal

pub returns-clause-run : goal.returns-clause-run
returns-clause-run g c =
    let children = g.C.Children in
    let book = g.B.Book in
    let from = moment (children.call_count c.args.children.now) (children.fault_count c.args.children.now) (book.contents c.args.book.now) in
    let to = moment (children.call_count c.run_hooks_of.new.children) (children.fault_count c.run_hooks_of.new.children) (book.contents c.run_hooks_of.new.book) in
    stage_over (children.tells c.args.children.now) c.args.reuse from to c.args.config.now c.args.changed.now c.args.skip.now c.args.stage
    c.args.course c.in_ok-begun.begun c.in_ok-course.course c.in_ok-out.out c.in_ok-begun.ensures.tree c.in_ok-begun.ensures.after c.in_ok-out.ensures.run c.in_ok-course.ensures

pub returns-in_err-begun-clause-halted : goal.returns-in_err-begun-clause-halted
returns-in_err-begun-clause-halted g c =
    let children = g.C.Children in
    let book = g.B.Book in
    let tells = children.tells c.args.children.now in
    let from = moment (children.call_count c.args.children.now) (children.fault_count c.args.children.now) (book.contents c.args.book.now) in
    let p = err_from_is_err_and c.from_residual.result c.from_residual.ensures.1 in
    let ask = ask_with c.args.reuse c.args.changed.now c.args.skip.now c.args.stage in
    let tree = tree_in c.args.stage c.args.course in
    rw (p.1, p.2) (halted_for_memory book.refuses tells from from c.args.reuse (IsBegun c.args.config.now ask tree) (NeedsChild (book.contents c.args.book.now) c.args.config.now ask tree) []
    (begins-at-once c.args.config.now ask tree) (answered-none tells c.args.reuse from))

pub returns-in_err-out-clause-halted : goal.returns-in_err-out-clause-halted
returns-in_err-out-clause-halted g c =
    let children = g.C.Children in
    let book = g.B.Book in
    let from = moment (children.call_count c.args.children.now) (children.fault_count c.args.children.now) (book.contents c.args.book.now) in
    let to = moment (children.call_count c.run_hooks_of.new.children) (children.fault_count c.run_hooks_of.new.children) (book.contents c.run_hooks_of.new.book) in
    let p = err_from_is_err_and c.from_residual-in_err-out.result c.from_residual-in_err-out.ensures.1 in
    rw (p.1, p.2) (halted_run book.refuses (children.tells c.args.children.now) from to c.args.config.now (ask_with c.args.reuse c.args.changed.now c.args.skip.now c.args.stage)
    c.in_ok-begun.begun.tree (tree_in c.args.stage c.args.course) c.in_err-out.field-0.0 c.in_ok-begun.ensures.tree c.in_err-out.ensures.stopped)

pub returns-in_err-course-clause-halted : goal.returns-in_err-course-clause-halted
returns-in_err-course-clause-halted g c =
    let children = g.C.Children in
    let book = g.B.Book in
    let from = moment (children.call_count c.args.children.now) (children.fault_count c.args.children.now) (book.contents c.args.book.now) in
    let to = moment (children.call_count c.run_hooks_of.new.children) (children.fault_count c.run_hooks_of.new.children) (book.contents c.run_hooks_of.new.book) in
    let p = err_from_is_err_and c.from_residual-in_err-course.result c.from_residual-in_err-course.ensures.1 in
    let ask = ask_with c.args.reuse c.args.changed.now c.args.skip.now c.args.stage in
    let tree = tree_in c.args.stage c.args.course in
    let over = c.in_ok-out.ensures.run.over in
    rw (p.1, p.2) (halted_for_memory book.refuses (children.tells c.args.children.now) from to c.args.reuse (IsBegun c.args.config.now ask tree)
    (NeedsChild (book.contents c.run_hooks_of.new.book) c.args.config.now ask tree)
    (all_parts over.trace) (subst (λ (files : List File). IsBegun c.args.config.now ask files (all_parts over.trace)) c.in_ok-begun.ensures.tree
    (begun_all c.args.config.now ask c.in_ok-begun.begun.tree over.trace c.in_ok-out.out over.run)) over.answered)

pub returns-in_err-begun-clause-rest : goal.returns-in_err-begun-clause-rest
returns-in_err-begun-clause-rest g c = g.met.B.Book.rests_itself c.args.book.now

pub returns-in_err-begun-clause-left : goal.returns-in_err-begun-clause-left
returns-in_err-begun-clause-left g c = left_same (g.C.Children.tells c.args.children.now) (g.B.Book.contents c.args.book.now) (g.B.Book.leaves c.args.book.now)
