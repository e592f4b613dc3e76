use Rattle.std.proofs.Common.{◌+◌, ◌∷◌, ◌++◌, [], drop, refl, arith, rules}
use Rattle.std.proofs.lemmas.Grind.{common_steps}
use Rattle.std.proofs.lemmas.Result.{err_from_is_err_and}
use Rattle.child_port.specs.TellingLemmas.{SameTells-refl, SameTells-trans}
use Rattle.hook_run.specs.declared.reuse.Reuse.TheVariants as reuse
use Rattle.hook_run.specs.Moments.{moment}
use Rattle.commit_flow.proofs.StagesLemmas.{all_passed, none_so_far, one_failed, one_halted, one_lost, one_more, rest_after}
use Rattle.hook_run.specs.AnswerLemmas.{answered-adds}
use Rattle.commit_flow.specs.CommitStages.{parts_of_stages}
use Rattle.commit_flow.proofs.LeftLemmas.{left_same, left_then}
use Rattle.commit_flow.proofs.commit_stages.run_stages.Goals as goal

pub stages-init : goal.stages-init
stages-init g c =
    let children = g.C.Children in
    let book = g.B.Book in
    record {
      so_far = none_so_far (children.tells c.args.children.now) (moment (children.call_count c.args.children.now) (children.fault_count c.args.children.now) (book.contents c.args.book.now))
          c.args.config.now c.args.changed.now c.args.skip.now c.args.stages.now c.args.course c.new-reports.result.items c.new-reports.ensures.items;
      left = left_same (children.tells c.args.children.now) (book.contents c.args.book.now) (book.leaves c.args.book.now);
      rest = g.met.B.Book.rests_itself c.args.book.now;
      same = SameTells-refl (children.tells c.args.children.now);
    }

pub returns-in_err-end-clause-halted : goal.returns-in_err-end-clause-halted
returns-in_err-end-clause-halted g c =
    let children = g.C.Children in
    let book = g.B.Book in
    let from = moment (children.call_count c.args.children.now) (children.fault_count c.args.children.now) (book.contents c.args.book.now) in
    let between = moment (children.call_count c.stages.children) (children.fault_count c.stages.children) (book.contents c.stages.book) in
    let to = moment (children.call_count c.run_stage.new.children) (children.fault_count c.run_stage.new.children) (book.contents c.run_stage.new.book) in
    let p = err_from_is_err_and c.from_residual.result c.from_residual.ensures.1 in
    rw (p.1, p.2) (one_halted (children.tells c.args.children.now) (children.tells c.stages.children) from between to
    c.args.config.now c.args.changed.now c.args.skip.now c.args.stages.now c.args.course (drop c.stages.stage-index c.args.stages.now) (drop (c.stages.stage-index + 1) c.args.stages.now)
    _ c.stages.course c.stages.reports.items c.stages.invariant.same c.stages.invariant.so_far
    (rest_after c.args.stages.now c.stages.stage-index _ (omega (arith, c.stages-test.true))) book.refuses c.in_err-end.field-0.0 c.in_err-end.ensures.halted)

pub returns-in_err-add_report-clause-halted : goal.returns-in_err-add_report-clause-halted
returns-in_err-add_report-clause-halted g c =
    let children = g.C.Children in
    let book = g.B.Book in
    let from = moment (children.call_count c.args.children.now) (children.fault_count c.args.children.now) (book.contents c.args.book.now) in
    let between = moment (children.call_count c.stages.children) (children.fault_count c.stages.children) (book.contents c.stages.book) in
    let to = moment (children.call_count c.run_stage.new.children) (children.fault_count c.run_stage.new.children) (book.contents c.run_stage.new.book) in
    let p = err_from_is_err_and c.from_residual-in_err-add_report.result c.from_residual-in_err-add_report.ensures.1 in
    rw (p.1, p.2) (one_lost (children.tells c.args.children.now) (children.tells c.stages.children) from between to
    c.args.config.now c.args.changed.now c.args.skip.now c.args.stages.now c.args.course (drop c.stages.stage-index c.args.stages.now) (drop (c.stages.stage-index + 1) c.args.stages.now)
    _ c.stages.course c.stages.reports.items c.stages.invariant.same c.stages.invariant.so_far
    (rest_after c.args.stages.now c.stages.stage-index _ (omega (arith, c.stages-test.true))) (c.stages.reports.items ++ c.in_ok-end.end.report ∷ []) c.in_ok-end.end c.in_ok-end.ensures.run refl
    book.refuses)

pub returns-then-not-passed-clause-run : goal.returns-then-not-passed-clause-run
returns-then-not-passed-clause-run g c =
    let children = g.C.Children in
    let book = g.B.Book in
    let from = moment (children.call_count c.args.children.now) (children.fault_count c.args.children.now) (book.contents c.args.book.now) in
    let between = moment (children.call_count c.stages.children) (children.fault_count c.stages.children) (book.contents c.stages.book) in
    let to = moment (children.call_count c.run_stage.new.children) (children.fault_count c.run_stage.new.children) (book.contents c.run_stage.new.book) in
    one_failed (children.tells c.args.children.now) (children.tells c.stages.children) from between to
    c.args.config.now c.args.changed.now c.args.skip.now c.args.stages.now c.args.course (drop c.stages.stage-index c.args.stages.now) (drop (c.stages.stage-index + 1) c.args.stages.now)
    _ c.stages.course c.stages.reports.items c.stages.invariant.same c.stages.invariant.so_far
    (rest_after c.args.stages.now c.stages.stage-index _ (omega (arith, c.stages-test.true))) c.from.result c.in_ok-end.end c.in_ok-end.ensures.run (search rules) (search rules)

pub stages-preserved : goal.stages-preserved
stages-preserved g c =
    let children = g.C.Children in
    let book = g.B.Book in
    let from = moment (children.call_count c.args.children.now) (children.fault_count c.args.children.now) (book.contents c.args.book.now) in
    let between = moment (children.call_count c.stages.children) (children.fault_count c.stages.children) (book.contents c.stages.book) in
    let to = moment (children.call_count c.run_stage.new.children) (children.fault_count c.run_stage.new.children) (book.contents c.run_stage.new.book) in
    record {
      so_far = one_more (children.tells c.args.children.now) (children.tells c.stages.children) from between to
          c.args.config.now c.args.changed.now c.args.skip.now c.args.stages.now c.args.course (drop c.stages.stage-index c.args.stages.now) (drop (c.stages.stage-index + 1) c.args.stages.now)
          _ c.stages.course c.stages.reports.items c.stages.invariant.same c.stages.invariant.so_far
          (rest_after c.args.stages.now c.stages.stage-index _ (omega (arith, c.stages-test.true))) c.add_report.new.reports.items c.in_ok-end.end c.in_ok-end.ensures.run c.in_ok-add_report.ensures
          (search rules);
      left =
          left_then (children.tells c.args.children.now) (children.tells c.stages.children) (book.contents c.args.book.now) (book.contents c.stages.book) (book.leaves c.args.book.now)
          (book.leaves c.stages.book) (book.leaves c.run_stage.new.book)
          c.stages.invariant.same (answered-adds (children.tells c.args.children.now) reuse.All from between (parts_of_stages c.stages.invariant.so_far.told) c.stages.invariant.so_far.answered)
          c.stages.invariant.left c.run_stage.ensures.left;
      rest = g.met.B.Book.rests_on c.args.book.now c.stages.book c.run_stage.new.book c.stages.invariant.rest c.run_stage.ensures.rest;
      same = SameTells-trans (children.tells c.args.children.now) (children.tells c.stages.children) (children.tells c.run_stage.new.children) c.stages.invariant.same c.run_stage.ensures.same;
    }

pub returns-clause-run : goal.returns-clause-run
returns-clause-run g c =
    let children = g.C.Children in
    let book = g.B.Book in
    let from = moment (children.call_count c.args.children.now) (children.fault_count c.args.children.now) (book.contents c.args.book.now) in
    let to = moment (children.call_count c.stages.children) (children.fault_count c.stages.children) (book.contents c.stages.book) in
    all_passed (children.tells c.args.children.now) from to c.args.config.now c.args.changed.now c.args.skip.now c.args.stages.now c.args.course
    (drop c.stages.stage-index c.args.stages.now) c.stages.course c.from-2.result
    (rw c.from-2.ensures c.stages.invariant.so_far) (grind (arith, common_steps))

pub returns-in_err-end-clause-rest : goal.returns-in_err-end-clause-rest
returns-in_err-end-clause-rest g c = g.met.B.Book.rests_on c.args.book.now c.stages.book c.run_stage.new.book c.stages.invariant.rest c.run_stage.ensures.rest

pub returns-in_err-add_report-clause-rest : goal.returns-in_err-add_report-clause-rest
returns-in_err-add_report-clause-rest g c = g.met.B.Book.rests_on c.args.book.now c.stages.book c.run_stage.new.book c.stages.invariant.rest c.run_stage.ensures.rest

pub returns-then-not-passed-clause-rest : goal.returns-then-not-passed-clause-rest
returns-then-not-passed-clause-rest g c = g.met.B.Book.rests_on c.args.book.now c.stages.book c.run_stage.new.book c.stages.invariant.rest c.run_stage.ensures.rest

pub returns-in_err-end-clause-left : goal.returns-in_err-end-clause-left
returns-in_err-end-clause-left g c =
    let children = g.C.Children in
    let book = g.B.Book in
    let tells = children.tells c.args.children.now in
    let from = moment (children.call_count c.args.children.now) (children.fault_count c.args.children.now) (book.contents c.args.book.now) in
    let between = moment (children.call_count c.stages.children) (children.fault_count c.stages.children) (book.contents c.stages.book) in
    left_then tells (children.tells c.stages.children) (book.contents c.args.book.now) (book.contents c.stages.book) (book.leaves c.args.book.now) (book.leaves c.stages.book)
    (book.leaves c.run_stage.new.book)
    c.stages.invariant.same (answered-adds tells reuse.All from between (parts_of_stages c.stages.invariant.so_far.told) c.stages.invariant.so_far.answered) c.stages.invariant.left
    c.run_stage.ensures.left

pub returns-in_err-add_report-clause-left : goal.returns-in_err-add_report-clause-left
returns-in_err-add_report-clause-left g c =
    let children = g.C.Children in
    let book = g.B.Book in
    let tells = children.tells c.args.children.now in
    let from = moment (children.call_count c.args.children.now) (children.fault_count c.args.children.now) (book.contents c.args.book.now) in
    let between = moment (children.call_count c.stages.children) (children.fault_count c.stages.children) (book.contents c.stages.book) in
    left_then tells (children.tells c.stages.children) (book.contents c.args.book.now) (book.contents c.stages.book) (book.leaves c.args.book.now) (book.leaves c.stages.book)
    (book.leaves c.run_stage.new.book)
    c.stages.invariant.same (answered-adds tells reuse.All from between (parts_of_stages c.stages.invariant.so_far.told) c.stages.invariant.so_far.answered) c.stages.invariant.left
    c.run_stage.ensures.left

pub returns-then-not-passed-clause-left : goal.returns-then-not-passed-clause-left
returns-then-not-passed-clause-left g c =
    let children = g.C.Children in
    let book = g.B.Book in
    let tells = children.tells c.args.children.now in
    let from = moment (children.call_count c.args.children.now) (children.fault_count c.args.children.now) (book.contents c.args.book.now) in
    let between = moment (children.call_count c.stages.children) (children.fault_count c.stages.children) (book.contents c.stages.book) in
    left_then tells (children.tells c.stages.children) (book.contents c.args.book.now) (book.contents c.stages.book) (book.leaves c.args.book.now) (book.leaves c.stages.book)
    (book.leaves c.run_stage.new.book)
    c.stages.invariant.same (answered-adds tells reuse.All from between (parts_of_stages c.stages.invariant.so_far.told) c.stages.invariant.so_far.answered) c.stages.invariant.left
    c.run_stage.ensures.left
