use Rattle.std.specs.Prelude.{◌⊎◌}
use Rattle.child_port.specs.Telling.{SameTells}
use Rattle.result_book.specs.Contents.{Contents}
use Rattle.result_book.specs.Told.{AddsTold}
use Rattle.hook_run.specs.Moments.{moment}
use Rattle.hook_run.specs.PlanBounds.{most_left}
use Rattle.hook_run.proofs.RunLemmas.{PlanSoFar}
use Rattle.hook_run.proofs.run_over.run_plan.Given as goal

abbrev pub invariant-parts : goal.invariant-parts
invariant-parts g l =
    let children = g.C.Children in
    let book = g.B.Book in
    record {
      so_far : PlanSoFar (children.tells l.fn.children) l.fn.reuse
          (moment (children.call_count l.fn.children) (children.fault_count l.fn.children) (book.contents l.fn.book))
          (moment (children.call_count l.children) (children.fault_count l.children) (book.contents l.book)) l.reused l.fn.plan l.plan;
      left : (left : Contents) → book.leaves l.book left → book.leaves l.fn.book left ⊎ AddsTold (children.tells l.fn.children) (book.contents l.fn.book) left;
      rest : book.rests l.fn.book l.book;
      same : SameTells (children.tells l.fn.children) (children.tells l.children);
    }

abbrev pub decreases-parts : goal.decreases-parts
decreases-parts g l = most_left l.plan
