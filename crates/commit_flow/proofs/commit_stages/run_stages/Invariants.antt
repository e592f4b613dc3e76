use Rattle.std.specs.Prelude.{drop}
use Rattle.child_port.specs.Telling.{SameTells}
use Rattle.hook_run.specs.Moments.{moment}
use Rattle.commit_flow.specs.Preparations.{LeavesTold}
use Rattle.commit_flow.proofs.StagesLemmas.{AreSoFar}
use Rattle.commit_flow.proofs.commit_stages.run_stages.Given as goal

abbrev pub invariant-stages : goal.invariant-stages
invariant-stages g l =
    let children = g.C.Children in
    let book = g.B.Book in
    record {
      so_far : AreSoFar (children.tells l.fn.children) (moment (children.call_count l.fn.children) (children.fault_count l.fn.children) (book.contents l.fn.book))
          (moment (children.call_count l.children) (children.fault_count l.children) (book.contents l.book)) l.config l.changed l.skip l.stages l.fn.course (drop l.stage-index l.stages) l.course
          l.reports.items;
      left : LeavesTold (children.tells l.fn.children) (book.contents l.fn.book) (book.leaves l.fn.book) (book.leaves l.book);
      rest : book.rests l.fn.book l.book;
      same : SameTells (children.tells l.fn.children) (children.tells l.children);
    }
