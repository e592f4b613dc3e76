use Rattle.std.proofs.Common.{refl}
use Rattle.std.proofs.lemmas.Result.{err_from_is_err_and}
use Rattle.hook_run.specs.declared.run_refusal.RunRefusal.TheVariants as run
use Rattle.hook_run.specs.Moments.{moment}
use Rattle.commit_flow.proofs.RunLemmas.{given_so, lost}
use Rattle.commit_flow.proofs.run.run_prepared.Goals as goal

pub returns-in_err-changes-clause-stopped : goal.returns-in_err-changes-clause-stopped
returns-in_err-changes-clause-stopped g c =
    let children = g.C.Children in
    let book = g.B.Book in
    let from = moment (children.call_count c.args.children.now) (children.fault_count c.args.children.now) (book.contents c.args.book.now) in
    let to = moment (children.call_count c.run_counted.new.children) (children.fault_count c.run_counted.new.children) (book.contents c.run_counted.new.book) in
    let ready = c.args.prepared.now in
    let p = err_from_is_err_and c.from_residual-in_err-changes.result c.from_residual-in_err-changes.ensures.1 in
    rw (p.1, p.2) (record {
      inner = run.OutOfMemory;
      stopped = lost book.refuses (children.tells c.args.children.now) from to ready.config ready.ask ready.tree c.in_ok-ran.ran.out c.in_ok-ran.ensures.run.run;
      is = refl;
    })

pub returns-clause-run : goal.returns-clause-run
returns-clause-run g c = record {
  hooks = c.in_ok-ran.ran;
  run = c.in_ok-ran.ensures.run.run;
  counted = c.in_ok-ran.ensures.run.counted;
  gives = given_so c.args.prepared.now.tree c.in_ok-ran.ran c.in_ok-changes.changes c.in_ok-changes.ensures;
}
