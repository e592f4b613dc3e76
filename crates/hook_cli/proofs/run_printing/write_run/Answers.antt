use Rattle.std.proofs.Common.{List, ℕ}
use Rattle.text_output.specs.Outputs.{Has, HasBeginning}
use Rattle.text_output.specs.OutputLemmas.{on-err, begun-before, both-on-err, both-on-ok}
use Rattle.hook_cli.specs.RunText.{reported_text, reused_text}
use Rattle.hook_cli.proofs.RunPrintingLemmas.{reported-as}
use Rattle.hook_cli.proofs.run_printing.write_run.Goals as goal

pub returns-in_err-write_reported-clause-err : goal.returns-in_err-write_reported-clause-err
returns-in_err-write_reported-clause-err g c =
    let held = g.O.Write.contents c.args.out.now in
    let mid = g.O.Write.contents c.write_reported.new.out in
    on-err c.from_residual.result
    (begun-before held mid (reported_text c.args.ran.now.report c.args.ran.now.unsteady) (reused_text c.args.verbose c.args.ran.now.reused)
    (reported-as (λ (text : List ℕ). HasBeginning (record { held = held; holds = mid }) text) c.as_slice.result.now c.args.ran.now.report c.as_slice-2.result.now c.args.ran.now.unsteady
    c.as_slice.ensures c.as_slice-2.ensures c.in_err-write_reported.ensures.err))

pub returns-clause-ok : goal.returns-clause-ok
returns-clause-ok g c =
    let held = g.O.Write.contents c.args.out.now in
    let mid = g.O.Write.contents c.write_reported.new.out in
    both-on-ok c.write_reused.result held mid (g.O.Write.contents c.write_reused.new.out)
    (reported_text c.args.ran.now.report c.args.ran.now.unsteady) (reused_text c.args.verbose c.args.ran.now.reused)
    (reported-as (λ (text : List ℕ). Has (record { held = held; holds = mid }) text) c.as_slice.result.now c.args.ran.now.report c.as_slice-2.result.now c.args.ran.now.unsteady
    c.as_slice.ensures c.as_slice-2.ensures c.in_ok-write_reported.ensures.ok)
    c.write_reused.ensures.ok

pub returns-clause-err : goal.returns-clause-err
returns-clause-err g c =
    let held = g.O.Write.contents c.args.out.now in
    let mid = g.O.Write.contents c.write_reported.new.out in
    both-on-err c.write_reused.result held mid (g.O.Write.contents c.write_reused.new.out)
    (reported_text c.args.ran.now.report c.args.ran.now.unsteady) (reused_text c.args.verbose c.args.ran.now.reused)
    (reported-as (λ (text : List ℕ). Has (record { held = held; holds = mid }) text) c.as_slice.result.now c.args.ran.now.report c.as_slice-2.result.now c.args.ran.now.unsteady
    c.as_slice.ensures c.as_slice-2.ensures c.in_ok-write_reported.ensures.ok)
    c.write_reused.ensures.err
