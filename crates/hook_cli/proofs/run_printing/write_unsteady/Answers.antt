use Rattle.std.proofs.Common.{◌∙◌}
use Rattle.hook_cli.specs.RunText.{unsteady_line}
use Rattle.text_output.specs.OutputLemmas.{on-err, texts-begun, texts-written}
use Rattle.hook_cli.proofs.run_printing.write_unsteady.Goals as goal

pub returns-in_err-write_unsteady_line-clause-err : goal.returns-in_err-write_unsteady_line-clause-err
returns-in_err-write_unsteady_line-clause-err g c =
    on-err c.from_residual.result
    (texts-begun unsteady_line (g.O.Write.contents c.args.out.now) (g.O.Write.contents c.ids.out) (g.O.Write.contents c.write_unsteady_line.new.out)
    c.args.unsteady.now c.ids.id-index _ c.as_str.result.now c.ids-test.true (c.as_str.ensures ∙ c.id-item.is) c.ids.invariant c.in_err-write_unsteady_line.ensures.err)

pub ids-preserved : goal.ids-preserved
ids-preserved g c =
    texts-written unsteady_line (g.O.Write.contents c.args.out.now) (g.O.Write.contents c.ids.out) (g.O.Write.contents c.write_unsteady_line.new.out)
    c.args.unsteady.now c.ids.id-index _ c.as_str.result.now c.ids-test.true (c.as_str.ensures ∙ c.id-item.is) c.ids.invariant c.in_ok-write_unsteady_line.ensures.ok
