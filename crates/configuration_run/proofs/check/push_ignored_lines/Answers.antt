use Rattle.std.proofs.Common.{◌∙◌, ◌++◌, ap}
use Rattle.configuration_run.specs.CheckText.{ignored_line}
use Rattle.configuration_run.proofs.LineLemmas.{written-more}
use Rattle.configuration_run.proofs.check.push_ignored_lines.Goals as goal

pub loop-key-preserved : goal.loop-key-preserved
loop-key-preserved c =
    written-more ignored_line _ c.loop-key.text.items _ c.args.keys.now c.loop-key.key-index c.key-item.result c.loop-key-test.true c.key-item.is
    c.loop-key.invariant (c.in_ok-push_ignored_line.ensures ∙ ap (λ key. c.loop-key.text.items ++ ignored_line key) c.as_str.ensures)
