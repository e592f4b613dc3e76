use Rattle.std.proofs.Common.{◌∙◌, ap, sym, Some}
use Rattle.std.proofs.lemmas.Option.{slice_get-get_or}
use Rattle.repository_text.specs.FixesText.{fix_line}
use Rattle.repository_text.proofs.TextLemmas.{said-more}
use Rattle.repository_text.proofs.fixes.push_fix_lines.Goals as goal

pub fixes-preserved : goal.fixes-preserved
fixes-preserved c =
    said-more fix_line _ c.fixes.text.items _ c.args.fixes.now c.fixes.fix-index c.fix-item.result
    (slice_get-get_or c.args.fixes.now c.fixes.fix-index c.fix-item.result c.fixes-test.true ∙ ap Some (sym c.fix-item.is))
    c.fixes.invariant c.in_ok-push_fix_line.ensures
