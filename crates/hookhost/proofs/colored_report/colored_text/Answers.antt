use Rattle.std.proofs.Common.{◌∙◌, ap, rules, tests, true}
use Rattle.std.proofs.lemmas.Iterator.Consumers.{YieldsList-end}
use Rattle.std.proofs.lemmas.Iterator.Splits.{YieldsList-from_slice_split}
use Rattle.hookhost.specs.ColoredTexts.{colored_lines, is_report_line_feed}
use Rattle.hookhost.proofs.ColorLemmas.{line-more, start-more}
use Rattle.hookhost.proofs.colored_report.colored_text.Goals as goal

pub returns : goal.returns
returns c =
    let all =
    YieldsList-end (YieldsList-from_slice_split _ is_report_line_feed c.args.text.now (cc) (cc) (cc) (λ x b q k. search (rules, tests))) c.lines.yielded _ c.lines.yielded_by _ _ c.in-None.is
    c.next.ensures.steps in
    c.lines.invariant.text ∙ ap (colored_lines true) all.0

pub lines-preserved : goal.lines-preserved
lines-preserved c = record {
  first = start-more c.lines.yielded c.in-Some.line;
  text = line-more c.lines.yielded c.in-Some.line c.lines.is_first c.lines.colored.items c.push_next_line.new.colored.items
      c.lines.invariant.first c.lines.invariant.text c.in_ok-push_next_line.ensures;
}
