use Rattle.std.proofs.Common.{rules, tests}
use Rattle.std.proofs.lemmas.Iterator.Consumers.{YieldsList-end}
use Rattle.std.proofs.lemmas.Iterator.Splits.{YieldsList-from_slice_split}
use Rattle.commit_flow.specs.Messages.{is_message_line_feed}
use Rattle.commit_flow.proofs.MessageLemmas.{all_written}
use Rattle.commit_flow.proofs.message.cleaned_message.Goals as goal

pub returns : goal.returns
returns c =
    let all =
    YieldsList-end (YieldsList-from_slice_split _ is_message_line_feed c.args.message.now (cc) (cc) (cc) (λ x b q k. search (rules, tests))) c.lines.yielded _ c.lines.yielded_by _ _ c.in-None.is
    c.next.ensures.steps in
    all_written c.args.message.now c.lines.cleaned.items c.lines.before.now c.lines.waits _ c.lines.invariant all.0
