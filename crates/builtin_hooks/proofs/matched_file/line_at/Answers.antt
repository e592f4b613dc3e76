use Rattle.std.proofs.Common.{arith}
use Rattle.builtin_hooks.proofs.PlaceLemmas.{same_line, same_next, same_number}
use Rattle.builtin_hooks.proofs.matched_file.line_at.Goals as goal

pub returns-then-place-end-clause-number : goal.returns-then-place-end-clause-number
returns-then-place-end-clause-number c =
    same_number c.args.bytes.now c.lines.rest.now c.args.index c.lines.place c.lines.number c.line_feed_or_end-end.result
    c.lines.invariant c.line_feed_or_end-end.ensures.place (omega arith)

pub returns-then-place-end-clause-line : goal.returns-then-place-end-clause-line
returns-then-place-end-clause-line c =
    same_line c.args.bytes.now c.lines.rest.now c.args.index c.lines.place c.lines.number c.line_feed_or_end-end.result
    c.lines.invariant c.line_feed_or_end-end.ensures.place (omega arith)

pub lines-preserved : goal.lines-preserved
lines-preserved c =
    same_next c.args.bytes.now c.lines.rest.now c.args.index c.lines.place c.lines.number c.line_feed_or_end-end.result
    c.lines.invariant c.line_feed_or_end-end.ensures.place (omega arith)
