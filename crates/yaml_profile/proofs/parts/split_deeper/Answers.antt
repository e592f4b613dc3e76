use Rattle.std.proofs.Common.{take, drop, sym, ap, ◌∙◌}
use Rattle.yaml_profile.specs.Blocks.{parts, is_deeper}
use Rattle.yaml_profile.proofs.Cuts.{before_is, parts_is}
use Rattle.yaml_profile.proofs.parts.split_deeper.Goals as goal

pub returns-clause-below : goal.returns-clause-below
returns-clause-below c =
    c.split_at.ensures.front ∙ ap (λ n. take n c.args.lines.now) c.count_deeper.ensures.value ∙ sym (before_is (is_deeper c.args.indent) c.args.lines.now)

pub returns-clause-rest : goal.returns-clause-rest
returns-clause-rest c =
    ap (parts (is_deeper c.args.indent)) (c.split_at.ensures.back ∙ ap (λ n. drop n c.args.lines.now) c.count_deeper.ensures.value)
    ∙ sym (parts_is (is_deeper c.args.indent) c.args.lines.now)
