use Rattle.std.proofs.Common.{take, drop, sym, ap, ◌∙◌}
use Rattle.yaml_profile.specs.Blocks.{parts, is_below_key}
use Rattle.yaml_profile.proofs.Cuts.{before_is, parts_is}
use Rattle.yaml_profile.proofs.parts.split_below_key.Goals as goal

pub returns-clause-below : goal.returns-clause-below
returns-clause-below c =
    c.split_at.ensures.front ∙ ap (λ n. take n c.args.lines.now) c.count_below_key.ensures.value ∙ sym (before_is (is_below_key c.args.indent) c.args.lines.now)

pub returns-clause-rest : goal.returns-clause-rest
returns-clause-rest c =
    ap (parts (is_below_key c.args.indent)) (c.split_at.ensures.back ∙ ap (λ n. drop n c.args.lines.now) c.count_below_key.ensures.value)
    ∙ sym (parts_is (is_below_key c.args.indent) c.args.lines.now)
