use Rattle.std.proofs.Common.{◌∙◌}
use Rattle.builtin_hooks.proofs.JoinLemmas.{joined-after}
use Rattle.builtin_hooks.proofs.fail.push_joined.Goals as goal

pub returns : goal.returns
returns c =
    joined-after c.args.output.now.items c.as_bytes.result.now c.push.new.output.items c.others.output.items c.args.files.now _
    c.others.path-index c.in-len1-up.len_at_least c.others-test.false (c.as_bytes.ensures.value ∙ c.as_str.ensures.same ∙ c.first-item.is)
    c.in_ok-push.ensures c.others.invariant
