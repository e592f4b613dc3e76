use Rattle.std.proofs.Common.{◌≡◌, ◌∙◌, true, false, take_all, refl, ap, arith}
use Rattle.std.specs.List.{prefix_len, list_all}
use Rattle.yaml_profile.specs.Blocks.{is_in_flow}
use Rattle.yaml_profile.proofs.Flows.{all_pass, one_fails}
use Rattle.yaml_profile.proofs.flow.flow_node.Goals as goal

pub returns-in-empty : goal.returns-in-empty
returns-in-empty c =
    let below = c.args.below.now in
    let counted : c.count_in_flow.result ≡ prefix_len (is_in_flow c.args.place.now.indent) below =
    c.count_in_flow.ensures.value ∙ ap (λ i. prefix_len (is_in_flow i) below) c.indent.ensures in
    let all : list_all (is_in_flow c.args.place.now.indent) below ≡ true = all_pass (is_in_flow c.args.place.now.indent) below (omega arith) in
    let own : c.split_at.result.0.now ≡ below = c.split_at.ensures.front ∙ take_all c.count_in_flow.result below (omega arith) in
    rw (all, ← own, ← c.content.ensures) c.flow_over.ensures

pub returns-in-len1-up : goal.returns-in-len1-up
returns-in-len1-up c =
    let below = c.args.below.now in
    let counted : c.count_in_flow.result ≡ prefix_len (is_in_flow c.args.place.now.indent) below =
    c.count_in_flow.ensures.value ∙ ap (λ i. prefix_len (is_in_flow i) below) c.indent.ensures in
    let left : list_all (is_in_flow c.args.place.now.indent) below ≡ false = one_fails (is_in_flow c.args.place.now.indent) below (omega arith) in
    rw left (λ _. refl)
