use Rattle.std.proofs.Common.{◌||◌, ◌∙◌, ◌+◌, take, []}
use Rattle.std.specs.Str.{bytes_eq}
use Rattle.child_port.specs.Seen.{is_seen_path}
use Rattle.child_port.proofs.IndexLemmas.{indexes_as, more_extra}
use Rattle.child_port.proofs.seen_indexes.extra_indexes.Goals as goal

pub extra-preserved : goal.extra-preserved
extra-preserved c =
    let i = c.extra.path-index in
    let path = c.as_str.result.now in
    let more = more_extra c.args.extra.now i c.path-item.result path c.args.tree.now c.extra-test.true (c.as_str.ensures.same ∙ c.path-item.is) in
    let held = c.in_ok-near.ensures (is_seen_path [] (take i c.args.extra.now)) c.extra.invariant in
    indexes_as (λ other. is_seen_path [] (take i c.args.extra.now) other || bytes_eq path other) (is_seen_path [] (take (i + 1) c.args.extra.now)) c.args.tree.now c.push_index.new.indexes.items more
    held
