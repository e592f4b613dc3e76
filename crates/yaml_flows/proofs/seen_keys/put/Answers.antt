use Rattle.std.proofs.Common.{◌≡◌, cond, true, string_bytes, ap, ◌∙◌, arith}
use Rattle.std.proofs.lemmas.Map.Text.{btree_set_updates_text}
use Rattle.std.specs.BTreeSet.{contains_text}
use Rattle.std.specs.Str.{bytes_eq}
use Rattle.yaml_flows.proofs.seen_keys.put.Goals as goal

pub returns-then-branch-clause-added : goal.returns-then-branch-clause-added
returns-then-branch-clause-added c = λ q.
    let key = c.in_ok-from_str.field-0 in
    let copied : string_bytes key ≡ c.args.key.now = grind arith in
    btree_set_updates_text (string_bytes key) c.args.later.now c.insert.new.self true c.in_ok-insert.ensures.updates q
    ∙ ap (λ bs. cond (bytes_eq bs q) true (contains_text c.args.later.now q)) copied
