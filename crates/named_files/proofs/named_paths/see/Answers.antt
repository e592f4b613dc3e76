use Rattle.std.proofs.Common.{◌≡◌, Bool, true, false, cond, string_bytes, ap, ◌∙◌, refl, arith}
use Rattle.std.proofs.lemmas.Map.Text.{btree_set_updates_text}
use Rattle.std.specs.BTreeSet.{contains_text}
use Rattle.std.specs.Prelude.{◌||◌}
use Rattle.std.specs.Str.{bytes_eq}
use Rattle.named_files.proofs.named_paths.see.Goals as goal

cond-or : (b found : Bool) → cond b true found ≡ (b || found)
cond-or true found = refl
cond-or false found = refl

pub returns-clause-added : goal.returns-clause-added
returns-clause-added c = λ q.
    let key = c.in_ok-from_str.field-0 in
    let copied : string_bytes key ≡ c.args.path.now = grind arith in
    btree_set_updates_text (string_bytes key) c.args.seen.now c.insert.new.self true c.in_ok-insert.ensures.updates q
    ∙ ap (λ bs. cond (bytes_eq bs q) true (contains_text c.args.seen.now q)) copied
    ∙ cond-or (bytes_eq c.args.path.now q) (contains_text c.args.seen.now q)
