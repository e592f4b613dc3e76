use Rattle.std.proofs.Common.{◌||◌, ℕ, List, subst, sym}
use Rattle.std.specs.Str.{bytes_eq}
use Rattle.child_port.proofs.IndexLemmas.{indexes_absent, indexes_push}
use Rattle.child_port.specs.Indexes.{AreIndexesOf}
use Rattle.child_port.proofs.seen_indexes.push_index.Goals as goal

pub returns-in_default : goal.returns-in_default
returns-in_default c = λ keeps held. indexes_absent keeps c.args.path.now c.args.tree.now c.args.indexes.now.items c.in_default.ensures.place held

pub returns : goal.returns
returns c = λ keeps held.
    subst (λ (items : List ℕ). AreIndexesOf (λ other. keeps other || bytes_eq c.args.path.now other) c.args.tree.now items) (sym c.in_ok-push.ensures.items)
    (indexes_push keeps c.args.path.now c.args.tree.now c.args.indexes.now.items c.in-Some.index c.in-Some.ensures.place.0 c.in-Some.ensures.place.1 held)
