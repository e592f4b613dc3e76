use Rattle.std.proofs.Common.{◌≡◌, ◌∙◌, rules, arith, sym, subst, ℕ, List, Some, true, map, slice_get}
use Rattle.std.specs.Str.{bytes_eq}
use Rattle.std.specs.Cmp.Lexicographic.{bytes_decides}
use Rattle.hook_base.specs.Trees.{path_of}
use Rattle.child_port.proofs.SearchLemmas.{path_at}
use Rattle.child_port.proofs.path_index.path_index.Goals as goal

pub returns-then-eq-clause-place : goal.returns-then-eq-clause-place
returns-then-eq-clause-place c =
    let equal : bytes_eq c.as_str.result.now c.args.path.now ≡ true = search rules in
    let same = sym c.as_str.ensures.same ∙ (bytes_decides c.as_str.result.now c.args.path.now).0 equal in
    (omega arith, subst (λ (p : List ℕ). slice_get (map path_of c.args.tree.now) c.args.near ≡ Some p) same (path_at c.args.tree.now c.args.near c.entry.result.now c.entry.ensures.row))
