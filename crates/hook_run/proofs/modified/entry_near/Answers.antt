use Rattle.std.proofs.Common.{◌≡◌, ◌∙◌, sym, subst, ℕ, List, Some}
use Rattle.std.specs.Cmp.Lexicographic.{bytes_decides}
use Rattle.hook_base.specs.Trees.{entry_of}
use Rattle.hook_run.proofs.RowLemmas.{entry-at}
use Rattle.hook_run.proofs.modified.entry_near.Goals as goal

pub returns-then-eq : goal.returns-then-eq
returns-then-eq c =
    let row = c.entry-row.result.now in
    let same : row.path ≡ c.args.path.now = (bytes_decides row.path c.args.path.now).0 (sym c.eq.ensures ∙ c.if-eq.true) in
    sym (subst (λ (path : List ℕ). entry_of path c.args.tree.now ≡ Some row.entry) same (entry-at c.args.tree.now c.args.near row c.entry-row.ensures.row c.entry-row.ensures.rising))
