use Rattle.std.proofs.Common.{◌≡◌, ◌∙◌, ◌+◌, List, [], ◌∷◌, ◌++◌, ap, arith, drop, suc}
use Rattle.hook_base.specs.declared.file.File.{File}
use Rattle.hook_base.proofs.ListLemmas.{next_drop, walk_step}
use Rattle.hook_base.proofs.tree.Tree.rows.Goals as goal

pub rows-preserved : goal.rows-preserved
rows-preserved c =
    let next : c.rows.index + 1 ≡ suc c.rows.index = omega arith in
    let row = c.shared.result.now in
    let rest = next_drop c.args.self.now c.rows.index (c.rows.index + 1) row next c.shared.ensures.row in
    let more : c.push.new.self.items ≡ c.rows.rows.items ++ row ∷ [] =
    ◌∙◌ {A = List File} c.in_ok-push.ensures.items (ap (λ (made : File). c.rows.rows.items ++ made ∷ []) c.in_ok-clone.ensures.cases) in
    walk_step c.rows.rows.items c.push.new.self.items (row ∷ []) (drop (c.rows.index + 1) c.args.self.now) (drop c.rows.index c.args.self.now) c.args.self.now more rest c.rows.invariant
