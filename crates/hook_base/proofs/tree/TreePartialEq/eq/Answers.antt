use Rattle.std.proofs.Common.{◌≡◌, ◌∙◌, List, Some, ap, arith, refl, sym}
use Rattle.std.specs.Prelude.{slice_get}
use Rattle.std.specs.Cmp.Lexicographic.{pointwise_decides}
use Rattle.hook_base.specs.declared.file.File.{File}
use Rattle.hook_base.specs.contracts.file.FilePartialEq.TheImpl as file_eq
use Rattle.hook_base.specs.AlikeLemmas.{file_decides}
use Rattle.hook_base.proofs.ListLemmas.{differ, false_from, same_items, true_from}
use Rattle.hook_base.proofs.tree.TreePartialEq.eq.Goals as goal

pub returns-then-ne-clause-value : goal.returns-then-ne-clause-value
returns-then-ne-clause-value c =
    let a = c.entry.result.now in
    let b = c.entry-in-rows.result.now in
    false_from _ (pointwise_decides file_decides c.args.self.now c.args.other.now) (λ same.
    let rows : Some a ≡ Some b = sym c.entry.ensures.row ∙ (ap (λ (rows : List File). slice_get rows c.rows.index) same ∙ c.entry-in-rows.ensures.row) in
    let alike : a ≡ b = cc in
    differ (file_eq.ghosts.eq a b) ((file_decides a b).1 alike) (sym c.ne.ensures ∙ c.if-ne.true))

pub returns-clause-value : goal.returns-clause-value
returns-clause-value c =
    let same = same_items c.args.self.now c.args.other.now (omega arith) (λ k within. c.rows.invariant k (omega arith)) in
    true_from _ (pointwise_decides file_decides c.args.self.now c.args.other.now) same

pub returns-clause-same : goal.returns-clause-same
returns-clause-same c =
    let same = same_items c.args.self.now c.args.other.now (omega arith) (λ k within. c.rows.invariant k (omega arith)) in
    (λ _. same, λ _. refl)
