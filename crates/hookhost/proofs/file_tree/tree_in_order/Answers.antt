use Rattle.std.proofs.Common.{◌≡◌, ◌∙◌, ap, sym, subst, append_assoc, All, List, [], ◌∷◌, ◌++◌}
use Rattle.std.specs.Prelude.{Contains}
use Rattle.std.specs.Vec.Iter.{into_iter_items}
use Rattle.hook_base.specs.declared.file.File.{File}
use Rattle.hookhost.specs.FileTrees.{HasRowAt}
use Rattle.hookhost.proofs.FileTreeLemmas.{All-put_row, among, paths-more}
use Rattle.hookhost.proofs.file_tree.tree_in_order.Goals as goal

pub files-preserved : goal.files-preserved
files-preserved c =
    let before = c.files.yielded in
    let file = c.in-Some.file in
    let rest = into_iter_items c.next.new.self in
    let left : before ++ file ∷ rest ≡ c.args.files.items = ap (λ l. before ++ l) (sym (c.in-Some.ensures.steps.0)) ∙ c.files.invariant.left in
    record {
      left = append_assoc before (file ∷ []) rest ∙ left;
      paths = subst (λ (tree : List File). All (λ one. HasRowAt tree one.path) (before ++ file ∷ [])) (sym c.in_ok-put.ensures.put)
          (paths-more before c.files.tree file c.files.invariant.paths);
      rows = subst (λ (tree : List File). All (Contains c.args.files.items) tree) (sym c.in_ok-put.ensures.put)
          (All-put_row (Contains c.args.files.items) file c.files.tree (among c.args.files.items before rest file left) c.files.invariant.rows);
    }
