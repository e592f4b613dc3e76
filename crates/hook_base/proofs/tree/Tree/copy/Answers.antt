use Rattle.std.proofs.Common.{◌∙◌, List, ap, sym}
use Rattle.hook_base.specs.declared.file.File.{File}
use Rattle.hook_base.specs.Overlays.{put_rows}
use Rattle.hook_base.proofs.ListLemmas.{empty_list}
use Rattle.hook_base.proofs.MergedLemmas.{put_rows-none}
use Rattle.hook_base.proofs.tree.Tree.copy.Goals as goal

pub returns-then-len-eq0 : goal.returns-then-len-eq0
returns-then-len-eq0 c =
    let added = c.self.inside.added.items in
    let none = empty_list c.self.inside.base (sym c.len.ensures.count ∙ c.if-len-eq0.true) in
    ap (λ (rows : List File). put_rows rows c.in_ok-base.base) c.new-added.ensures.items
    ∙ (c.in_ok-base.ensures ∙ (c.in_ok-copy_rows.ensures ∙ (sym (put_rows-none added c.self.invariant.0) ∙ (ap (λ (rows : List File). put_rows added rows) (sym none) ∙ c.self.view_is))))
