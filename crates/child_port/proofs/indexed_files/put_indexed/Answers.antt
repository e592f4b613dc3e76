use Rattle.std.proofs.Common.{◌≡◌, ◌∙◌, ℕ, ap, subst, arith, List, take}
use Rattle.std.proofs.lemmas.List.{take_all}
use Rattle.child_port.specs.Indexes.{is_indexed}
use Rattle.child_port.specs.SeenLemmas.{files_where}
use Rattle.hook_base.specs.declared.file.File.{File}
use Rattle.hook_base.specs.Trees.{put_row}
use Rattle.child_port.proofs.IndexLemmas.{no_files, put_more}
use Rattle.child_port.proofs.indexed_files.put_indexed.Goals as goal

pub indexes-init : goal.indexes-init
indexes-init c = c.new-files.ensures ∙ no_files c.args.tree.now

pub indexes-preserved : goal.indexes-preserved
indexes-preserved c =
    let row = c.shared.result.now in
    c.in_ok-put_shared.ensures.put ∙ (ap (λ (file : File). put_row file c.indexes.files) c.in_ok-clone.ensures.cases
    ∙ (ap (λ (files : List File). put_row row files) c.indexes.invariant
    ∙ put_more c.args.tree.now c.args.indexes.now c.indexes.index-index 0 row c.shared.ensures.rising c.indexes-test.true c.shared.ensures.row))

pub returns : goal.returns
returns c =
    let whole : take c.indexes.index-index c.args.indexes.now ≡ c.args.indexes.now = take_all c.indexes.index-index c.args.indexes.now (omega arith) in
    subst (λ (indexes : List ℕ). c.indexes.files ≡ files_where (is_indexed c.args.tree.now indexes) c.args.tree.now) whole c.indexes.invariant
