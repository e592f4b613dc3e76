use Rattle.std.proofs.Common.{◌∙◌, List, ap, arith, subst, sym}
use Rattle.std.proofs.lemmas.Option.{get_or_from_slice_get}
use Rattle.hook_base.specs.declared.file.File.{File}
use Rattle.hook_base.specs.Overlays.{row_found}
use Rattle.hook_base.specs.Places.{IsAt, IsGap}
use Rattle.hook_base.specs.TreeLemmas.{at_within}
use Rattle.hook_base.specs.Trees.{entry_of}
use Rattle.hook_base.proofs.MergedLemmas.{found_in_added, found_in_rows, found_nowhere}
use Rattle.hook_base.proofs.tree.Tree.find.Goals as goal

pub index-requires : goal.index-requires
index-requires c =
    let within = at_within c.args.path.now c.as_slice.result.now c.in-At.index c.in-At.ensures in
    omega (arith, c.as_slice.ensures.len)

pub returns-in-At : goal.returns-in-At
returns-in-At c =
    let path = c.args.path.now in
    let at = subst (λ (rows : List File). IsAt path rows c.in-At.index) c.as_slice.ensures.value c.in-At.ensures in
    found_in_added path c.self.inside.added.items c.self.inside.base c.in-At.index c.index.result.now c.self.invariant.0 at (sym c.index.ensures)
    ∙ ap (λ (rows : List File). row_found path (entry_of path rows)) c.self.view_is

pub row-requires : goal.row-requires
row-requires c = at_within c.args.path.now c.self.inside.base c.in-At-place_among.index c.in-At-place_among.ensures.place

pub returns-in-At-place_among : goal.returns-in-At-place_among
returns-in-At-place_among c =
    let path = c.args.path.now in
    let row = c.row.result.now in
    let k = c.in-At-place_among.index in
    let gap = subst (λ (rows : List File). IsGap path rows c.in_default.field-0) c.as_slice.ensures.value c.in_default.ensures in
    found_in_rows path c.self.inside.added.items c.self.inside.base c.in_default.field-0 k row c.self.invariant.0 gap c.in-At-place_among.ensures.place
    (get_or_from_slice_get c.self.inside.base k row row c.row.ensures.row) ∙ ap (λ (rows : List File). row_found path (entry_of path rows)) c.self.view_is

pub returns-in-Before : goal.returns-in-Before
returns-in-Before c =
    let path = c.args.path.now in
    let gap = subst (λ (rows : List File). IsGap path rows c.in_default.field-0) c.as_slice.ensures.value c.in_default.ensures in
    let nowhere = found_nowhere path c.self.inside.added.items c.self.inside.base c.in_default.field-0 c.in-Before.field-0 c.self.invariant.0 gap c.in-Before.ensures.place in
    sym (ap (λ (rows : List File). row_found path (entry_of path rows)) (sym c.self.view_is) ∙ ap (row_found path) nowhere)
