use Rattle.std.proofs.Common.{◌≡◌, ◌∙◌, ◌+◌, ◌<◌, length, get_or, arith, ap, sym, subst, ℕ, suc}
use Rattle.std.proofs.lemmas.Option.{get_or_from_slice_get}
use Rattle.hook_base.specs.declared.file.File.{File}
use Rattle.hook_base.specs.Overlays.{UpTo}
use Rattle.hook_base.specs.Places.{IsGap}
use Rattle.hook_base.specs.Rising.{IsBelow, path_cmp}
use Rattle.hook_base.specs.RisingLemmas.{below_from_greater, path_tied}
use Rattle.hook_base.proofs.PlaceLemmas.{From-length, UpTo-within, found, from_on, gap, up_to}
use Rattle.hook_base.proofs.row_place.place_from.Goals as goal

pub files-init : goal.files-init
files-init c = (UpTo-within c.args.path.now c.args.tree.now c.args.first c.requires, c.requires)

pub returns-in-Equal : goal.returns-in-Equal
returns-in-Equal c =
    let row = c.entry.result.now in
    let count = c.len-count.ensures.count in
    let within : c.files.index < length c.args.tree.now = omega arith in
    let at = get_or_from_slice_get c.args.tree.now c.files.index row row c.entry.ensures.row in
    let compared = ap (λ (row : File). path_cmp row.path c.args.path.now) at ∙ sym c.in-Equal.ensures in
    found c.args.path.now c.args.tree.now c.files.index row within c.entry.ensures.rising (sym (path_tied (get_or c.args.tree.now c.files.index row).path c.args.path.now compared))

pub returns-in-Greater : goal.returns-in-Greater
returns-in-Greater c =
    let row = c.entry.result.now in
    let count = c.len-count.ensures.count in
    let within : c.files.index < length c.args.tree.now = omega arith in
    let at = get_or_from_slice_get c.args.tree.now c.files.index row row c.entry.ensures.row in
    let compared = ap (λ (row : File). path_cmp row.path c.args.path.now) at ∙ sym c.in-Greater.ensures in
    gap c.args.path.now c.args.tree.now c.files.index c.files.invariant.1
    (from_on c.args.path.now c.args.tree.now c.files.index row within c.entry.ensures.rising (below_from_greater c.args.path.now (get_or c.args.tree.now c.files.index row).path compared))

pub files-preserved : goal.files-preserved
files-preserved c =
    let row = c.entry.result.now in
    let count = c.len-count.ensures.count in
    let within : c.files.index < length c.args.tree.now = omega arith in
    let next : suc c.files.index ≡ c.files.index + 1 = omega arith in
    let at = get_or_from_slice_get c.args.tree.now c.files.index row row c.entry.ensures.row in
    let compared = ap (λ (row : File). path_cmp row.path c.args.path.now) at ∙ sym c.in-Less.ensures in
    let below : IsBelow (get_or c.args.tree.now c.files.index row).path c.args.path.now = record { is_less = compared } in
    (omega arith, subst (λ (n : ℕ). UpTo c.args.path.now c.args.tree.now n) next (up_to c.args.path.now c.args.tree.now c.files.index row within c.entry.ensures.rising below))

pub returns : goal.returns
returns c =
    let count = c.len-count.ensures.count in
    let all : c.files.index ≡ length c.args.tree.now = omega arith in
    let up = subst (λ (n : ℕ). UpTo c.args.path.now c.args.tree.now n) all c.files.invariant.1 in
    subst (λ (n : ℕ). IsGap c.args.path.now c.args.tree.now n) (sym count) (gap c.args.path.now c.args.tree.now (length c.args.tree.now) up (From-length c.args.path.now c.args.tree.now))
