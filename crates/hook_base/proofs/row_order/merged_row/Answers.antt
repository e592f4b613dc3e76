use Rattle.std.proofs.Common.{◌≡◌, ◌∙◌, ◌-◌, ◌<◌, length, get_or, arith, sym, subst, ℕ}
use Rattle.std.specs.declared.cmp.Ordering.TheVariants.{Less}
use Rattle.std.proofs.lemmas.Option.{get_or_from_slice_get}
use Rattle.hook_base.specs.declared.file.File.{File}
use Rattle.hook_base.specs.Overlays.{From}
use Rattle.hook_base.specs.Rising.{IsBelow}
use Rattle.hook_base.proofs.PlaceLemmas.{From-length, from_on}
use Rattle.hook_base.proofs.SplitLemmas.{behind, compared, read_added_row, read_base_row}
use Rattle.hook_base.proofs.row_order.merged_row.Goals as goal

pub returns-then-before-added : goal.returns-then-before-added
returns-then-before-added c =
    let row = c.row.result.now in
    let all : length c.args.added.now ≡ c.added_before-before.result = sym c.if-before-added.true in
    read_base_row c.args.added.now c.args.base.now c.args.index c.added_before-before.result row c.requires.rising c.row.ensures.rising c.requires.apart c.added_before-before.ensures (omega arith)
    c.row.ensures.row (subst (λ (n : ℕ). From row.path c.args.added.now n) all (From-length row.path c.args.added.now))

pub returns-then-rest-len : goal.returns-then-rest-len
returns-then-rest-len c =
    let row = c.index-added-before.result in
    let of_added = c.added_before-before.ensures.of_added in
    let within : c.added_before-before.result < length c.args.added.now = omega arith in
    let all : length c.args.base.now ≡ c.args.index - c.added_before-before.result = sym (c.if-rest-len.true ∙ c.len.ensures.count) in
    read_added_row c.args.added.now c.args.base.now c.args.index c.added_before-before.result row c.requires.rising c.len.ensures.rising c.requires.apart c.added_before-before.ensures within
    (sym c.index-added-before.is) (subst (λ (n : ℕ). From row.path c.args.base.now n) all (From-length row.path c.args.base.now))

pub returns-in-Less : goal.returns-in-Less
returns-in-Less c =
    let before = c.added_before-before.result in
    let row = c.index-added-before-2.result in
    let standing = c.row-standing.result.now in
    let of_added = c.added_before-before.ensures.of_added in
    let of_rows = c.added_before-before.ensures.of_rows in
    let count = c.len.ensures.count in
    let within : before < length c.args.added.now = omega arith in
    let rest : c.args.index - before < length c.args.base.now = omega arith in
    let at = sym (get_or_from_slice_get c.args.base.now (c.args.index - before) standing standing c.row-standing.ensures.row) in
    let less =
    compared c.as_file.result.now c.as_file-2.result.now row (get_or c.args.base.now (c.args.index - before) standing) Less c.as_file.ensures (c.as_file-2.ensures ∙ at) (sym c.in-Less.ensures) in
    let below : IsBelow row.path (get_or c.args.base.now (c.args.index - before) standing).path = record { is_less = less } in
    read_added_row c.args.added.now c.args.base.now c.args.index before row c.requires.rising c.len.ensures.rising c.requires.apart c.added_before-before.ensures within (sym c.index-added-before-2.is)
    (from_on row.path c.args.base.now (c.args.index - before) standing rest c.len.ensures.rising below)

pub returns-in_default : goal.returns-in_default
returns-in_default c =
    let before = c.added_before-before.result in
    let row = c.index-added-before-2.result in
    let standing = c.row-standing.result.now in
    let counted = c.added_before-before.ensures.counted in
    let of_added = c.added_before-before.ensures.of_added in
    let of_rows = c.added_before-before.ensures.of_rows in
    let count = c.len.ensures.count in
    let within : before < length c.args.added.now = omega arith in
    let rest : c.args.index - before < length c.args.base.now = omega arith in
    let at = get_or_from_slice_get c.args.base.now (c.args.index - before) standing standing c.row-standing.ensures.row in
    let above =
    behind c.args.added.now c.args.base.now before (c.args.index - before) row standing c.requires.rising c.len.ensures.rising c.requires.apart within rest (sym c.index-added-before-2.is) at
    (λ less.
    c.in_default.not-Less (c.cmp.ensures ∙ compared row standing c.as_file.result.now c.as_file-2.result.now Less (sym c.as_file.ensures) (sym c.as_file-2.ensures) less)) in
    let below = subst (λ (first : File). IsBelow standing.path first.path) c.index-added-before-2.is above in
    read_base_row c.args.added.now c.args.base.now c.args.index before standing c.requires.rising c.len.ensures.rising c.requires.apart c.added_before-before.ensures (omega arith)
    c.row-standing.ensures.row (from_on standing.path c.args.added.now before row within c.requires.rising below)
