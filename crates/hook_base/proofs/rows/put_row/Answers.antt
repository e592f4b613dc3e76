use Rattle.std.proofs.Common.{◌≡◌, ◌∙◌, List, ℕ, sym, subst, arith}
use Rattle.hook_base.specs.declared.file.File.{File}
use Rattle.hook_base.specs.Places.{IsAt, IsGap}
use Rattle.hook_base.specs.Trees.{IsRising}
use Rattle.hook_base.specs.TreeLemmas.{at_within, gap_within, put_row-at, put_row-gap, IsRising-put_row}
use Rattle.hook_base.proofs.rows.put_row.Goals as goal

-- the place that was found is that of the row's own path
is_at : (row new : File) (found rows : List File) (k : ℕ) → row ≡ new → found ≡ rows → IsAt row.path found k → IsAt new.path rows k
is_at row new found rows k same shown at =
    subst (λ (rows : List File). IsAt new.path rows k) shown (subst (λ (row : File). IsAt row.path found k) same at)

is_gap : (row new : File) (found rows : List File) (k : ℕ) → row ≡ new → found ≡ rows → IsGap row.path found k → IsGap new.path rows k
is_gap row new found rows k same shown at =
    subst (λ (rows : List File). IsGap new.path rows k) shown (subst (λ (row : File). IsGap row.path found k) same at)

pub index_mut-requires : goal.index_mut-requires
index_mut-requires c =
    let within = at_within c.as_file.result.now.path c.as_slice.result.now c.in-At.index c.in-At.ensures in
    omega arith

pub insert-requires : goal.insert-requires
insert-requires c =
    let within = gap_within c.as_file.result.now.path c.as_slice.result.now c.in-Before.index c.in-Before.ensures in
    omega arith

pub returns-in-At-clause-put : goal.returns-in-At-clause-put
returns-in-At-clause-put c =
    sym (put_row-at c.args.row c.args.rows.now.items c.in-At.index (is_at c.as_file.result.now c.args.row c.as_slice.result.now c.args.rows.now.items c.in-At.index c.as_file.ensures
    c.as_slice.ensures.value c.in-At.ensures))

pub returns-in-At-clause-rising : goal.returns-in-At-clause-rising
returns-in-At-clause-rising c =
    subst IsRising
    (put_row-at c.args.row c.args.rows.now.items c.in-At.index (is_at c.as_file.result.now c.args.row c.as_slice.result.now c.args.rows.now.items c.in-At.index c.as_file.ensures
    c.as_slice.ensures.value c.in-At.ensures))
    (IsRising-put_row c.args.row c.args.rows.now.items c.requires)

pub returns-in_ok-insert-in-Before-clause-put : goal.returns-in_ok-insert-in-Before-clause-put
returns-in_ok-insert-in-Before-clause-put c =
    c.in_ok-insert-in-Before.ensures.items ∙ sym (put_row-gap c.args.row c.args.rows.now.items c.in-Before.index
    (is_gap c.as_file.result.now c.args.row c.as_slice.result.now c.args.rows.now.items c.in-Before.index c.as_file.ensures c.as_slice.ensures.value c.in-Before.ensures))

pub returns-in_ok-insert-in-Before-clause-rising : goal.returns-in_ok-insert-in-Before-clause-rising
returns-in_ok-insert-in-Before-clause-rising c =
    subst IsRising
    (sym (c.in_ok-insert-in-Before.ensures.items ∙ sym (put_row-gap c.args.row c.args.rows.now.items c.in-Before.index
    (is_gap c.as_file.result.now c.args.row c.as_slice.result.now c.args.rows.now.items c.in-Before.index c.as_file.ensures c.as_slice.ensures.value c.in-Before.ensures))))
    (IsRising-put_row c.args.row c.args.rows.now.items c.requires)
