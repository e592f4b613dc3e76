use Rattle.std.proofs.Common.{◌≡◌, ◌∙◌, List, ℕ, ap, subst, sym}
use Rattle.hook_base.specs.declared.file.File.{File}
use Rattle.hook_base.specs.Overlays.{AreApart, put_rows}
use Rattle.hook_base.specs.Places.{IsAt, IsGap}
use Rattle.hook_base.specs.TreeLemmas.{IsRising-put_row, at_within, entry_of-gap, path-at, put_row-at}
use Rattle.hook_base.specs.Trees.{IsRising, put_row}
use Rattle.hook_base.proofs.ListLemmas.{by_result, where_ok}
use Rattle.hook_base.proofs.MergedLemmas.{IsRising-put_rows, absent_at, apart-put_added, apart-put_rows, put_row-added, put_row-rows}
use Rattle.hook_base.proofs.tree.Tree.put_shared.Goals as goal

is_at : (row new : File) (rows : List File) (k : ℕ) → row ≡ new → IsAt row.path rows k → IsAt new.path rows k
is_at row new rows k same at = subst (λ (row : File). IsAt row.path rows k) same at

is_gap : (row new : File) (rows : List File) (k : ℕ) → row ≡ new → IsGap row.path rows k → IsGap new.path rows k
is_gap row new rows k same gap = subst (λ (row : File). IsGap row.path rows k) same gap

pub replace-requires-clause-within : goal.replace-requires-clause-within
replace-requires-clause-within c = at_within c.as_file.result.now.path c.self.inside.base c.in-At.index c.in-At.ensures.place

pub replace-requires-clause-path : goal.replace-requires-clause-path
replace-requires-clause-path c =
    path-at c.args.file.path c.self.inside.base c.in-At.index c.args.file (is_at c.as_file.result.now c.args.file c.self.inside.base c.in-At.index c.as_file.ensures c.in-At.ensures.place)

pub invariant_of-self : goal.invariant_of-self
invariant_of-self c =
    let base = c.self.inside.base in
    let added = c.self.inside.added.items in
    let at = is_at c.as_file.result.now c.args.file base c.in-At.index c.as_file.ensures c.in-At.ensures.place in
    let is = c.replace.ensures ∙ sym (put_row-at c.args.file base c.in-At.index at) in
    let absent = absent_at c.args.file.path added base c.in-At.index c.self.invariant.2 at in (
      c.self.invariant.0,
      subst IsRising (sym is) (IsRising-put_row c.args.file base c.self.invariant.1),
      subst (λ (rows : List File). AreApart added rows) (sym is)
          (apart-put_rows c.args.file added base c.self.invariant.2 absent),
    )

pub returns-in-At-clause-put : goal.returns-in-At-clause-put
returns-in-At-clause-put c =
    let base = c.self.inside.base in
    let added = c.self.inside.added.items in
    let at = is_at c.as_file.result.now c.args.file base c.in-At.index c.as_file.ensures c.in-At.ensures.place in
    let is = c.replace.ensures ∙ sym (put_row-at c.args.file base c.in-At.index at) in
    let absent = absent_at c.args.file.path added base c.in-At.index c.self.invariant.2 at in
    ap (λ (rows : List File). put_rows added rows) is ∙ (put_row-rows c.args.file added base c.self.invariant.0 c.self.invariant.1 absent
    ∙ ap (λ (rows : List File). put_row c.args.file rows) c.self.view_is)

pub returns-in-At-clause-rising : goal.returns-in-At-clause-rising
returns-in-At-clause-rising c =
    let base = c.self.inside.base in
    let at = is_at c.as_file.result.now c.args.file base c.in-At.index c.as_file.ensures c.in-At.ensures.place in
    let is = c.replace.ensures ∙ sym (put_row-at c.args.file base c.in-At.index at) in
    IsRising-put_rows c.self.inside.added.items c.replace.new.self (subst IsRising (sym is) (IsRising-put_row c.args.file base c.self.invariant.1))

pub invariant_of-self-in-Before : goal.invariant_of-self-in-Before
invariant_of-self-in-Before c =
    let base = c.self.inside.base in
    let added = c.self.inside.added.items in
    let gap = is_gap c.as_file.result.now c.args.file base c.in-Before.field-0 c.as_file.ensures c.in-Before.ensures.place in
    let absent = entry_of-gap c.args.file.path base c.in-Before.field-0 gap in (
      c.put_row.ensures.rising,
      c.self.invariant.1,
      by_result {R = AreApart c.put_row.new.rows.items base} c.put_row.result c.put_row.ensures.put c.put_row.ensures.kept
          (λ put. subst (λ (rows : List File). AreApart rows base) (sym put) (apart-put_added c.args.file added base c.self.invariant.2 absent))
          (λ kept. subst (λ (rows : List File). AreApart rows base) (sym kept) c.self.invariant.2),
    )

pub returns-in-Before-clause-put : goal.returns-in-Before-clause-put
returns-in-Before-clause-put c =
    let base = c.self.inside.base in
    where_ok c.put_row.result c.put_row.ensures.put (λ put.
    ap (λ (rows : List File). put_rows rows base) put ∙ (put_row-added c.args.file c.self.inside.added.items base c.self.invariant.0 c.self.invariant.1
    ∙ ap (λ (rows : List File). put_row c.args.file rows) c.self.view_is))

pub returns-in-Before-clause-rising : goal.returns-in-Before-clause-rising
returns-in-Before-clause-rising c = IsRising-put_rows c.put_row.new.rows.items c.self.inside.base c.self.invariant.1
