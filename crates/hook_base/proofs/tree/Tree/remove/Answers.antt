use Rattle.std.proofs.Common.{◌∙◌, List, ap, is_some, subst, sym}
use Rattle.hook_base.specs.declared.file.File.{File}
use Rattle.hook_base.specs.Overlays.{AreApart, put_rows}
use Rattle.hook_base.specs.TreeLemmas.{IsRising-remove_file, at_within, entry_of-gap, remove_file-at}
use Rattle.hook_base.specs.Trees.{IsRising, entry_of, remove_file}
use Rattle.hook_base.proofs.MergedLemmas.{IsRising-put_rows, absent_at, apart-remove_added, apart-remove_rows, held_in_added, held_in_rows, remove_file-added, remove_file-rows}
use Rattle.hook_base.proofs.tree.Tree.remove.Goals as goal

pub remove-requires : goal.remove-requires
remove-requires c = at_within c.args.path.now c.self.inside.base c.in-At.index c.in-At.ensures.place

pub invariant_of-self : goal.invariant_of-self
invariant_of-self c =
    let path = c.args.path.now in
    let base = c.self.inside.base in
    let added = c.self.inside.added.items in
    let is = c.remove.ensures ∙ sym (remove_file-at path base c.in-At.index c.self.invariant.1 c.in-At.ensures.place) in (
      c.self.invariant.0,
      subst IsRising (sym is) (IsRising-remove_file path base c.self.invariant.1),
      subst (λ (rows : List File). AreApart added rows) (sym is)
          (apart-remove_rows path added base c.self.invariant.2),
    )

pub invariant_of-self-in-Before : goal.invariant_of-self-in-Before
invariant_of-self-in-Before c =
    let base = c.self.inside.base in (
      c.remove_row.ensures.rising,
      c.self.invariant.1,
      subst (λ (rows : List File). AreApart rows base) (sym c.remove_row.ensures.removed)
          (apart-remove_added c.args.path.now c.self.inside.added.items base c.self.invariant.2),
    )

pub returns-in-At-clause-found : goal.returns-in-At-clause-found
returns-in-At-clause-found c =
    sym (ap (λ (rows : List File). is_some (entry_of c.args.path.now rows)) (sym c.self.view_is)
    ∙ held_in_rows c.args.path.now c.self.inside.added.items c.self.inside.base c.in-At.index c.self.invariant.0 c.self.invariant.2 c.in-At.ensures.place)

pub returns-in-At-clause-removed : goal.returns-in-At-clause-removed
returns-in-At-clause-removed c =
    let path = c.args.path.now in
    let base = c.self.inside.base in
    let added = c.self.inside.added.items in
    let is = c.remove.ensures ∙ sym (remove_file-at path base c.in-At.index c.self.invariant.1 c.in-At.ensures.place) in
    let absent = absent_at path added base c.in-At.index c.self.invariant.2 c.in-At.ensures.place in
    ap (λ (rows : List File). put_rows added rows) is ∙ (remove_file-rows path added base c.self.invariant.0 c.self.invariant.1 absent
    ∙ ap (λ (rows : List File). remove_file path rows) c.self.view_is)

pub returns-in-At-clause-rising : goal.returns-in-At-clause-rising
returns-in-At-clause-rising c =
    let base = c.self.inside.base in
    let is = c.remove.ensures ∙ sym (remove_file-at c.args.path.now base c.in-At.index c.self.invariant.1 c.in-At.ensures.place) in
    IsRising-put_rows c.self.inside.added.items c.remove.new.self (subst IsRising (sym is) (IsRising-remove_file c.args.path.now base c.self.invariant.1))

pub returns-in-Before-clause-found : goal.returns-in-Before-clause-found
returns-in-Before-clause-found c =
    let path = c.args.path.now in
    let absent = entry_of-gap path c.self.inside.base c.in-Before.field-0 c.in-Before.ensures.place in
    c.remove_row.ensures.found ∙ sym (ap (λ (rows : List File). is_some (entry_of path rows)) (sym c.self.view_is)
    ∙ ap is_some (held_in_added path c.self.inside.added.items c.self.inside.base c.self.invariant.0 absent))

pub returns-in-Before-clause-removed : goal.returns-in-Before-clause-removed
returns-in-Before-clause-removed c =
    let path = c.args.path.now in
    let base = c.self.inside.base in
    let absent = entry_of-gap path base c.in-Before.field-0 c.in-Before.ensures.place in
    ap (λ (rows : List File). put_rows rows base) c.remove_row.ensures.removed
    ∙ (remove_file-added path c.self.inside.added.items base c.self.invariant.0 c.self.invariant.1 absent ∙ ap (λ (rows : List File). remove_file path rows) c.self.view_is)

pub returns-in-Before-clause-rising : goal.returns-in-Before-clause-rising
returns-in-Before-clause-rising c = IsRising-put_rows c.remove_row.new.rows.items c.self.inside.base c.self.invariant.1
