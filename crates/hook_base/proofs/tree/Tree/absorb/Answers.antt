use Rattle.std.proofs.Common.{◌∙◌, List, ap, subst, sym}
use Rattle.hook_base.specs.declared.file.File.{File}
use Rattle.hook_base.specs.Overlays.{AreApart}
use Rattle.hook_base.specs.TreeLemmas.{IsRising-apply_changes}
use Rattle.hook_base.specs.Trees.{IsRising, apply_changes}
use Rattle.hook_base.proofs.MergedLemmas.{IsRising-put_rows, apart_none, rising_now}
use Rattle.hook_base.proofs.tree.Tree.absorb.Goals as goal

pub returns-then-is_empty-clause-rising : goal.returns-then-is_empty-clause-rising
returns-then-is_empty-clause-rising c =
    rising_now c.self.inside.added.items c.self.inside.base c.args.self.now c.self.invariant.1 c.self.view_is

pub returns-in_err-as_base-clause-rising : goal.returns-in_err-as_base-clause-rising
returns-in_err-as_base-clause-rising c =
    rising_now c.self.inside.added.items c.self.inside.base c.args.self.now c.self.invariant.1 c.self.view_is

pub returns-in_err-base-clause-rising : goal.returns-in_err-base-clause-rising
returns-in_err-base-clause-rising c =
    rising_now c.self.inside.added.items c.self.inside.base c.args.self.now c.self.invariant.1 c.self.view_is

pub invariant_of-self : goal.invariant_of-self
invariant_of-self c =
    let before = rising_now c.self.inside.added.items c.self.inside.base c.args.self.now c.self.invariant.1 c.self.view_is in
    let is = c.in_ok-base.ensures ∙ ap (λ (rows : List File). apply_changes c.args.changes.items rows) c.in_ok-as_base.ensures in (
      subst IsRising (sym c.new-added.ensures.items) tt,
      subst IsRising (sym is) (IsRising-apply_changes c.args.changes.items c.args.self.now before),
      subst (λ (rows : List File). AreApart rows c.in_ok-base.base) (sym c.new-added.ensures.items) (apart_none c.in_ok-base.base),
    )

pub returns-clause-rising : goal.returns-clause-rising
returns-clause-rising c =
    let before = rising_now c.self.inside.added.items c.self.inside.base c.args.self.now c.self.invariant.1 c.self.view_is in
    let is = c.in_ok-base.ensures ∙ ap (λ (rows : List File). apply_changes c.args.changes.items rows) c.in_ok-as_base.ensures in
    IsRising-put_rows c.new-added.result.items c.in_ok-base.base (subst IsRising (sym is) (IsRising-apply_changes c.args.changes.items c.args.self.now before))
