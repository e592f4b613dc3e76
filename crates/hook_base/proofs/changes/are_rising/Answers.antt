use Rattle.std.proofs.Common.{◌≡◌, ◌<◌, ◌+◌, ◌-◌, ℕ, suc, length, get_or, arith, subst, ◌∙◌, refl}
use Rattle.hook_base.specs.declared.change.Change.{Change}
use Rattle.hook_base.specs.Rising.{IsBelow}
use Rattle.hook_base.specs.RisingLemmas.{rising_pair, rising_from_next}
use Rattle.hook_base.proofs.changes.are_rising.Goals as goal

pub returns-in_default : goal.returns-in_default
returns-in_default c =
    let index = c.pairs.index in
    let next : suc (index - 1) ≡ index = omega arith in
    let within : index < length c.args.changes.now = omega arith in (
      λ h. cc,
      λ rising. absurd (c.in_default.not-Less (c.cmp.ensures ∙
          (rising_pair (λ (change : Change). change.path) c.args.changes.now (index - 1) index c.index-changes-index.result c.index-changes-index-in-pairs.result next within rising).is_less)),
    )

pub returns : goal.returns
returns c = (
  λ h. rising_from_next (λ (change : Change). change.path) c.args.changes.now
      (λ k d within. let same : k + 1 ≡ suc k = omega arith in subst (λ (n : ℕ). IsBelow (get_or c.args.changes.now k d).path (get_or c.args.changes.now n d).path) same
      (c.pairs.invariant k d (omega arith))),
  λ h. refl,
)
