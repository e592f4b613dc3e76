use Rattle.std.proofs.Common.{◌≡◌, ◌<◌, ◌+◌, ◌-◌, ℕ, List, suc, length, get_or, arith, subst, ap₂, ◌∙◌, refl}
use Rattle.hook_base.specs.Rising.{IsBelow, path_cmp}
use Rattle.hook_base.specs.RisingLemmas.{rising_pair, rising_from_next}
use Rattle.path_select.proofs.sorted_paths.are_rising.Goals as goal

pub returns-in_default : goal.returns-in_default
returns-in_default c =
    let index = c.pairs.index in
    let next : suc (index - 1) ≡ index = omega arith in
    let within : index < length c.args.paths.now = omega arith in
    let less = rising_pair (λ (path : List ℕ). path) c.args.paths.now (index - 1) index c.index-paths-index.result c.index-paths-index-in-pairs.result next within in
    (λ h. cc, λ rising. absurd (c.in_default.not-Less (c.cmp.ensures ∙ ap₂ path_cmp c.index-paths-index.is c.index-paths-index-in-pairs.is ∙ (less rising).is_less)))

pub returns : goal.returns
returns c = (
  λ h. rising_from_next (λ (path : List ℕ). path) c.args.paths.now
      (λ k d within. let same : k + 1 ≡ suc k = omega arith in subst (λ (n : ℕ). IsBelow (get_or c.args.paths.now k d) (get_or c.args.paths.now n d)) same (c.pairs.invariant k d (omega arith))),
  λ h. refl,
)
