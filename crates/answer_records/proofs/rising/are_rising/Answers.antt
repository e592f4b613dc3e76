use Rattle.std.proofs.Common.{◌≡◌, ◌+◌, ℕ, suc, get_or, arith, subst, ap, ◌∙◌, refl}
use Rattle.hook_base.specs.Rising.{IsBelow}
use Rattle.hook_base.specs.RisingLemmas.{rising_from_next}
use Rattle.answer_records.proofs.ListLemmas.{rises_there}
use Rattle.answer_records.proofs.rising.are_rising.Goals as goal

pub returns-in_default : goal.returns-in_default
returns-in_default g c =
    let place = g.T.Placed.place_of in
    let first = c.index-items-index in
    let second = c.index-items-index-in-pairs in
    let there = rises_there place c.args.items.now c.pairs.index first.result second.result c.path.result.now c.path-in-pairs.result.now c.cmp.result (omega arith) (omega arith) in
    (λ h. cc, λ rising. absurd (c.in_default.not-Less (there (c.path.ensures ∙ ap place first.is) (c.path-in-pairs.ensures ∙ ap place second.is) c.cmp.ensures rising)))

pub returns : goal.returns
returns g c =
    let place = g.T.Placed.place_of in
    let items = c.args.items.now in (
      λ h. rising_from_next place items (λ k d within. let same : k + 1
          ≡ suc k = omega arith in subst (λ (n : ℕ). IsBelow (place (get_or items k d)) (place (get_or items n d))) same (c.pairs.invariant k d (omega arith))),
      λ h. refl,
    )
