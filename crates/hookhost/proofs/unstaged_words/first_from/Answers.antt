use Rattle.std.proofs.Common.{◌∙◌, ◌+◌, ◌-◌, ◌/◌, add-one, arith, sym, ℕ}
use Rattle.hookhost.proofs.UnstagedWordLemmas.{before-more, from-here}
use Rattle.hookhost.proofs.unstaged_words.first_from.Goals as goal

pub halves-preserved-then-is_before_at : goal.halves-preserved-then-is_before_at
halves-preserved-then-is_before_at g c =
    let middle : ℕ = c.halves.low + (c.halves.high - c.halves.low) / 2 in
    record {
      order = omega arith;
      before = rw (add-one middle) (before-more c.args.text.now c.args.store.now.kept.repo.staged middle c.is_before_at.ensures.rising
          (sym c.is_before_at.ensures.test ∙ c.if-is_before_at.true));
      others = c.halves.invariant.others;
    }

pub halves-preserved : goal.halves-preserved
halves-preserved g c =
    let middle : ℕ = c.halves.low + (c.halves.high - c.halves.low) / 2 in
    record {
      order = omega arith;
      before = c.halves.invariant.before;
      others = λ _. from-here c.args.text.now c.args.store.now.kept.repo.staged middle c.is_before_at.ensures.rising
          (sym c.is_before_at.ensures.test ∙ c.if-is_before_at.false);
    }
