use Rattle.std.proofs.Common.{refl, ◌∙◌}
use Rattle.repo_store.proofs.FollowLemmas.{moved_not, moved_then}
use Rattle.repo_store.proofs.from_rows.uses.bring_each.Goals as goal

pub uses-init : goal.uses-init
uses-init c = record { limit = refl; next = refl; moved = moved_not c.args.answers.now.answers }

pub uses-preserved : goal.uses-preserved
uses-preserved c = record {
  limit = c.bring.ensures.limit ∙ c.uses.invariant.limit;
  next = c.bring.ensures.next ∙ c.uses.invariant.next;
  moved = moved_then c.args.answers.now.answers c.uses.answers.answers c.bring.new.answers.answers c.uses.invariant.moved c.bring.ensures.moved;
}
