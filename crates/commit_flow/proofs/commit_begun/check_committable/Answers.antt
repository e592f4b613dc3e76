use Rattle.std.proofs.Common.{arith}
use Rattle.commit_flow.proofs.CommitStoreLemmas.{nothing_new}
use Rattle.commit_flow.proofs.commit_begun.check_committable.Goals as goal

pub returns-then-not-differs_from_head-clause-refused : goal.returns-then-not-differs_from_head-clause-refused
returns-then-not-differs_from_head-clause-refused g c = (
  omega (arith, c.if-message-gt-MOST_CONTENT_BYTES.false),
  nothing_new c.args.store.now.kept.repo
      (λ differs. let is = c.differs_from_head.ensures.1 differs in let isnt = c.if-not-differs_from_head.true in cc),
)
