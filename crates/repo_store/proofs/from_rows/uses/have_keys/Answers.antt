use Rattle.std.proofs.Common.{arith}
use Rattle.repo_store.proofs.FollowLemmas.{keys_same}
use Rattle.repo_store.proofs.from_rows.uses.have_keys.Goals as goal

pub returns : goal.returns
returns c = λ _. let past = c.uses-test.false in keys_same c.args.uses.now c.args.keys.now c.if-uses-keys.false (λ k below d e. c.uses.invariant k (omega arith) d e)
