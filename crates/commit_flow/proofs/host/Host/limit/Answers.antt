use Rattle.std.proofs.Common.{ℕ, ◌≤◌, subst}
use Rattle.commit_flow.proofs.CommandLemmas.{count_remembered}
use Rattle.commit_flow.proofs.host.Host.limit.Goals as goal

pub returns-clause-few : goal.returns-clause-few
returns-clause-few g c = subst (λ (count : ℕ). count ≤ c.args.self.now.store.kept.limit) (count_remembered c.args.self.now.store.kept) c.answer_limit.ensures.few
