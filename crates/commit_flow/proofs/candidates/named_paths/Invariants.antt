use Rattle.std.proofs.Common.{◌≡◌, ◌++◌, drop}
use Rattle.commit_flow.proofs.CandidateLemmas.{DecideTheRest}
use Rattle.commit_flow.proofs.candidates.named_paths.Given as goal

abbrev pub invariant-names : goal.invariant-names
invariant-names g l = record {
  copied : l.paths.items ++ drop l.name-index l.names ≡ l.names;
  rest : DecideTheRest l.store.kept.repo l.names l.name-index;
}
