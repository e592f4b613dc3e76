use Rattle.commit_flow.proofs.ConfigLemmas.{has_bytes}
use Rattle.commit_flow.proofs.staged_configuration.staged_config.Goals as goal

pub returns-clause-config : goal.returns-clause-config
returns-clause-config g c = record {
  bytes = c.in-Some.bytes.now;
  staged = has_bytes c.args.store.now.kept.repo c.in_ok-path.path c.in-Some.bytes.now c.in_ok-path.ensures c.in-Some.ensures;
  meant = c.in_ok-config.ensures.meant;
}
