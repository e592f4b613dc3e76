use Rattle.yaml_profile.proofs.TextsWithin.{texts_within, few_bytes}
use Rattle.yaml_profile.proofs.laws.no_text_is_longer_than_what_it_is_read_from.Goals as goal

pub returns-clause-texts : goal.returns-clause-texts
returns-clause-texts c = texts_within

pub returns-clause-limit : goal.returns-clause-limit
returns-clause-limit c = few_bytes
