use Rattle.yaml_profile.proofs.UniqueKeys.{unique_keys}
use Rattle.yaml_profile.proofs.laws.a_key_stands_in_its_table_once.Goals as goal

pub returns : goal.returns
returns c = unique_keys
