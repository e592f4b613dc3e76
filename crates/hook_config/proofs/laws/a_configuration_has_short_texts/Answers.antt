use Rattle.hook_config.proofs.ShortTexts.{config_short}
use Rattle.hook_config.proofs.laws.a_configuration_has_short_texts.Goals as goal

pub returns : goal.returns
returns c = config_short
