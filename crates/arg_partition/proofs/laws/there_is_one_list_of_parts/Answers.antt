use Rattle.arg_partition.specs.PartsLaws.{parts-unique}
use Rattle.arg_partition.proofs.laws.there_is_one_list_of_parts.Goals as goal

pub returns : goal.returns
returns c = parts-unique
