use Rattle.arg_partition.specs.PartsLaws.{parts-joined}
use Rattle.arg_partition.proofs.laws.the_parts_have_all_names.Goals as goal

pub returns : goal.returns
returns c = parts-joined
