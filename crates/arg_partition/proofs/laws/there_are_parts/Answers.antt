use Rattle.arg_partition.specs.SomePartsLemmas.{parts-exist}
use Rattle.arg_partition.proofs.laws.there_are_parts.Goals as goal

pub returns : goal.returns
returns c = parts-exist
