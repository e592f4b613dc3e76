use Rattle.answer_records.specs.RecordLemmas.{changes_of_told}
use Rattle.answer_records.proofs.laws.changes_of_one_record_are_alike.Goals as goal

pub returns : goal.returns
returns c = changes_of_told
