use Rattle.answer_records.specs.RecordLemmas.{files_told}
use Rattle.answer_records.proofs.laws.seen_files_of_one_record_are_alike.Goals as goal

pub returns : goal.returns
returns c = files_told
