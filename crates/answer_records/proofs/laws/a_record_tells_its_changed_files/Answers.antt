use Rattle.answer_records.specs.RecordLemmas.{changes_told}
use Rattle.answer_records.proofs.laws.a_record_tells_its_changed_files.Goals as goal

pub returns : goal.returns
returns c = changes_told
