use Rattle.answer_records.specs.RecordLemmas.{seen_told}
use Rattle.answer_records.proofs.laws.a_record_tells_its_seen_files.Goals as goal

pub returns : goal.returns
returns c = seen_told
