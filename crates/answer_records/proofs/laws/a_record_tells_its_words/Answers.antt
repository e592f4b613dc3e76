use Rattle.answer_records.specs.RecordLemmas.{words_told}
use Rattle.answer_records.proofs.laws.a_record_tells_its_words.Goals as goal

pub returns : goal.returns
returns c = words_told
