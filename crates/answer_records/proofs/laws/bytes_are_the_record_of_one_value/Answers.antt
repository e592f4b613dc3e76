use Rattle.answer_records.specs.RecordLemmas.{one_changes, one_seen, one_words}
use Rattle.answer_records.proofs.laws.bytes_are_the_record_of_one_value.Goals as goal

pub returns : goal.returns
returns c = record { words = one_words; seen = one_seen; changes = one_changes }
