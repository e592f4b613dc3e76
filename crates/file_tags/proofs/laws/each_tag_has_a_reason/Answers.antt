use Rattle.file_tags.proofs.ReasonLemmas.{reason_of, has_by_reason}
use Rattle.file_tags.proofs.laws.each_tag_has_a_reason.Goals as goal

pub returns : goal.returns
returns c = λ tag path entry. (reason_of tag path entry, has_by_reason tag path entry)
