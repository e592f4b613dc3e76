use Rattle.std.proofs.Common.{◌∙◌}
use Rattle.answer_records.proofs.FieldLemmas.{number_is}
use Rattle.answer_records.proofs.draft.Draft.of_items.Goals as goal

pub returns-clause-number : goal.returns-clause-number
returns-clause-number c = c.in_ok-bytes.ensures.items ∙ number_is c.args.count c.to_be_bytes.result c.to_be_bytes.ensures
