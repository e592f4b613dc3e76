use Rattle.std.proofs.Common.{arith}
use Rattle.answer_records.proofs.FieldLemmas.{front_long, some_from, split_joined}
use Rattle.answer_records.proofs.fields.digest_at.Goals as goal

pub returns-clause-found : goal.returns-clause-found
returns-clause-found c =
    some_from _ _ c.split_first_chunk.result _ c.split_first_chunk.ensures.cases (λ read cases. split_joined 32 c.args.bytes.now read.0.now read.1.now cases.0 cases.1)

pub returns-clause-digest : goal.returns-clause-digest
returns-clause-digest c =
    some_from _ _ c.split_first_chunk.result _ c.split_first_chunk.ensures.cases (λ read cases. front_long 32 c.args.bytes.now read.0.now cases.0 (omega (arith, cases.2)))
