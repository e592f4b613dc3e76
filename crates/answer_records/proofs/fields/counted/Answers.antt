use Rattle.std.proofs.Common.{arith}
use Rattle.answer_records.proofs.FieldLemmas.{no_bytes, no_number, none_from, none_of, some_from}
use Rattle.answer_records.proofs.fields.counted.Goals as goal

pub returns-in_err-count-clause-none : goal.returns-in_err-count-clause-none
returns-in_err-count-clause-none c = none_of c.from_residual.result _ (no_number c.args.bytes.now c.in_err-count.ensures.none)

pub returns-clause-few : goal.returns-clause-few
returns-clause-few c =
    some_from _ _ c.split_at_checked.result _ c.split_at_checked.ensures.cases (λ read cases. omega (arith, cases.3, c.in_ok-count.ensures.few))

pub returns-clause-none : goal.returns-clause-none
returns-clause-none c =
    none_from _ c.split_at_checked.result _ _ c.split_at_checked.ensures.cases
    (no_bytes c.args.bytes.now c.in_ok-count.rest.now c.in_ok-count.count c.in_ok-count.ensures.found c.in_ok-count.ensures.few)
