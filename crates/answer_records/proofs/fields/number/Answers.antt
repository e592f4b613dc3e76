use Rattle.std.proofs.Common.{arith}
use Rattle.answer_records.proofs.FieldLemmas.{number_found}
use Rattle.answer_records.proofs.fields.number.Goals as goal

pub returns-clause-found : goal.returns-clause-found
returns-clause-found c =
    let cases = c.in_ok-front.ensures.cases in
    number_found c.args.bytes.now c.in_ok-front.front.now c.in_ok-front.rest.now c.from_be_bytes.result (λ i. omega (arith, c.type_inv.bytes i)) cases.0 cases.1 (omega (arith, cases.2))
    c.from_be_bytes.ensures
