use Rattle.std.proofs.Common.{◌++◌, length, refl}
use Rattle.std.proofs.lemmas.Result.{err_from_is_err_and}
use Rattle.answer_records.specs.Records.{counted_bytes}
use Rattle.answer_records.proofs.FieldLemmas.{err_longer, number_is, number_shorter, on_ok, put_twice}
use Rattle.answer_records.proofs.ListLemmas.{larger}
use Rattle.answer_records.proofs.draft.Draft.put_counted.Goals as goal

pub returns-in_err-put-clause-refused : goal.returns-in_err-put-clause-refused
returns-in_err-put-clause-refused c =
    let p = err_from_is_err_and c.from_residual.result c.from_residual.ensures.1 in
    let old = c.args.self.now in
    let number = c.to_be_bytes.result in
    let bytes = c.args.bytes.now in
    rw (p.1, p.2) (larger (old ++ number) (old ++ counted_bytes bytes) c.in_err-put.field-0.0 (number_shorter old number bytes (number_is (length bytes) number c.to_be_bytes.ensures))
    c.in_err-put.ensures.refused)

pub returns-clause-added : goal.returns-clause-added
returns-clause-added c =
    let bytes = c.args.bytes.now in
    on_ok c.put-2.result _ _ c.put-2.ensures.added (λ added. put_twice c.args.self.now c.to_be_bytes.result c.put.new.self bytes c.put-2.new.self c.in_ok-put.ensures.added added
    (number_is (length bytes) c.to_be_bytes.result c.to_be_bytes.ensures))

pub returns-clause-refused : goal.returns-clause-refused
returns-clause-refused c =
    let bytes = c.args.bytes.now in
    let all = c.put.new.self ++ bytes in
    err_longer c.put-2.result all (c.args.self.now ++ counted_bytes bytes)
    (put_twice c.args.self.now c.to_be_bytes.result c.put.new.self bytes all c.in_ok-put.ensures.added refl (number_is (length bytes) c.to_be_bytes.result c.to_be_bytes.ensures))
    c.put-2.ensures.refused
