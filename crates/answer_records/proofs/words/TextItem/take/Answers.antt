use Rattle.std.specs.Str.{IsUtf8}
use Rattle.answer_records.proofs.FieldLemmas.{word_other}
use Rattle.answer_records.proofs.words.TextItem.take.Goals as goal

pub returns-in_default-from_utf8-clause-unread : goal.returns-in_default-from_utf8-clause-unread
returns-in_default-from_utf8-clause-unread c =
    word_other IsUtf8 c.args.bytes.now c.in-Some.word.now c.in-Some.rest.now c.in-Some.ensures.few c.in-Some.ensures.found c.in_default-from_utf8.ensures.cases.0
