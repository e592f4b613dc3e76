use Rattle.std.proofs.Common.{List, map, subst, sym, ◌∙◌}
use Rattle.std.proofs.lemmas.Result.{IfOk-weaker}
use Rattle.hook_base.specs.Rising.{IsRisingBy}
use Rattle.answer_records.specs.declared.seen_file.SeenFile.{SeenFile}
use Rattle.answer_records.specs.Reading.{IsSeenRecord}
use Rattle.answer_records.specs.Records.{seen_file}
use Rattle.repo_store.specs.Lists.{file_of}
use Rattle.repo_store.proofs.AnswerRowLemmas.{rising_made}
use Rattle.repo_store.proofs.answer_contents.keep_seen.Goals as goal

pub returns-clause-record : goal.returns-clause-record
returns-clause-record c =
    let files = map file_of c.args.files.now in
    let named = c.as_slice.ensures.value ∙ c.in_ok-named.ensures in
    let rising = rising_made seen_file (λ (file : SeenFile). file.path) files c.requires in
    let made = (c.in_ok-record.ensures).record (subst (λ (l : List SeenFile). IsRisingBy (λ file. file.path) l) (sym named) rising) in
    let told = subst (λ (l : List SeenFile). IsSeenRecord l c.in_ok-record.record) named made in
    IfOk-weaker c.keep.result _ _ (λ content is. subst (IsSeenRecord (map seen_file files)) (sym c.as_slice-2.ensures ∙ sym is) told) c.keep.ensures.content
