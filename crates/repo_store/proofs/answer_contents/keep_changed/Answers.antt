use Rattle.std.proofs.Common.{List, map, subst, sym, ◌∙◌}
use Rattle.std.proofs.lemmas.Result.{IfOk-weaker}
use Rattle.hook_base.specs.Rising.{IsRisingBy}
use Rattle.answer_records.specs.declared.changed_file.ChangedFile.{ChangedFile}
use Rattle.answer_records.specs.Reading.{IsChangesRecord}
use Rattle.answer_records.specs.Records.{changed_file}
use Rattle.repo_store.specs.Lists.{fix_of}
use Rattle.repo_store.proofs.AnswerRowLemmas.{rising_made}
use Rattle.repo_store.proofs.answer_contents.keep_changed.Goals as goal

pub returns-clause-record : goal.returns-clause-record
returns-clause-record c =
    let changes = map fix_of c.args.changes.now in
    let named = c.as_slice.ensures.value ∙ c.in_ok-named.ensures in
    let rising = rising_made changed_file (λ (file : ChangedFile). file.path) changes c.requires in
    let made = (c.in_ok-record.ensures).record (subst (λ (l : List ChangedFile). IsRisingBy (λ file. file.path) l) (sym named) rising) in
    let told = subst (λ (l : List ChangedFile). IsChangesRecord l c.in_ok-record.record) named made in
    IfOk-weaker c.keep.result _ _ (λ content is. subst (IsChangesRecord (map changed_file changes)) (sym c.as_slice-2.ensures ∙ sym is) told) c.keep.ensures.content
