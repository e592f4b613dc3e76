use Rattle.std.proofs.Common.{◌≡◌, false, List, map, sym, subst}
use Rattle.std.specs.List.{AllByRecursion}
use Rattle.repo_store.specs.Shared.{FileParts}
use Rattle.repo_store.specs.Answers.{HaveOwnKeys, have_one_key}
use Rattle.repo_store.specs.Complete.{HasRecords, HaveDistinctDigests, IsComplete}
use Rattle.repo_store.specs.Kept.{Kept, limiting}
use Rattle.repo_store.specs.SoundAnswers.{IsSoundAnswer}
use Rattle.repo_store.specs.Lists.{file_of}
use Rattle.repo_store.specs.Rows.{blob_row, staged_row}
use Rattle.repo_store.specs.RowRules.{IsFixRow}
use Rattle.repo_store.specs.Standing.{TellKeys}
use Rattle.repo_store.proofs.IndexLemmas.{index_apart}
use Rattle.repo_store.proofs.FromRowsLemmas.{lists_same, lists_sound, lists_obey}
use Rattle.repo_store.proofs.RememberLemmas.{told_all}
use Rattle.repo_store.proofs.TakenLemmas.{all_taken, ascending_taken, few_taken}
use Rattle.repo_store.proofs.from_rows.lists_of.Goals as goal

pub of-requires : goal.of-requires
of-requires c =
    let rows = c.args.rows in
    let staged = c.in_ok-staged.staged.items in
    let blobs = map blob_row c.in_ok-contents.contents in
    let fixes = subst (λ (l : List FileParts). AllByRecursion (IsFixRow blobs (map staged_row (map file_of l))) rows.fixes.items) c.as_slice.ensures.value c.in_ok-fixes.ensures.obeys in
    lists_sound c.in_ok-history.history.items staged c.in_ok-fixes.fixes.items blobs rows.fixes.items rows.commits.items c.in_ok-staged.ensures.rising c.in_ok-staged.ensures.fits
    c.in_ok-fixes.ensures.rising c.in_ok-fixes.ensures.fixes fixes c.in_ok-history.ensures.rising c.in_ok-history.ensures.commits c.in_ok-history.ensures.obeys.0

pub returns-clause-complete : goal.returns-clause-complete
returns-clause-complete c =
    let rows = c.args.rows in
    let staged = c.in_ok-staged.staged.items in
    let blobs = map blob_row c.in_ok-contents.contents in
    let fixes = subst (λ (l : List FileParts). AllByRecursion (IsFixRow blobs (map staged_row (map file_of l))) rows.fixes.items) c.as_slice.ensures.value c.in_ok-fixes.ensures.obeys in
    let sound =
    lists_sound c.in_ok-history.history.items staged c.in_ok-fixes.fixes.items blobs rows.fixes.items rows.commits.items c.in_ok-staged.ensures.rising c.in_ok-staged.ensures.fits
    c.in_ok-fixes.ensures.rising c.in_ok-fixes.ensures.fixes fixes c.in_ok-history.ensures.rising c.in_ok-history.ensures.commits c.in_ok-history.ensures.obeys.0 in
    let apart = subst HaveDistinctDigests c.contents.view_is (index_apart c.contents.inside.places c.contents.inside.items.items c.contents.invariant) in
    let answers = c.in_ok-answers.answers.answers in
    λ limit limited. subst (λ (k : Kept). IsComplete (limiting limit k)) (sym c.of.ensures.kept) (record {
      sound = sound;
      staged = c.in_ok-staged.ensures.among;
      fixes = c.in_ok-fixes.ensures.among;
      trees = c.in_ok-history.ensures.among;
      sound_answers = all_taken IsSoundAnswer limit answers c.in_ok-answers.ensures.sound;
      answers = all_taken (HasRecords c.in_ok-contents.contents) limit answers c.in_ok-answers.ensures.records;
      keys = ascending_taken (λ a b. have_one_key a b ≡ false) limit answers c.in_ok-answers.ensures.keys;
      apart = apart;
      limited = limited;
      few = few_taken limit answers;
    })

pub returns-clause-answers : goal.returns-clause-answers
returns-clause-answers c =
    let contents = c.in_ok-contents.contents in
    let answers = c.in_ok-answers.answers.answers in
    let apart = subst HaveDistinctDigests c.contents.view_is (index_apart c.contents.inside.places c.contents.inside.items.items c.contents.invariant) in
    let it = c.in_ok-answers.ensures in
    subst (λ (k : Kept). HaveOwnKeys k.answers × TellKeys k.answers) (sym c.of.ensures.kept) (it.keys, told_all contents apart answers it.sound it.records answers it.records)

pub returns-clause-same : goal.returns-clause-same
returns-clause-same c =
    let rows = c.args.rows in
    lists_same rows c.in_ok-contents.contents c.in_ok-history.history.items c.in_ok-staged.staged.items c.in_ok-fixes.fixes.items c.in_ok-answers.answers.answers c.in_ok-answers.answers.limit
    c.of.result.kept c.in_ok-contents.ensures.contents c.in_ok-staged.ensures.files
    c.in_ok-fixes.ensures.fixes c.in_ok-history.ensures.commits c.in_ok-history.ensures.entries c.in_ok-answers.ensures.rows c.of.ensures.kept

pub returns-clause-obeys : goal.returns-clause-obeys
returns-clause-obeys c =
    let rows = c.args.rows in
    let blobs = map blob_row c.in_ok-contents.contents in
    let fixes = subst (λ (l : List FileParts). AllByRecursion (IsFixRow blobs (map staged_row (map file_of l))) rows.fixes.items) c.as_slice.ensures.value c.in_ok-fixes.ensures.obeys in
    lists_obey rows blobs (map staged_row (map file_of c.in_ok-staged.staged.items)) c.in_ok-contents.ensures.contents c.in_ok-staged.ensures.files c.in_ok-contents.ensures.obeys
    c.in_ok-staged.ensures.obeys
    fixes c.in_ok-history.ensures.obeys.0 c.in_ok-history.ensures.obeys.1 c.in_ok-answers.ensures.obeys
