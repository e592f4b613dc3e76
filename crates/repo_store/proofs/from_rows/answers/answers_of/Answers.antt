use Rattle.std.proofs.Common.{◌≡◌, [], ◌∷◌, ◌++◌, map, reverse, append_assoc, sym, ap, subst, ◌∙◌, arith}
use Rattle.std.specs.List.{AllByRecursion}
use Rattle.std.proofs.lemmas.Grind.{common_steps}
use Rattle.std.proofs.lemmas.List.Sorted.{IsPermutation-reverse, IsPermutation-sym}
use Rattle.std.proofs.lemmas.Result.{err_from_is_err_and}
use Rattle.std.specs.Vec.Iter.{into_iter_items}
use Rattle.repo_store.specs.Complete.{HaveRecords}
use Rattle.repo_store.specs.ListedAnswers.{ListedAnswers}
use Rattle.repo_store.specs.Rows.{answer_row, blob_row}
use Rattle.repo_store.specs.RowRules.{IsAnswerRow}
use Rattle.repo_store.specs.SoundAnswers.{IsSoundAnswer}
use Rattle.repo_store.proofs.AnswerRowLemmas.{answer_rows}
use Rattle.repo_store.proofs.FromRowsLemmas.{rows_front, damage_middle}
use Rattle.repo_store.proofs.RowRuleLemmas.{all_same}
use Rattle.repo_store.proofs.from_rows.answers.answers_of.Goals as goal

pub returns-in_err-answer-clause-broken : goal.returns-in_err-answer-clause-broken
returns-in_err-answer-clause-broken c =
    let p = err_from_is_err_and c.from_residual-in_err-answer.result c.from_residual-in_err-answer.ensures.1 in
    rw (p.1, p.2) (damage_middle (IsAnswerRow (map blob_row c.args.contents.now)) c.rows.yielded c.in-Some.row _ _ c.args.rows.items _ c.rows.invariant.left (c.in-Some.ensures.steps.0)
    c.in_err-answer.ensures.broken)

pub rows-preserved : goal.rows-preserved
rows-preserved c =
    let row = c.in-Some.row in
    let contents = c.args.contents.now in
    let answer = c.in_ok-answer.answer in
    let kept = ap (λ (l : ListedAnswers). l.answers) c.in_ok-admit.ensures.kept in
    record {
      left = append_assoc c.rows.yielded (row ∷ []) (into_iter_items c.next.new.self) ∙ ap (λ l. c.rows.yielded ++ l) (sym (c.in-Some.ensures.steps.0)) ∙ c.rows.invariant.left;
      rows = rows_front answer_row c.rows.yielded row c.rows.answers.answers c.admit.new.self.answers answer c.rows.invariant.rows kept c.in_ok-answer.ensures.row;
      limit = ap (λ (l : ListedAnswers). l.limit) c.in_ok-admit.ensures.kept ∙ c.rows.invariant.limit;
      next = ap (λ (l : ListedAnswers). l.next) c.in_ok-admit.ensures.kept ∙ c.rows.invariant.next;
      sound = subst (AllByRecursion IsSoundAnswer) (sym kept) (c.in_ok-answer.ensures.sound, c.rows.invariant.sound);
      keys = c.in_ok-admit.ensures.keys;
      records = subst (HaveRecords contents) (sym kept) (c.in_ok-answer.ensures.records, c.rows.invariant.records);
    }

pub returns-clause-rows : goal.returns-clause-rows
returns-clause-rows c =
    let all : c.rows.yielded ≡ c.args.rows.items = grind (arith, common_steps) in
    c.rows.invariant.rows ∙ ap reverse all

pub returns-clause-obeys : goal.returns-clause-obeys
returns-clause-obeys c =
    let contents = c.args.contents.now in
    let all : c.rows.yielded ≡ c.args.rows.items = grind (arith, common_steps) in
    let rows = c.args.rows.items in
    let turned =
    subst (AllByRecursion (IsAnswerRow (map blob_row contents))) (c.rows.invariant.rows ∙ ap reverse all)
    (answer_rows contents c.rows.answers.answers c.rows.invariant.sound c.rows.invariant.records) in
    all_same (IsAnswerRow (map blob_row contents)) (reverse rows) rows (IsPermutation-sym rows (reverse rows) (IsPermutation-reverse rows)) turned
