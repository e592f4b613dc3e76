use Rattle.std.proofs.Common.{◌≡◌, ◌++◌, map, reverse}
use Rattle.std.specs.List.{AllByRecursion}
use Rattle.std.specs.Vec.Iter.{into_iter_items}
use Rattle.repo_store.specs.Answers.{HaveOwnKeys}
use Rattle.repo_store.specs.Complete.{HaveRecords}
use Rattle.repo_store.specs.Rows.{answer_row}
use Rattle.repo_store.specs.SoundAnswers.{IsSoundAnswer}
use Rattle.repo_store.proofs.from_rows.answers.answers_of.Given as goal

abbrev pub invariant-rows : goal.invariant-rows
invariant-rows l = record {
  left : l.yielded ++ into_iter_items l.row-iterator ≡ l.fn.rows.items;
  rows : map answer_row l.answers.answers ≡ reverse l.yielded;
  limit : l.answers.limit ≡ l.limit;
  next : l.answers.next ≡ 1;
  sound : AllByRecursion IsSoundAnswer l.answers.answers;
  keys : HaveOwnKeys l.answers.answers;
  records : HaveRecords l.contents l.answers.answers;
}
