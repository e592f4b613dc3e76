use Rattle.std.proofs.Common.{◌≡◌, length, take}
use Rattle.repo_store.proofs.answer_list.AnswerList.keep.Given as goal

abbrev pub invariant-answers : goal.invariant-answers
invariant-answers l = (take l.limit l.self.answers ≡ take l.limit l.initial.self.answers) × (l.self.next ≡ l.initial.self.next)

abbrev pub decreases-answers : goal.decreases-answers
decreases-answers l = length l.self.answers
