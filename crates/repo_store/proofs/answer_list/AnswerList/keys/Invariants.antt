use Rattle.std.proofs.Common.{◌≡◌, ◌++◌, map}
use Rattle.std.specs.Map.{keys_of}
use Rattle.repo_store.specs.Index.{key_of}
use Rattle.repo_store.proofs.answer_list.AnswerList.keys.Given as goal

abbrev pub invariant-answers : goal.invariant-answers
invariant-answers l = l.keys.items ++ keys_of l.key-iterator ≡ map key_of l.self.answers
