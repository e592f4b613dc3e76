-- An answer that is given by reference, and the copy of a cached answer that is returned.
use Rattle.std.specs.Prelude.{ℕ, List}
use Rattle.hook_base.specs.declared.file.File.{File}
use Rattle.repo_store.specs.declared.answer_ref.AnswerRef.{AnswerRef}
use Rattle.repo_store.specs.declared.stored_answer.StoredAnswer.{StoredAnswer}
use Rattle.repo_store.specs.Answers.{KeptAnswer}

-- the answer with these words and these seen files
abbrev pub copied_answer : List (List ℕ) → List File → AnswerRef → KeptAnswer
copied_answer words seen answer =
    record {
      words = words;
      seen = seen;
      output = answer.output.now;
      changes = answer.changes.now;
      status =
          answer.status;
    }

-- what is returned of an answer: all but its key
abbrev pub stored_answer : KeptAnswer → StoredAnswer
stored_answer answer = record { status = answer.status; output = answer.output; changes = answer.changes }
