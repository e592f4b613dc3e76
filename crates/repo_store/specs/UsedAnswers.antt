-- The cached answers as a list with a limit, the most recently used first: what a use, an added answer and a
-- changed limit make of it.
use Rattle.std.specs.Prelude.{ℕ, not, List, ◌∷◌, filter, take, Option, None, Some}
use Rattle.hook_base.specs.declared.file.File.{File}
use Rattle.repo_store.specs.Answers.{KeptAnswer, answer_for, is_for}

-- the answers to other words or seen files
abbrev pub without_key : List (List ℕ) → List File → List KeptAnswer → List KeptAnswer
without_key words seen answers = filter (λ answer. not (is_for words seen answer)) answers

-- the answer first, followed by those of other keys in their order
abbrev pub in_front : KeptAnswer → List KeptAnswer → List KeptAnswer
in_front answer answers = answer ∷ without_key answer.words answer.seen answers

abbrev pub in_front_if_any : Option KeptAnswer → List KeptAnswer → List KeptAnswer
in_front_if_any None answers = answers
in_front_if_any (Some answer) answers = in_front answer answers

-- A use of the answer to the words and the seen files brings it to the front; if there is none, nothing
-- changes.
abbrev pub used : List (List ℕ) → List File → List KeptAnswer → List KeptAnswer
used words seen answers = in_front_if_any (answer_for words seen answers) answers

-- the answers that a limit leaves
abbrev pub within_limit : ℕ → List KeptAnswer → List KeptAnswer
within_limit limit answers = take limit answers

-- an answer is cached: it is put in front, and the last one is removed if there are more than the limit
abbrev pub with_answer_within : ℕ → KeptAnswer → List KeptAnswer → List KeptAnswer
with_answer_within limit answer answers = within_limit limit (in_front answer answers)
