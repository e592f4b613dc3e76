-- For private functions of the modules `answer_list`, `lists`, `put`, `remember` and `uses`: the digests of
-- an answer's key identify the key.
use Rattle.std.specs.Prelude.{◌≡◌, true}
use Rattle.repo_store.specs.Answers.{KeptAnswer, have_one_key}
use Rattle.repo_store.specs.Index.{key_of}

-- another answer has this one's key if the digests of its key are the same
abbrev pub TellsKey : KeptAnswer → KeptAnswer → Type 0
TellsKey answer other = key_of other ≡ key_of answer → have_one_key other answer ≡ true
