-- The words that are proposed for an unknown one that is near, apart from the keys of the three tables
-- (`KnownKeys.antt` of `hook_config`).
use Rattle.std.specs.Prelude.{ℕ, List, [], ◌∷◌, ◌++◌, codes, map}
use Rattle.hook_config.specs.Stages.{stage_names}
use Rattle.hook_config.specs.Kinds.{false_words, true_words}
use Rattle.hook_config.specs.KnownKeys.{local_word}
use Rattle.hook_config.specs.Languages.{fail_word, pygrep_word, script_word, system_word}

-- the stages, the older names too
abbrev pub stage_words : List (List ℕ)
stage_words = map (λ row. row.0) stage_names

-- the languages
abbrev pub language_words : List (List ℕ)
language_words = system_word ∷ script_word ∷ fail_word ∷ pygrep_word ∷ []

-- the repositories that are served
abbrev pub local_words : List (List ℕ)
local_words = local_word ∷ []

-- the arguments of `pygrep`
abbrev pub argument_words : List (List ℕ)
argument_words = codes "-i" ∷ codes "--ignore-case" ∷ codes "--multiline" ∷ codes "--negate" ∷ []

-- the words for true, and those for false
abbrev pub truth_words : List (List ℕ)
truth_words = true_words ++ false_words
