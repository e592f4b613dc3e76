-- Words after the first.
use Rattle.std.proofs.Common.{◌≢◌, ℕ, List, [], ◌∷◌, ◌++◌, refl}
use Rattle.hook_config.specs.CommandWords.{first_word}

pub still_named : (words more : List (List ℕ)) → first_word words ≢ [] → first_word (words ++ more) ≢ []
still_named [] more named = absurd (named refl)
still_named (word ∷ words) more named = named
