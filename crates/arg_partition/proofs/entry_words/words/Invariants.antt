use Rattle.std.proofs.Common.{◌≡◌, ◌++◌, List, ℕ, string_bytes}
use Rattle.arg_partition.specs.contracts.reading_state.ReadingStateReadsWords.TheImpl.{words-value}
use Rattle.arg_partition.specs.Words.{words_of_characters}
use Rattle.arg_partition.specs.WordsSoFar.{resumed}
use Rattle.arg_partition.proofs.entry_words.words.Given as goal

abbrev pub invariant-characters : goal.invariant-characters
invariant-characters l =
    (rest : List ℕ) → resumed l.begun.words.items (string_bytes l.begun.word) (words-value.it l.place rest) ≡ words_of_characters (l.yielded ++ rest)
