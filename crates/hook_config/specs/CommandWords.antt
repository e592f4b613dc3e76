-- The words of a hook's command (pre-commit.com, "system", "script", and "Creating new hooks": entry, args).
use Rattle.std.specs.Prelude.{ℕ, List, [], ◌∷◌, ◌++◌, Option, Some, None, Ok, Err, option_map}
use Rattle.arg_partition.specs.Words.{Reading, words_of}

-- the first of the words, or empty if there are none
abbrev pub first_word : List (List ℕ) → List ℕ
first_word [] = []
first_word (word ∷ words) = word

-- the words, or none if the first of them is empty and so names no program
abbrev pub unless_nameless : List ℕ → List (List ℕ) → Option (List (List ℕ))
unless_nameless [] words = None
unless_nameless (c ∷ cs) words = Some words

-- the words that were read, if there is one, and the first isn't empty
abbrev pub named_words : Reading → Option (List (List ℕ))
named_words (Ok words) = unless_nameless (first_word words) words
named_words (Err fault) = None

-- the words of an entry, which is cut as Python's shlex.split does
unfoldable pub entry_words_of : List ℕ → Option (List (List ℕ))
entry_words_of entry = named_words (words_of entry)

-- the words of an entry, then the arguments, each a word as it is
unfoldable pub command_words_of : List ℕ → List (List ℕ) → Option (List (List ℕ))
command_words_of entry args = option_map (λ words. words ++ args) (entry_words_of entry)
