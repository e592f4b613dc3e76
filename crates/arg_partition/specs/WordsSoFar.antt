-- The words of a text of which a part is already read. This serves private functions alone.
use Rattle.std.specs.Prelude.{ℕ, List, [], ◌∷◌, ◌++◌, Ok, Err}
use Rattle.arg_partition.specs.Words.{Front, Reading, front_word, piece_and_rest, word_and_rest, words_of_characters}

-- the words of a text from within a word on: the first is this piece and the rest of its word
abbrev pub from_piece : Front → Reading
from_piece front = word_and_rest (piece_and_rest front front_word) words_of_characters

-- the words of a text from within a word on: the first is the rest of that word
abbrev pub from_word : List ℕ → Reading
from_word text = word_and_rest (front_word text) words_of_characters

-- the words, with bytes before the first one
abbrev pub prefixed : List ℕ → List (List ℕ) → List (List ℕ)
prefixed bytes [] = []
prefixed bytes (word ∷ words) = (bytes ++ word) ∷ words

-- all words of a text: some are done, and one begins with these bytes; the reading is that of the rest
abbrev pub resumed : List (List ℕ) → List ℕ → Reading → Reading
resumed done begun (Ok words) = Ok (done ++ prefixed begun words)
resumed done begun (Err fault) = Err fault
