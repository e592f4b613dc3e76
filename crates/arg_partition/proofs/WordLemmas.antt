-- Words: what a character outside quotes does, by whether it is a blank and whether a word is begun.
use Rattle.std.proofs.Common.{◌≡◌, ◌∙◌, ℕ, List, ◌∷◌, [], true, false, Ok, ap}
use Rattle.arg_partition.specs.Words.{before, word_and_rest, is_word_separator, piece, front_word, words_of_characters}
use Rattle.arg_partition.specs.WordsLaws.{word_end, word_on, words_end, words_on}
use Rattle.arg_partition.specs.WordsSoFar.{from_piece, from_word}

pub blank_between : (c : ℕ) (rest : List ℕ) → is_word_separator c ≡ true → words_of_characters (c ∷ rest) ≡ words_of_characters rest
blank_between c rest blank = words_on c rest ∙ rw blank

pub word_goes_on : (c : ℕ) (rest : List ℕ) → is_word_separator c ≡ false → from_word (c ∷ rest) ≡ from_piece (piece c rest)
word_goes_on c rest begins = ap (λ front. word_and_rest front words_of_characters) (word_on c rest ∙ rw begins)

pub word_begins : (c : ℕ) (rest : List ℕ) → is_word_separator c ≡ false → words_of_characters (c ∷ rest) ≡ from_piece (piece c rest)
word_begins c rest begins = words_on c rest ∙ rw begins (word_goes_on c rest begins)

pub word_ends : (c : ℕ) (rest : List ℕ) → is_word_separator c ≡ true → from_word (c ∷ rest) ≡ before [] (words_of_characters rest)
word_ends c rest blank =
    let front : front_word (c ∷ rest) ≡ Ok ([], c ∷ rest) = word_on c rest ∙ rw blank in
    ap (λ one. word_and_rest one words_of_characters) front ∙ ap (before []) (blank_between c rest blank)

pub last_word_ends : from_word [] ≡ Ok ([] ∷ [])
last_word_ends = ap (λ front. word_and_rest front words_of_characters) word_end ∙ ap (before []) words_end
