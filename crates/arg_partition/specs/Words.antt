-- The words of a text, as Python's `shlex.split` cuts them (POSIX mode, without comments; Python's module
-- `shlex`, "Parsing Rules"). Blanks separate words. A word is one or more adjacent pieces, up to a blank or
-- the end.
use Rattle.std.specs.Prelude.{ℕ, zero, suc, ◌==◌, ◌||◌, Bool, if◌then◌else◌, List, [], ◌∷◌, ◌++◌, Result, Ok, Err, length, chars, encode_utf8}
use Rattle.arg_partition.specs.declared.words_fault.WordsFault.{WordsFault}
use Rattle.arg_partition.specs.declared.words_fault.WordsFault.TheVariants.{OpenQuote, NothingEscaped}

-- the words, in UTF-8, or why there are none
abbrev pub Reading : Type 0
Reading = Result (List (List ℕ)) WordsFault

-- what is cut off the front of a text: its bytes, and the text after it; or why it can't be cut off
abbrev pub Front : Type 0
Front = Result (List ℕ × List ℕ) WordsFault

-- a front with more bytes before its own
abbrev pub adding : List ℕ → Front → Front
adding bytes (Ok (more, behind)) = Ok (bytes ++ more, behind)
adding bytes (Err fault) = Err fault

-- ---- pieces

-- the text after an opening single quote: characters as they are, up to the next single quote
abbrev pub single_quoted : List ℕ → Front
single_quoted [] = Err OpenQuote
single_quoted (c ∷ rest) = if c == 39 then Ok ([], rest) else adding (encode_utf8 c) (single_quoted rest)

-- what a backslash and this character mean in double quotes: for `"` and `\` the character alone, otherwise
-- both
abbrev pub escaped_in_quotes : ℕ → List ℕ
escaped_in_quotes c = if c == 34 || c == 92 then encode_utf8 c else 92 ∷ encode_utf8 c

abbrev mutual
  -- the text after an opening double quote: up to the first double quote that isn't escaped
  pub double_quoted : List ℕ → Front
  double_quoted [] = Err OpenQuote
  double_quoted (c ∷ rest) =
      if c == 34 then Ok ([], rest)
      else (if c == 92 then double_quoted_escape rest else adding (encode_utf8 c) (double_quoted rest))

  -- the same from after a backslash on
  pub double_quoted_escape : List ℕ → Front
  double_quoted_escape [] = Err NothingEscaped
  double_quoted_escape (c ∷ rest) = adding (escaped_in_quotes c) (double_quoted rest)

-- the text after a backslash outside quotes: the next character as it is
abbrev pub bare_escape : List ℕ → Front
bare_escape [] = Err NothingEscaped
bare_escape (c ∷ rest) = Ok (encode_utf8 c, rest)

-- the piece that begins with this character, which isn't a blank
abbrev pub piece : ℕ → List ℕ → Front
piece c rest =
    if c == 39 then single_quoted rest
    else (if c == 34 then double_quoted rest
    else (if c == 92 then bare_escape rest else Ok (encode_utf8 c, rest)))

-- ---- words

-- space, tab, carriage return and line feed: the `whitespace` of Python's `shlex.shlex`
abbrev pub is_word_separator : ℕ → Bool
is_word_separator c = c == 32 || c == 9 || c == 13 || c == 10

-- a piece, and what the text after it adds to the word
abbrev pub piece_and_rest : Front → (List ℕ → Front) → Front
piece_and_rest (Ok (bytes, behind)) rest = adding bytes (rest behind)
piece_and_rest (Err fault) rest = Err fault

-- the word at the front of a text, if it has at most this many pieces
unfoldable pub word_within : ℕ → List ℕ → Front
word_within zero text = Ok ([], text)
word_within (suc most) [] = Ok ([], [])
word_within (suc most) (c ∷ rest) =
    if is_word_separator c then Ok ([], c ∷ rest) else piece_and_rest (piece c rest) (word_within most)

-- the word at the front of a text. Each piece takes at least one character, so the length of the text is
-- enough
unfoldable pub front_word : List ℕ → Front
front_word text = word_within (length text) text

-- a word before the words that were read
abbrev pub before : List ℕ → Reading → Reading
before word (Ok words) = Ok (word ∷ words)
before word (Err fault) = Err fault

-- a word, and the words of the text after it
abbrev pub word_and_rest : Front → (List ℕ → Reading) → Reading
word_and_rest (Ok (word, behind)) rest = before word (rest behind)
word_and_rest (Err fault) rest = Err fault

-- the words of a text, if it has at most this many blanks and words
unfoldable pub words_within : ℕ → List ℕ → Reading
words_within zero text = Ok []
words_within (suc most) [] = Ok []
words_within (suc most) (c ∷ rest) =
    if is_word_separator c then words_within most rest else word_and_rest (front_word (c ∷ rest)) (words_within most)

-- the words of a text of these characters. Each blank and each word takes at least one, so its length is
-- enough
unfoldable pub words_of_characters : List ℕ → Reading
words_of_characters text = words_within (length text) text

-- the words of a text in UTF-8
abbrev pub words_of : List ℕ → Reading
words_of text = words_of_characters (chars text)
