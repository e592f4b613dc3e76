-- Laws of words: the bounds in the definition are never too small, and each list of words can be written and
-- read back.
use Rattle.std.specs.Prelude.{◌≡◌, ℕ, zero, suc, ◌≤◌, ◌==◌, Bool, true, false, if◌then◌else◌, List, [], ◌∷◌, ◌++◌, Ok, Err, ⊤, length, chars, encode_utf8, encode_utf8_all, map, refl}
use Rattle.std.proofs.Common.{◌∙◌, inl, inr, ap, sym, arith}
use Rattle.std.proofs.lemmas.List.{append_assoc, append-nil}
use Rattle.std.proofs.lemmas.Bool.Decides.{eqb_tells}
use Rattle.arg_partition.specs.Quoted.{all_quoted, quoted_character, quoted_characters}
use Rattle.arg_partition.specs.Words.{Front, Reading, adding, bare_escape, before, double_quoted, double_quoted_escape, front_word, is_word_separator, piece, piece_and_rest, single_quoted, word_and_rest, word_within, words_of, words_of_characters, words_within}

-- ---- what is left after a piece

-- at most this many characters are left
abbrev LeavesAtMost : ℕ → Front → Type 0
LeavesAtMost most (Ok (bytes, behind)) = length behind ≤ most
LeavesAtMost most (Err fault) = ⊤

leaves-adding : (most : ℕ) (bytes : List ℕ) (front : Front) → LeavesAtMost most front
    → LeavesAtMost most (adding bytes front)
leaves-adding most bytes (Ok (more, behind)) leaves = leaves
leaves-adding most bytes (Err fault) leaves = tt

leaves-if : (most : ℕ) (test : Bool) (yes no : Front) → LeavesAtMost most yes → LeavesAtMost most no
    → LeavesAtMost most (if test then yes else no)
leaves-if most true one other leaves else_leaves = leaves
leaves-if most false one other leaves else_leaves = else_leaves

leaves-more : (few most : ℕ) (front : Front) → few ≤ most → LeavesAtMost few front → LeavesAtMost most front
leaves-more few most (Ok (bytes, behind)) less leaves = omega arith
leaves-more few most (Err fault) less leaves = tt

-- one character more may be left
leaves-one : (most : ℕ) (front : Front) → LeavesAtMost most front → LeavesAtMost (suc most) front
leaves-one most front leaves = leaves-more most (suc most) front (omega arith) leaves

single_leaves : (text : List ℕ) → LeavesAtMost (length text) (single_quoted text)
single_leaves [] = tt
single_leaves (c ∷ rest) =
    leaves-one (length rest) _
    (leaves-if (length rest) (c == 39) _ _ (omega arith) (leaves-adding (length rest) _ _ (single_leaves rest)))

mutual
  double_leaves : (text : List ℕ) → LeavesAtMost (length text) (double_quoted text)
  double_leaves [] = tt
  double_leaves (c ∷ rest) =
      leaves-one (length rest) _
      (leaves-if (length rest) (c == 34) _ _ (omega arith)
      (leaves-if (length rest) (c == 92) _ _ (escape_leaves rest)
      (leaves-adding (length rest) _ _ (double_leaves rest))))

  escape_leaves : (text : List ℕ) → LeavesAtMost (length text) (double_quoted_escape text)
  escape_leaves [] = tt
  escape_leaves (c ∷ rest) = leaves-one (length rest) _ (leaves-adding (length rest) _ _ (double_leaves rest))

bare_leaves : (text : List ℕ) → LeavesAtMost (length text) (bare_escape text)
bare_leaves [] = tt
bare_leaves (c ∷ rest) = omega arith

piece_leaves : (c : ℕ) (rest : List ℕ) → LeavesAtMost (length rest) (piece c rest)
piece_leaves c rest =
    leaves-if (length rest) (c == 39) _ _ (single_leaves rest)
    (leaves-if (length rest) (c == 34) _ _ (double_leaves rest)
    (leaves-if (length rest) (c == 92) _ _ (bare_leaves rest) (omega arith)))

-- ---- a word is its first piece and the rest of the word

-- two functions agree on texts of at most this many characters
abbrev Agree : {A : Type 0} → ℕ → (List ℕ → A) → (List ℕ → A) → Type 0
Agree most one other = (text : List ℕ) → length text ≤ most → one text ≡ other text

piece-same : (most : ℕ) (front : Front) (one other : List ℕ → Front) → LeavesAtMost most front → Agree most one other
    → piece_and_rest front one ≡ piece_and_rest front other
piece-same most (Ok (bytes, behind)) one other leaves same = ap (adding bytes) (same behind leaves)
piece-same most (Err fault) one other leaves same = refl

-- a character has the same effect before two continuations that agree on the text that is left
word-same : (c : ℕ) (rest : List ℕ) (one other : List ℕ → Front) → Agree (length rest) one other
    → (if is_word_separator c then Ok ([], c ∷ rest) else piece_and_rest (piece c rest) one)
    ≡ (if is_word_separator c then Ok ([], c ∷ rest) else piece_and_rest (piece c rest) other)
word-same c rest one other same =
    ap (λ (on : Front). if is_word_separator c then Ok ([], c ∷ rest) else on)
    (piece-same (length rest) (piece c rest) one other (piece_leaves c rest) same)

word_same : (most bound : ℕ) (text : List ℕ) → length text ≤ most → length text ≤ bound
    → word_within most text ≡ word_within bound text
unfolding word_within
word_same zero zero text few also = refl
word_same zero (suc bound) [] few also = refl
word_same zero (suc bound) (c ∷ rest) few also = absurd (omega arith)
word_same (suc most) zero [] few also = refl
word_same (suc most) zero (c ∷ rest) few also = absurd (omega arith)
word_same (suc most) (suc bound) [] few also = refl
word_same (suc most) (suc bound) (c ∷ rest) few also =
    word-same c rest (word_within most) (word_within bound)
    (λ text short. word_same most bound text (omega arith) (omega arith))

pub word_end : front_word [] ≡ Ok ([], [])
unfolding front_word word_within
word_end = refl

pub word_on : (c : ℕ) (rest : List ℕ)
    → front_word (c ∷ rest) ≡ (if is_word_separator c then Ok ([], c ∷ rest) else piece_and_rest (piece c rest)
    front_word)
unfolding front_word word_within
word_on c rest =
    word-same c rest (word_within (length rest)) front_word
    (λ text short. word_same (length rest) (length text) text short (omega arith))

-- ---- words follow one another

piece_and_rest_leaves : (most : ℕ) (front : Front) (rest : List ℕ → Front) → LeavesAtMost most front
    → ((text : List ℕ) → length text ≤ most → LeavesAtMost most (rest text))
    → LeavesAtMost most (piece_and_rest front rest)
piece_and_rest_leaves most (Ok (bytes, behind)) rest leaves on =
    leaves-adding most bytes (rest behind) (on behind leaves)
piece_and_rest_leaves most (Err fault) rest leaves on = tt

-- the pieces of a word leave no more of a text than there was
word_leaves : (most : ℕ) (text : List ℕ) → LeavesAtMost (length text) (word_within most text)
unfolding word_within
word_leaves zero text = omega arith
word_leaves (suc most) [] = omega arith
word_leaves (suc most) (c ∷ rest) =
    leaves-if (suc (length rest)) (is_word_separator c) _ _ (omega arith)
    (leaves-one (length rest) _
    (piece_and_rest_leaves (length rest) (piece c rest) (word_within most) (piece_leaves c rest)
    (λ text short. leaves-more (length text) (length rest) _ short (word_leaves most text))))

-- a word that is begun takes at least one character
begun_leaves : (c : ℕ) (rest : List ℕ) → is_word_separator c ≡ false
    → LeavesAtMost (length rest) (front_word (c ∷ rest))
unfolding front_word
begun_leaves c rest begins =
    let on = word_on c rest in
    rw (on, begins)
    (piece_and_rest_leaves (length rest) (piece c rest) front_word (piece_leaves c rest)
    (λ text short. leaves-more (length text) (length rest) _ short (word_leaves (length text) text)))

followed-same : (most : ℕ) (front : Front) (one other : List ℕ → Reading) → LeavesAtMost most front
    → Agree most one other
    → word_and_rest front one ≡ word_and_rest front other
followed-same most (Ok (bytes, behind)) one other leaves same = ap (before bytes) (same behind leaves)
followed-same most (Err fault) one other leaves same = refl

-- a character has the same effect before two readings that agree on the text that is left
words-same : (c : ℕ) (rest : List ℕ) (one other : List ℕ → Reading) → Agree (length rest) one other
    → (if is_word_separator c then one rest else word_and_rest (front_word (c ∷ rest)) one)
    ≡ (if is_word_separator c then other rest else word_and_rest (front_word (c ∷ rest)) other)
words-same c rest one other same = go (is_word_separator c) refl
  where
    go : (test : Bool) → is_word_separator c ≡ test
        → (if test then one rest else word_and_rest (front_word (c ∷ rest)) one)
        ≡ (if test then other rest else word_and_rest (front_word (c ∷ rest)) other)
    go true is = same rest (omega arith)
    go false is = followed-same (length rest) (front_word (c ∷ rest)) one other (begun_leaves c rest is) same

words_same : (most bound : ℕ) (text : List ℕ) → length text ≤ most → length text ≤ bound
    → words_within most text ≡ words_within bound text
unfolding words_within
words_same zero zero text few also = refl
words_same zero (suc bound) [] few also = refl
words_same zero (suc bound) (c ∷ rest) few also = absurd (omega arith)
words_same (suc most) zero [] few also = refl
words_same (suc most) zero (c ∷ rest) few also = absurd (omega arith)
words_same (suc most) (suc bound) [] few also = refl
words_same (suc most) (suc bound) (c ∷ rest) few also =
    words-same c rest (words_within most) (words_within bound)
    (λ text short. words_same most bound text (omega arith) (omega arith))

pub words_end : words_of_characters [] ≡ Ok []
unfolding words_of_characters words_within
words_end = refl

pub words_on : (c : ℕ) (rest : List ℕ)
    → words_of_characters (c ∷ rest)
    ≡ (if is_word_separator c then words_of_characters rest else word_and_rest (front_word (c ∷ rest))
    words_of_characters)
unfolding words_of_characters words_within
words_on c rest =
    words-same c rest (words_within (length rest)) words_of_characters
    (λ text short. words_same (length rest) (length text) text short (omega arith))

-- ---- words in quotes

adding-append : (a b : List ℕ) (front : Front) → adding a (adding b front) ≡ adding (a ++ b) front
adding-append a b (Ok (bytes, behind)) = ap (λ all. Ok (all, behind)) (sym (append_assoc a b bytes))
adding-append a b (Err fault) = refl

piece_and_rest-adding : (bytes : List ℕ) (front : Front) (rest : List ℕ → Front)
    → piece_and_rest (adding bytes front) rest ≡ adding bytes (piece_and_rest front rest)
piece_and_rest-adding bytes (Ok (held, behind)) rest = sym (adding-append bytes held (rest behind))
piece_and_rest-adding bytes (Err fault) rest = refl

-- the rest of a word from within single quotes on
abbrev from_quoted : List ℕ → Front
from_quoted text = piece_and_rest (single_quoted text) front_word

-- a single quote closes the quotes; one in double quotes follows, and then the next quotes open
a_quote : (rest : List ℕ) → front_word (34 ∷ 39 ∷ 34 ∷ 39 ∷ rest) ≡ adding (encode_utf8 39) (from_quoted rest)
a_quote rest =
    word_on 34 (39 ∷ 34 ∷ 39 ∷ rest)
    ∙ (ap (adding (encode_utf8 39 ++ [])) (word_on 39 rest)
    ∙ ap (λ bytes. adding bytes (from_quoted rest)) (append-nil (encode_utf8 39)))

in_quotes : (c : ℕ) (rest : List ℕ) → from_quoted (quoted_character c ++ rest)
    ≡ adding (encode_utf8 c) (from_quoted rest)
in_quotes c rest =
    elim (eqb_tells c 39) [
      | inl same ↦ rw same.1 (ap (adding []) (a_quote rest) ∙ adding-append [] (encode_utf8 39) (from_quoted rest))
      | inr other ↦ rw other.0 (rw other.0 (piece_and_rest-adding (encode_utf8 c) (single_quoted rest) front_word))
    ]

-- characters in single quotes are kept as they are
all_in_quotes : (text rest : List ℕ)
    → from_quoted (quoted_characters text ++ 39 ∷ rest) ≡ adding (encode_utf8_all text) (front_word rest)
all_in_quotes [] rest = refl
all_in_quotes (c ∷ cs) rest =
    ap from_quoted (append_assoc (quoted_character c) (quoted_characters cs) (39 ∷ rest))
    ∙ (in_quotes c (quoted_characters cs ++ 39 ∷ rest)
    ∙ (ap (adding (encode_utf8 c)) (all_in_quotes cs rest)
    ∙ adding-append (encode_utf8 c) (encode_utf8_all cs) (front_word rest)))

-- a word in quotes, followed by a blank
quoted_word : (text rest : List ℕ)
    → front_word (39 ∷ (quoted_characters text ++ 39 ∷ 32 ∷ rest)) ≡ Ok (encode_utf8_all text, 32 ∷ rest)
quoted_word text rest =
    word_on 39 (quoted_characters text ++ 39 ∷ 32 ∷ rest)
    ∙ (all_in_quotes text (32 ∷ rest)
    ∙ (ap (adding (encode_utf8_all text)) (word_on 32 rest)
    ∙ ap (λ bytes. Ok (bytes, 32 ∷ rest)) (append-nil (encode_utf8_all text))))

read_back : (words : List (List ℕ)) → words_of_characters (all_quoted words) ≡ Ok (map encode_utf8_all words)
read_back [] = words_end
read_back (text ∷ words) =
    ap (λ behind. words_of_characters (39 ∷ behind))
    (append_assoc (quoted_characters text) (39 ∷ []) (32 ∷ all_quoted words))
    ∙ (words_on 39 (quoted_characters text ++ 39 ∷ 32 ∷ all_quoted words)
    ∙ (ap (λ front. word_and_rest front words_of_characters) (quoted_word text (all_quoted words))
    ∙ ap (before (encode_utf8_all text)) (words_on 32 (all_quoted words) ∙ read_back words)))

pub words_of_quoted : (text : List ℕ) (words : List (List ℕ)) → chars text ≡ all_quoted words
    → words_of text ≡ Ok (map encode_utf8_all words)
words_of_quoted text words is = ap words_of_characters is ∙ read_back words
