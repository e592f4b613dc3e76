-- Words of the laws of a list's and a table's two forms: words, the lines of a list or a table of them, and
-- the flow of them. (YAML 1.2.2, sections 7.4.1 "Flow Sequences", 7.4.2 "Flow Mappings", 8.2.1 "Block
-- Sequences" and 8.2.2 "Block Mappings".)
use Rattle.std.specs.Prelude.{◌≡◌, ℕ, Bool, true, false, not, ◌≤◌, ◌&&◌, ◌||◌, ◌++◌, List, [], ◌∷◌, length, map, Option, Some, None, nat_lt, encode_utf8_all, if◌then◌else◌}
use Rattle.std.specs.List.{list_all, join_with_byte}
use Rattle.yaml_lines.specs.Characters.{is_nil}
use Rattle.yaml_lines.specs.Entries.{ContentLine}
use Rattle.yaml_lines.specs.Meaning.{Meaning, text, list, table, meanings_of, members_of}
use Rattle.yaml_lines.specs.Plain.{is_indicator, is_mark_character}
use Rattle.yaml_flows.specs.Keys.{Row, keys_differ}

-- A character that means itself wherever it is, as letters, digits, `.`, `/` and `_` do. It is any above
-- the space except `, [ ] { } # & * ! | > ' " % @`, the backtick, `-`, `?` and `:`.
abbrev pub is_word_character : ℕ → Bool
is_word_character c = nat_lt 32 c && not (is_indicator c || is_mark_character c)

-- one or more such characters
abbrev pub is_word : List ℕ → Bool
is_word cs = not (is_nil cs) && list_all is_word_character cs

-- ---- lists

-- one or more words
pub record AreWords (words : List (List ℕ)) : Type 0 where
  pub some : 1 ≤ length words
  pub all : list_all is_word words ≡ true

-- the list of these texts, none of them quoted
abbrev pub list_of_words : List (List ℕ) → Meaning
list_of_words words = list (meanings_of (map (λ word. text (encode_utf8_all word) false) words))

-- the line `- word` at this indentation
abbrev pub item_line : ℕ → List ℕ → ContentLine
item_line indent word = record { indent = indent; content = 45 ∷ 32 ∷ word; block = None }

-- the text `[word,word,..]`
abbrev pub flow_of_words : List (List ℕ) → List ℕ
flow_of_words words = 91 ∷ (join_with_byte 44 words ++ 93 ∷ [])

-- the text of lines `- word`, each ended by a line feed
abbrev pub lines_of_words : List (List ℕ) → List ℕ
lines_of_words [] = []
lines_of_words (word ∷ words) = 45 ∷ 32 ∷ (word ++ 10 ∷ lines_of_words words)

-- ---- tables

-- a word as a key, and the word that is its value
pub record WordEntry : Type 0 where
  pub key : List ℕ
  pub value : List ℕ

abbrev pub is_word_entry : WordEntry → Bool
is_word_entry entry = is_word entry.key && is_word entry.value

-- one or more entries of words
pub record AreWordEntries (entries : List WordEntry) : Type 0 where
  pub some : 1 ≤ length entries
  pub all : list_all is_word_entry entries ≡ true

-- the text `key: value`
abbrev pub entry_text : WordEntry → List ℕ
entry_text entry = entry.key ++ 58 ∷ 32 ∷ entry.value

-- the line `key: value` at this indentation
abbrev pub entry_line : ℕ → WordEntry → ContentLine
entry_line indent entry = record { indent = indent; content = entry_text entry; block = None }

-- the text `{key: value,key: value,..}`
abbrev pub flow_of_entries : List WordEntry → List ℕ
flow_of_entries entries = 123 ∷ (join_with_byte 44 (map entry_text entries) ++ 125 ∷ [])

-- the text of lines `key: value`, each ended by a line feed
abbrev pub lines_of_entries : List WordEntry → List ℕ
lines_of_entries [] = []
lines_of_entries (entry ∷ entries) = entry_text entry ++ 10 ∷ lines_of_entries entries

-- the key with its value, which isn't quoted
abbrev pub word_row : WordEntry → Row
word_row entry = (encode_utf8_all entry.key, text (encode_utf8_all entry.value) false)

-- the table of these keys and values; none if a key occurs twice
abbrev pub table_of_entries : List WordEntry → Option Meaning
table_of_entries entries =
    if keys_differ (map word_row entries) then Some (table (members_of (map word_row entries))) else None
