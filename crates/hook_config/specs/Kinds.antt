-- The kinds of a configuration's values, and how a value is taken from a table.
use Rattle.std.specs.Prelude.{ℕ, List, [], ◌∷◌, length, Bool, true, false, ◌&&◌, if◌then◌else◌, nat_le, nat_lt, codes, Option, Some, None, option_map, option_and_then}
use Rattle.std.specs.Char.{digit_value}
use Rattle.std.specs.List.{list_all}
use Rattle.std.specs.Str.Parse.{digits_value, without_leading_plus}
use Rattle.yaml_lines.specs.Meaning.{Meaning, text, list, table, empty}
use Rattle.hook_config.specs.Rows.{ConfigurationRow, value_of_key, is_known_word, list_of}
use Rattle.hook_config.specs.Stages.{stage_of_word, stages_among}
use Rattle.hook_config.specs.declared.stage.Stage.{Stage}
use Rattle.hook_config.specs.declared.stage.Stages.{Stages}
use Rattle.hook_config.specs.Limits.{most_names, most_text_bytes}

-- a text that is no longer than a configuration, quoted or not
abbrev pub text_of : Meaning → Option (List ℕ)
text_of (text content quoted) = if nat_le (length content) most_text_bytes then Some content else None
text_of (list items) = None
text_of (table rows) = None
text_of empty = None

-- the words for true and false: in lower case, with a capital first letter, and in upper case (YAML 1.1,
-- "Boolean Language-Independent Type", without `y` and `n`)
abbrev pub true_words : List (List ℕ)
true_words =
    codes "true" ∷ codes "True" ∷ codes "TRUE"
    ∷ codes "yes" ∷ codes "Yes" ∷ codes "YES"
    ∷ codes "on" ∷ codes "On" ∷ codes "ON"
    ∷ []

abbrev pub false_words : List (List ℕ)
false_words =
    codes "false" ∷ codes "False" ∷ codes "FALSE"
    ∷ codes "no" ∷ codes "No" ∷ codes "NO"
    ∷ codes "off" ∷ codes "Off" ∷ codes "OFF"
    ∷ []

abbrev pub truth_of_word : List ℕ → Option Bool
truth_of_word word =
    if is_known_word true_words word then Some true else (if is_known_word false_words word then Some false else None)

abbrev pub is_true : Option Bool → Bool
is_true None = false
is_true (Some truth) = truth

-- an unquoted word for true or false
abbrev pub truth_of : Meaning → Option Bool
truth_of (text content quoted) = if quoted then None else truth_of_word content
truth_of (list items) = None
truth_of (table rows) = None
truth_of empty = None

-- one decimal digit or more, and nothing else
abbrev pub is_numeral : List ℕ → Bool
is_numeral word = nat_lt 0 (length word) && list_all (λ c. nat_lt (digit_value c) 10) word

-- the number, if a child may be given so many names
abbrev pub name_count : ℕ → Option ℕ
name_count number = if nat_le 1 number && nat_le number most_names then Some number else None

-- the number from 1 to `most_names` that decimal digits write, which a `+` may precede
abbrev pub name_count_of_word : List ℕ → Option ℕ
name_count_of_word word =
    if is_numeral (without_leading_plus word) then name_count (digits_value 10 (without_leading_plus word)) else None

-- an unquoted number of names
abbrev pub name_count_of : Meaning → Option ℕ
name_count_of (text content quoted) = if quoted then None else name_count_of_word content
name_count_of (list items) = None
name_count_of (table rows) = None
name_count_of empty = None

-- the truth, or false if the value is none
abbrev pub lenient_truth_of : Meaning → Option Bool
lenient_truth_of value = Some (is_true (truth_of value))

-- ---- lists

-- what the kind makes of each of them, or none if it makes none of one
abbrev pub each : {A : Type 0} → (Meaning → Option A) → List Meaning → Option (List A)
each kind [] = Some []
each kind (item ∷ items) =
    option_and_then (λ first. option_map (λ others. first ∷ others) (each kind items)) (kind item)

-- a list of texts
abbrev pub texts_of_list : Meaning → Option (List (List ℕ))
texts_of_list value = option_and_then (each text_of) (list_of value)

-- a text that names a stage
abbrev pub stage_of : Meaning → Option Stage
stage_of value = option_and_then stage_of_word (text_of value)

-- the stages of a list, or the default if it has no items
abbrev pub stages_of_items : Stages → List Meaning → Option Stages
stages_of_items default [] = Some default
stages_of_items default (item ∷ items) = option_map stages_among (each stage_of (item ∷ items))

-- a list of stages, or the default if it is empty
abbrev pub stages_of : Stages → Meaning → Option Stages
stages_of default value = option_and_then (stages_of_items default) (list_of value)

-- ---- values that are served only if they are empty

abbrev pub only_empty : {A : Type 0} → List A → Option (List A)
only_empty [] = Some []
only_empty (x ∷ xs) = None

abbrev pub empty_text_of : Meaning → Option (List ℕ)
empty_text_of value = option_and_then only_empty (text_of value)

abbrev pub empty_texts_of : Meaning → Option (List (List ℕ))
empty_texts_of value = option_and_then only_empty (texts_of_list value)

-- ---- values at keys

-- what follows from the value, or none if there is none
abbrev pub given : {A B : Type 0} → Option A → (A → Option B) → Option B
given value follows = option_and_then follows value

-- what the kind makes of the value, or `absent` if there is none
abbrev pub kind_or : {A : Type 0} → (Meaning → Option A) → Option A → Option Meaning → Option A
kind_or kind absent None = absent
kind_or kind absent (Some value) = kind value

-- ---- for contracts of private functions alone

-- the value at a key that has to be there
abbrev pub required : {A : Type 0} → (Meaning → Option A) → List ℕ → List ConfigurationRow → Option A
required kind key rows = kind_or kind None (value_of_key key rows)

-- the value at the key, or the default if the key isn't there
abbrev pub or_default : {A : Type 0} → (Meaning → Option A) → A → List ℕ → List ConfigurationRow → Option A
or_default kind default key rows = kind_or kind (Some default) (value_of_key key rows)
