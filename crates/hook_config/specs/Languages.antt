-- The languages, and how each runs a hook's entry (pre-commit.com, "Supported languages": "fail", "pygrep",
-- "script", "system").
use Rattle.std.specs.Prelude.{ℕ, List, codes, ◌&&◌, bytes_eq, if◌then◌else◌, is_some, Option, Some, None, option_map, option_and_then}
use Rattle.builtin_hooks.specs.Search.{Search, are_known, pattern_of_search, search_of}
use Rattle.yaml_lines.specs.Meaning.{Meaning}
use Rattle.hook_config.specs.CommandWords.{command_words_of}
use Rattle.hook_config.specs.Kinds.{text_of}
use Rattle.hook_config.specs.declared.configuration.Language.{Language}
use Rattle.hook_config.specs.declared.configuration.Language.TheVariants.{Fail, Pygrep, System, Script}
use Rattle.hook_config.specs.declared.languages.LanguageName.{LanguageName}
use Rattle.hook_config.specs.declared.languages.LanguageName.TheVariants as name

abbrev pub fail_word : List ℕ
fail_word = codes "fail"

abbrev pub pygrep_word : List ℕ
pygrep_word = codes "pygrep"

abbrev pub system_word : List ℕ
system_word = codes "system"

abbrev pub script_word : List ℕ
script_word = codes "script"

-- the language that the word names
abbrev pub name_of_word : List ℕ → Option LanguageName
name_of_word word =
    if bytes_eq word fail_word then Some name.Fail
    else (if bytes_eq word pygrep_word then Some name.Pygrep
    else (if bytes_eq word system_word then Some name.System
    else (if bytes_eq word script_word then Some name.Script else None)))

-- a text that names a language
abbrev pub language_name_of : Meaning → Option LanguageName
language_name_of value = option_and_then name_of_word (text_of value)

-- what an entry and its arguments ask to look for: each argument is a known one, and under these flags the
-- grammar reads a pattern in the entry
unfoldable pub grep_of : List ℕ → List (List ℕ) → Option Search
grep_of entry args =
    if are_known args && is_some (pattern_of_search (search_of entry args)) then Some (search_of entry args) else None

-- the language of this name, for an entry and its arguments
abbrev pub language_of : LanguageName → List ℕ → List (List ℕ) → Option Language
language_of name.Fail entry args = Some Fail
language_of name.Pygrep entry args = option_map (λ search. Pygrep search) (grep_of entry args)
language_of name.System entry args = option_map (λ words. System words) (command_words_of entry args)
language_of name.Script entry args = option_map (λ words. Script words) (command_words_of entry args)
