-- The keys of a configuration's tables (pre-commit.com, "Adding pre-commit plugins to your project" and
-- "Creating new hooks"). The row of each has its word, what its value has to be, what that is read as, and
-- what it is if the key isn't there. (docs/REFERENCE.md, "The configuration's keys".)
use Rattle.std.specs.Prelude.{ℕ, List, [], ◌∷◌, codes, Bool, true, false, if◌then◌else◌, bytes_eq, map, Option, Some, None}
use Rattle.std.specs.Borrow.{Bor}
use Rattle.yaml_lines.specs.Meaning.{Meaning}
use Rattle.hook_config.specs.Kinds.{name_count_of, text_of, truth_of, lenient_truth_of, texts_of_list, stages_of, empty_text_of, empty_texts_of, kind_or}
use Rattle.hook_config.specs.Languages.{language_name_of}
use Rattle.hook_config.specs.Limits.{most_names}
use Rattle.hook_config.specs.Patterns.{pattern_of, every_path, no_path}
use Rattle.hook_config.specs.Rows.{ConfigurationRow, value_of_key, list_of}
use Rattle.hook_config.specs.Stages.{all_stages}
use Rattle.hook_config.specs.declared.known_keys.KeyKind.{KeyKind}
use Rattle.hook_config.specs.declared.known_keys.KeyKind.TheVariants.{RequiredText, RequiredList, Text, Texts, Truth, Pattern, NameCount, Ignored}
use Rattle.hook_config.specs.declared.languages.LanguageName.{LanguageName}
use Rattle.hook_config.specs.declared.stage.Stages.{Stages}

-- a key has to be there if its `absent` is none
pub record ConfigurationKey (A : Type 0) : Type 0 where
  pub word : List ℕ
  pub wanted : KeyKind
  pub kind : Meaning → Option A
  pub absent : Option A

-- the value at the key, or what it is if the key isn't there
abbrev pub at_key : {A : Type 0} → ConfigurationKey A → List ConfigurationRow → Option A
at_key key rows = kind_or key.kind key.absent (value_of_key key.word rows)

-- a key in the lists of known ones
abbrev pub listed : {A : Type 0} → ConfigurationKey A → List ℕ × KeyKind
listed key = (key.word, key.wanted)

-- whether one of the keys has the word
abbrev pub is_key : List (List ℕ × KeyKind) → List ℕ → Bool
is_key [] word = false
is_key (key ∷ keys) word = if bytes_eq key.0 word then true else is_key keys word

-- ---- the table at the top

abbrev pub default_stages : ConfigurationKey Stages
default_stages =
    record { word = codes "default_stages"; wanted = Texts; kind = stages_of all_stages; absent = Some all_stages }

-- these are keys of a hook too
abbrev pub files : ConfigurationKey (List ℕ)
files = record { word = codes "files"; wanted = Pattern; kind = pattern_of; absent = Some every_path }

abbrev pub exclude : ConfigurationKey (List ℕ)
exclude = record { word = codes "exclude"; wanted = Pattern; kind = pattern_of; absent = Some no_path }

abbrev pub fail_fast : ConfigurationKey Bool
fail_fast = record { word = codes "fail_fast"; wanted = Truth; kind = truth_of; absent = Some false }

abbrev pub repos : ConfigurationKey (List Meaning)
repos = record { word = codes "repos"; wanted = RequiredList; kind = list_of; absent = None }

-- the keys that are read, in their order, and then those that are read and ignored
abbrev pub top_keys : List (List ℕ × KeyKind)
top_keys =
    listed default_stages
    ∷ listed files
    ∷ listed exclude
    ∷ listed fail_fast
    ∷ listed repos
    ∷ (codes "ci", Ignored)
    ∷ (codes "default_install_hook_types", Ignored)
    ∷ (codes "default_language_version", Ignored)
    ∷ (codes "minimum_pre_commit_version", Ignored)
    ∷ []

-- ---- a repository's table

abbrev pub repo : ConfigurationKey (List ℕ)
repo = record { word = codes "repo"; wanted = RequiredText; kind = text_of; absent = None }

abbrev pub hooks : ConfigurationKey (List Meaning)
hooks = record { word = codes "hooks"; wanted = RequiredList; kind = list_of; absent = None }

abbrev pub repository_keys : List (List ℕ × KeyKind)
repository_keys = listed repo ∷ listed hooks ∷ []

-- the one repository that isn't fetched (pre-commit.com, "Repository local hooks")
abbrev pub local_word : List ℕ
local_word = codes "local"

-- ---- a hook's table

-- the tag that a file has to have if a hook's table has no `types`
abbrev pub file_word : List ℕ
file_word = codes "file"

abbrev pub log_file : ConfigurationKey (List ℕ)
log_file = record { word = codes "log_file"; wanted = Text; kind = empty_text_of; absent = Some [] }

abbrev pub additional_dependencies : ConfigurationKey (List (List ℕ))
additional_dependencies =
    record { word = codes "additional_dependencies"; wanted = Texts; kind = empty_texts_of; absent = Some [] }

abbrev pub id : ConfigurationKey (List ℕ)
id = record { word = codes "id"; wanted = RequiredText; kind = text_of; absent = None }

abbrev pub name : ConfigurationKey (List ℕ)
name = record { word = codes "name"; wanted = RequiredText; kind = text_of; absent = None }

abbrev pub alias : ConfigurationKey (List ℕ)
alias = record { word = codes "alias"; wanted = Text; kind = text_of; absent = Some [] }

abbrev pub language : ConfigurationKey LanguageName
language = record { word = codes "language"; wanted = RequiredText; kind = language_name_of; absent = None }

abbrev pub entry : ConfigurationKey (List ℕ)
entry = record { word = codes "entry"; wanted = RequiredText; kind = text_of; absent = None }

abbrev pub args : ConfigurationKey (List (List ℕ))
args = record { word = codes "args"; wanted = Texts; kind = texts_of_list; absent = Some [] }

abbrev pub types : ConfigurationKey (List (List ℕ))
types = record { word = codes "types"; wanted = Texts; kind = texts_of_list; absent = Some (file_word ∷ []) }

abbrev pub types_or : ConfigurationKey (List (List ℕ))
types_or = record { word = codes "types_or"; wanted = Texts; kind = texts_of_list; absent = Some [] }

abbrev pub exclude_types : ConfigurationKey (List (List ℕ))
exclude_types = record { word = codes "exclude_types"; wanted = Texts; kind = texts_of_list; absent = Some [] }

-- with these default stages
abbrev pub stages : Stages → ConfigurationKey Stages
stages default = record { word = codes "stages"; wanted = Texts; kind = stages_of default; absent = Some default }

abbrev pub always_run : ConfigurationKey Bool
always_run = record { word = codes "always_run"; wanted = Truth; kind = truth_of; absent = Some false }

abbrev pub verbose : ConfigurationKey Bool
verbose = record { word = codes "verbose"; wanted = Truth; kind = truth_of; absent = Some false }

abbrev pub pass_filenames : ConfigurationKey Bool
pass_filenames = record { word = codes "pass_filenames"; wanted = Truth; kind = truth_of; absent = Some true }

-- any value is accepted
abbrev pub require_serial : ConfigurationKey Bool
require_serial =
    record { word = codes "require_serial"; wanted = Ignored; kind = lenient_truth_of; absent = Some false }

-- these three are keys of this runner: pre-commit has none of them
abbrev pub x_reads : ConfigurationKey (List ℕ)
x_reads = record { word = codes "x_reads"; wanted = Pattern; kind = pattern_of; absent = Some no_path }

abbrev pub x_per_file : ConfigurationKey Bool
x_per_file = record { word = codes "x_per_file"; wanted = Truth; kind = truth_of; absent = Some false }

abbrev pub x_at_most : ConfigurationKey ℕ
x_at_most = record { word = codes "x_at_most"; wanted = NameCount; kind = name_count_of; absent = Some most_names }

-- the keys that are read, in their order, and then those whose value may be anything
abbrev pub hook_keys : List (List ℕ × KeyKind)
hook_keys =
    listed log_file
    ∷ listed additional_dependencies
    ∷ listed id
    ∷ listed name
    ∷ listed alias
    ∷ listed language
    ∷ listed entry
    ∷ listed args
    ∷ listed files
    ∷ listed exclude
    ∷ listed types
    ∷ listed types_or
    ∷ listed exclude_types
    ∷ listed (stages all_stages)
    ∷ listed always_run
    ∷ listed verbose
    ∷ listed pass_filenames
    ∷ listed fail_fast
    ∷ listed x_reads
    ∷ listed x_per_file
    ∷ listed x_at_most
    ∷ (codes "language_version", Ignored)
    ∷ (codes "minimum_pre_commit_version", Ignored)
    ∷ listed require_serial
    ∷ (codes "description", Ignored)
    ∷ []

-- ---- for contracts of functions that hold these lists

-- the rows of a slice
abbrev pub rows_of_known_keys : List (Bor (List ℕ) × KeyKind) → List (List ℕ × KeyKind)
rows_of_known_keys keys = map (λ (key : Bor (List ℕ) × KeyKind). (key.0.now, key.1)) keys
