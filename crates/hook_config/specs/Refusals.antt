-- The numbers and the printed names of a configuration's refusals, and what the faults of other crates
-- become.
use Rattle.std.specs.Prelude.{◌≡◌, ◌≤◌, ◌+◌, ℕ, List, codes, length}
use Rattle.yaml_lines.specs.Characters.{most_bytes}
use Rattle.yaml_lines.specs.Faults.{too_large as too_large_text}
use Rattle.yaml_lines.specs.declared.fault.YamlFault.{YamlFault}
use Rattle.yaml_lines.specs.declared.fault.YamlKind.{YamlKind}
use Rattle.yaml_lines.specs.declared.fault.YamlKind.TheVariants.{NotUtf8, TabIndent, Unsupported as NotSupported, Layout, Quote, DoubledKey, TooDeep, TooLarge, OutOfMemory as YamlOutOfMemory}
use Rattle.builtin_hooks.specs.declared.grep_fault.GrepFault.{GrepFault}
use Rattle.builtin_hooks.specs.declared.grep_fault.GrepFault.TheVariants as grep
use Rattle.path_select.specs.declared.pattern_fault.PatternFault.{PatternFault}
use Rattle.path_select.specs.declared.pattern_fault.PatternFault.TheVariants.{NotAPattern, OutOfMemory as PatternOutOfMemory}
use Rattle.arg_partition.specs.declared.words_fault.WordsFault.{WordsFault}
use Rattle.arg_partition.specs.declared.words_fault.WordsFault.TheVariants as words
use Rattle.hook_config.specs.declared.config_fault.ConfigFault.{ConfigFault}
use Rattle.hook_config.specs.declared.config_fault.ConfigKind.{ConfigKind}
use Rattle.hook_config.specs.declared.config_fault.ConfigKind.TheVariants.{Yaml, Shape, MissingKey, BadStage, BadLanguage, RemoteRepo, BadPattern, BadEntry, BadArgs, Unsupported, TooMany, OutOfMemory}

abbrev pub configuration_fault_number : ConfigKind → ℕ
configuration_fault_number (Yaml fault) = 1
configuration_fault_number Shape = 2
configuration_fault_number MissingKey = 3
configuration_fault_number BadStage = 4
configuration_fault_number BadLanguage = 5
configuration_fault_number RemoteRepo = 6
configuration_fault_number BadPattern = 7
configuration_fault_number BadEntry = 8
configuration_fault_number BadArgs = 9
configuration_fault_number Unsupported = 10
configuration_fault_number TooMany = 11
configuration_fault_number OutOfMemory = 12

abbrev pub configuration_fault_name : ConfigKind → List ℕ
configuration_fault_name (Yaml fault) = codes "Yaml"
configuration_fault_name Shape = codes "Shape"
configuration_fault_name MissingKey = codes "MissingKey"
configuration_fault_name BadStage = codes "BadStage"
configuration_fault_name BadLanguage = codes "BadLanguage"
configuration_fault_name RemoteRepo = codes "RemoteRepo"
configuration_fault_name BadPattern = codes "BadPattern"
configuration_fault_name BadEntry = codes "BadEntry"
configuration_fault_name BadArgs = codes "BadArgs"
configuration_fault_name Unsupported = codes "Unsupported"
configuration_fault_name TooMany = codes "TooMany"
configuration_fault_name OutOfMemory = codes "OutOfMemory"

-- a fault of the text, at its line
abbrev pub in_line : YamlFault → ConfigFault
in_line fault = record { kind = Yaml fault; at = fault.line }

-- a refusal of memory has no line
abbrev pub refusal_of_yaml : YamlKind → YamlFault → ConfigFault
refusal_of_yaml NotUtf8 fault = in_line fault
refusal_of_yaml TabIndent fault = in_line fault
refusal_of_yaml NotSupported fault = in_line fault
refusal_of_yaml Layout fault = in_line fault
refusal_of_yaml Quote fault = in_line fault
refusal_of_yaml DoubledKey fault = in_line fault
refusal_of_yaml TooDeep fault = in_line fault
refusal_of_yaml TooLarge fault = in_line fault
refusal_of_yaml YamlOutOfMemory fault = record { kind = OutOfMemory; at = 0 }

-- what a fault of the text is as a refusal of the configuration
abbrev pub of_yaml : YamlFault → ConfigFault
of_yaml fault = refusal_of_yaml fault.kind fault

-- what a fault of a pattern is as a refusal of the configuration
abbrev pub of_pattern : PatternFault → ConfigKind
of_pattern NotAPattern = BadPattern
of_pattern PatternOutOfMemory = OutOfMemory

-- what a fault of an entry and its arguments is as a refusal of the configuration
abbrev pub of_grep : GrepFault → ConfigKind
of_grep grep.NotAPattern = BadPattern
of_grep grep.BadArg = BadArgs
of_grep grep.OutOfMemory = OutOfMemory

-- what a fault of an entry's words is as a refusal of the configuration
abbrev pub of_words : WordsFault → ConfigKind
of_words words.OpenQuote = BadEntry
of_words words.NothingEscaped = BadEntry
of_words words.OutOfMemory = OutOfMemory

-- the refusal of a text that has too many bytes
abbrev pub too_large_configuration : ConfigFault
too_large_configuration = in_line too_large_text

-- more bytes than a text may have give this refusal
abbrev pub TellsLargeConfiguration : List ℕ → ConfigFault → Type 0
TellsLargeConfiguration bytes fault = most_bytes + 1 ≤ length bytes → fault ≡ too_large_configuration
