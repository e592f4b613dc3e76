-- Why an entry and its arguments make no `Grep`: the numbers of the reasons, and the reason for an error of
-- `regex`.
use Rattle.std.specs.Prelude.{◌≡◌, ℕ}
use Rattle.builtin_hooks.specs.declared.grep_fault.GrepFault.{GrepFault}
use Rattle.builtin_hooks.specs.declared.grep_fault.GrepFault.TheVariants.{NotAPattern, BadArg, OutOfMemory}
use Rattle.builtin_hooks.specs.Search.{Search, config_of}
use Rattle.regex.specs.Failures.{IsRightKind}
use Rattle.regex.specs.Sources.{IsRefusal}
use Rattle.regex.specs.declared.error.Error.{Error}
use Rattle.regex.specs.declared.error.Error.TheVariants as library

abbrev pub grep_fault_number : GrepFault → ℕ
grep_fault_number NotAPattern = 1
grep_fault_number BadArg = 2
grep_fault_number OutOfMemory = 3

-- memory was refused, otherwise the entry isn't taken as a pattern
abbrev pub grep_fault_of_pattern : Error → GrepFault
grep_fault_of_pattern (library.Syntax error) = NotAPattern
grep_fault_of_pattern library.CompiledTooBig = NotAPattern
grep_fault_of_pattern library.Internal = NotAPattern
grep_fault_of_pattern library.OutOfMemory = OutOfMemory

-- The fault is that of an error which `regex` may give for this text, read under its flags. It is one of
-- syntax only if the grammar reads no pattern there, or one that nests too deep. It is one of size only if
-- there is a pattern.
abbrev pub IsGrepRefusal : Search → GrepFault → Type 0
IsGrepRefusal search fault =
    (error : Error) × IsRefusal (config_of search) search.text error × IsRightKind (config_of search) search.text error
    × (fault ≡ grep_fault_of_pattern error)
