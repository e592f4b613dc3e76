-- Why a text isn't taken as a pattern, and the numbers of the reasons.
use Rattle.std.specs.Prelude.{◌≡◌, ℕ, List}
use Rattle.regex.specs.declared.error.Error.{Error}
use Rattle.regex.specs.declared.error.Error.TheVariants as refused
use Rattle.regex.specs.Failures.{IsRightKind}
use Rattle.regex.specs.Sources.{IsRefusal}
use Rattle.regex.specs.Patterns.{default_config}
use Rattle.path_select.specs.declared.pattern_fault.PatternFault.{PatternFault}
use Rattle.path_select.specs.declared.pattern_fault.PatternFault.TheVariants.{NotAPattern, OutOfMemory}

abbrev pub pattern_fault_number : PatternFault → ℕ
pattern_fault_number NotAPattern = 1
pattern_fault_number OutOfMemory = 2

-- want of memory is one refusal, and every other error of `regex` is the other
abbrev pub pattern_fault_of : Error → PatternFault
pattern_fault_of refused.OutOfMemory = OutOfMemory
pattern_fault_of (refused.Syntax error) = NotAPattern
pattern_fault_of refused.CompiledTooBig = NotAPattern
pattern_fault_of refused.Internal = NotAPattern

-- The fault is that of an error which `regex` may give for this text. It is one of syntax only if the grammar
-- reads no pattern there, or one that nests too deep. It is one of size only if there is a pattern.
abbrev pub IsPatternRefusal : List ℕ → PatternFault → Type 0
IsPatternRefusal text fault =
    (error : Error) × IsRefusal default_config text error × IsRightKind default_config text error
    × (fault ≡ pattern_fault_of error)
