-- The numbers of the reasons why a text can't be cut into words (docs/REFERENCE.md, "The words of an entry").
use Rattle.std.specs.Prelude.{ℕ}
use Rattle.arg_partition.specs.declared.words_fault.WordsFault.{WordsFault}
use Rattle.arg_partition.specs.declared.words_fault.WordsFault.TheVariants.{OpenQuote, NothingEscaped, OutOfMemory}

abbrev pub words_fault_number : WordsFault → ℕ
words_fault_number OpenQuote = 1
words_fault_number NothingEscaped = 2
words_fault_number OutOfMemory = 3
