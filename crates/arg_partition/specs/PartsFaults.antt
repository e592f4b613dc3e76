-- The numbers of the reasons why a command can't be cut into parts (docs/REFERENCE.md, "The parts of a
-- command").
use Rattle.std.specs.Prelude.{ℕ}
use Rattle.arg_partition.specs.declared.parts_fault.PartsFault.{PartsFault}
use Rattle.arg_partition.specs.declared.parts_fault.PartsFault.TheVariants.{TooLong, OutOfMemory}

abbrev pub parts_fault_number : PartsFault → ℕ
parts_fault_number (TooLong index) = 1
parts_fault_number OutOfMemory = 2
