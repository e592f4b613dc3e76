-- The numbers of the reasons why a text isn't a path (docs/REFERENCE.md, "Paths").
use Rattle.std.specs.Prelude.{ℕ}
use Rattle.hook_base.specs.declared.path_fault.PathFault.{PathFault}
use Rattle.hook_base.specs.declared.path_fault.PathFault.TheVariants.{Empty, Absolute, DotPart, EmptyPart, TooLong, ControlByte, UnderGit, OutOfMemory}

abbrev pub path_fault_number : PathFault → ℕ
path_fault_number Empty = 1
path_fault_number Absolute = 2
path_fault_number DotPart = 3
path_fault_number EmptyPart = 4
path_fault_number TooLong = 5
path_fault_number ControlByte = 6
path_fault_number UnderGit = 7
path_fault_number OutOfMemory = 8
