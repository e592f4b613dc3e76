-- The effect of an outcome on the tree, and on the counts.
use Rattle.std.specs.Prelude.{ℕ, List}
use Rattle.child_port.specs.declared.answer.Outcome.{Outcome}
use Rattle.child_port.specs.declared.answer.Outcome.TheVariants.{Done, Failed}
use Rattle.hook_base.specs.declared.file.File.{File}
use Rattle.hook_base.specs.Trees.{apply_changes}

-- all changes of a completed child are applied; a failed one leaves the tree as it was
abbrev pub after_outcome : List File → Outcome → List File
after_outcome tree (Done answer) = apply_changes answer.changes tree
after_outcome tree (Failed fault) = tree

-- the number of faults in an outcome
abbrev pub faults_in : Outcome → ℕ
faults_in (Done answer) = 0
faults_in (Failed fault) = 1
