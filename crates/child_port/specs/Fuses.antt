-- What children report if one of their calls fails.
use Rattle.std.specs.Prelude.{◌≡◌, ◌⊎◌, ℕ, List}
use Rattle.child_port.specs.declared.answer.Outcome.{Outcome}
use Rattle.child_port.specs.declared.answer.Outcome.TheVariants.{Failed}
use Rattle.child_port.specs.declared.fault.Fault.{Fault}
use Rattle.hook_base.specs.declared.file.File.{File}

-- what these children report, or the fault
abbrev pub FuseTells : (List (List ℕ) → List File → Outcome → Type 0) → Fault → List (List ℕ) → List File → Outcome
    → Type 0
FuseTells tells fault words seen outcome = tells words seen outcome ⊎ (outcome ≡ Failed fault)
