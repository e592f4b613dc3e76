-- What two runs have in common whose outcomes so far are the same. The mark of a part, whether its answer is
-- another than the cached one, is left out: it decides only the ids of unsteady hooks.
use Rattle.std.specs.Prelude.{◌≡◌, false, List, [], ◌∷◌, map}
use Rattle.child_port.specs.declared.answer.Outcome.{Outcome}
use Rattle.hook_run.specs.Parts.{Part}
use Rattle.hook_run.specs.declared.run_out.RunOut.{RunOut}

-- what became of the children of the parts, in order
abbrev pub outcomes_of : List Part → List Outcome
outcomes_of parts = map (λ part. part.outcome) parts

-- the part without its mark
abbrev pub without_unsteady_mark : Part → Part
without_unsteady_mark part = record part { unsteady = false }

-- the parts without their marks
abbrev pub without_marks : List Part → List Part
without_marks parts = map without_unsteady_mark parts

-- the two give the same, except for the ids of unsteady hooks
pub record GiveSame (first second : RunOut) : Type 0 where
  pub passed : first.passed ≡ second.passed
  pub report : first.report ≡ second.report
  pub results : first.results ≡ second.results
  pub tree : first.tree ≡ second.tree

-- What follows in two runs. Either both end and give the same, or both have a next part, with the same words
-- and the same seen files.
abbrev pub IsNextOf : RunOut → RunOut → List Part → List Part → Type 0
IsNextOf first second [] [] = GiveSame first second
IsNextOf first second (part ∷ rest) (other ∷ more) = (part.words ≡ other.words) × (part.seen ≡ other.seen)
IsNextOf first second [] (other ∷ more) = ⊥
IsNextOf first second (part ∷ rest) [] = ⊥
