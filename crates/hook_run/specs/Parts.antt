-- The parts of a run: each is one child of a hook, with what became of it. A trace has, for each hook, its
-- parts in order. Only `AllTold` says which outcomes children may report, and only `Starts` what is started
-- and cached.
use Rattle.std.specs.Prelude.{◌≡◌, ℕ, ◌+◌, Bool, List, [], ◌∷◌, ◌++◌}
use Rattle.hook_base.specs.declared.file.File.{File}
use Rattle.child_port.specs.declared.answer.Outcome.{Outcome}
use Rattle.child_port.specs.Outcomes.{after_outcome, faults_in}
use Rattle.child_port.specs.Seen.{seen_of}

-- The words of a command, the files that its child sees, and what became of it. `unsteady` is the mark of a
-- part: it says whether the outcome is another answer than the cached one.
pub record Part : Type 0 where
  pub words : List (List ℕ)
  pub seen : List File
  pub outcome : Outcome
  pub unsteady : Bool

-- the tree after these parts, in order
abbrev pub after_parts : List File → List Part → List File
after_parts tree [] = tree
after_parts tree (part ∷ parts) = after_parts (after_outcome tree part.outcome) parts

-- The parts are those of these commands, in order. The child of each sees files of the tree that the part
-- before it left: all of them if `whole`. Otherwise it sees those that its words name and those that
-- `further` gives for that tree. Any outcome is possible.
abbrev pub ArePartsOf : Bool → (List File → List (List ℕ)) → List (List (List ℕ)) → List File → List Part → Type 0
ArePartsOf whole further [] tree [] = Unit {0}
ArePartsOf whole further (words ∷ commands) tree (part ∷ parts) =
    (part.words ≡ words) × (part.seen ≡ seen_of words (further tree) whole tree)
    × ArePartsOf whole further commands (after_outcome tree part.outcome) parts
ArePartsOf whole further _ tree _ = ⊥

-- the parts of all hooks of a trace, in order
abbrev pub all_parts : List (List Part) → List Part
all_parts [] = []
all_parts (parts ∷ trace) = parts ++ all_parts trace

-- the tree that a run leaves
abbrev pub tree_after : List File → List (List Part) → List File
tree_after tree trace = after_parts tree (all_parts trace)

-- every outcome may be reported for the words and seen files of its part
abbrev pub AllTold : (List (List ℕ) → List File → Outcome → Type 0) → List Part → Type 0
AllTold tells [] = Unit {0}
AllTold tells (part ∷ parts) = tells part.words part.seen part.outcome × AllTold tells parts

-- how many of the parts are faults
abbrev pub faults_of : List Part → ℕ
faults_of [] = 0
faults_of (part ∷ parts) = faults_in part.outcome + faults_of parts
