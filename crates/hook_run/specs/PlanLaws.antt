-- What a plan hands out, in terms of the runs that it may become.
use Rattle.std.specs.Prelude.{◌≡◌, Bool, false, All, List, [], ◌∷◌, ◌++◌}
use Rattle.hook_base.specs.declared.file.File.{File}
use Rattle.child_port.specs.declared.answer.Outcome.{Outcome}
use Rattle.hook_config.specs.declared.configuration.Config.{Config}
use Rattle.hook_run.specs.declared.need.Need.{Need}
use Rattle.hook_run.specs.declared.need.Need.TheVariants.{Child, Over}
use Rattle.hook_run.specs.declared.run_ask.RunAsk.{RunAsk}
use Rattle.hook_run.specs.declared.run_out.RunOut.{RunOut}
use Rattle.hook_run.specs.Parts.{Part, after_parts, all_parts}
use Rattle.hook_run.specs.Plans.{Completes, IsPlanAfter, Plan, need_of, out_of_plan, part_with, seen_of_plan, tree_of_plan, words_of_plan}
use Rattle.hook_run.specs.RunOuts.{IsBegun, IsRunOut}
use Rattle.hook_run.specs.SameRuns.{GiveSame}

-- the plan comes after these parts of a run from this tree: whatever completes it, completes such a run after
-- them
abbrev pub IsPlanBehind : Config → RunAsk → List File → List Part → Plan → Type 0
IsPlanBehind config ask tree parts plan = (rest : List Part) (out : RunOut) → Completes plan rest out →
    (trace : List (List Part)) × (all_parts trace ≡ parts ++ rest) × IsRunOut config ask tree trace out

-- the outcomes of these parts led from the first plan to the last, and the plan needed a child for each
abbrev pub HasTold : Plan → List Part → Plan → Type 0
HasTold first [] last = last ≡ first
HasTold first (part ∷ parts) last =
    (after : Plan) × (need_of first ≡ Child)
    × (part ≡ part_with first part.outcome part.unsteady) × IsPlanAfter first part.outcome part.unsteady after
    × HasTold after parts last

-- The rest of a run is as the plan says. It goes on with the part that the plan needs, whatever becomes of
-- its child. Or it is over, and gives what the plan does, except for the ids of unsteady hooks.
abbrev pub IsNextBy : Plan → Need → List Part → RunOut → Type 0
IsNextBy plan Child (part ∷ rest) out = (part.words ≡ words_of_plan plan) × (part.seen ≡ seen_of_plan plan)
IsNextBy plan Over [] out = GiveSame out (out_of_plan plan)
IsNextBy plan need rest out = ⊥

-- a run from this tree has just these parts, and gives this
pub record IsWhole (config : Config) (ask : RunAsk) (tree : List File) (parts : List Part) (out : RunOut) : Type 0 where
  pub trace : List (List Part)
  pub joined : all_parts trace ≡ parts
  pub run : IsRunOut config ask tree trace out

-- The plan is what comes next in a run from this tree, after these parts. If it needs a child, that child is
-- on the tree that they leave. Whatever becomes of it, there is a run that begins with these parts and that
-- one. If the plan is over, a run with just these parts gives what it does, without unsteady hooks if no part
-- is marked. No run that begins with these parts goes on otherwise.
pub record IsWhatComesNext (config : Config) (ask : RunAsk) (tree : List File) (parts : List Part)
    (plan : Plan) : Type 0 where
  pub on_tree : tree_of_plan plan ≡ after_parts tree parts
  pub next : need_of plan ≡ Child → (outcome : Outcome) (unsteady : Bool)
      → IsBegun config ask tree (parts ++ part_with plan outcome unsteady ∷ [])
  pub over : need_of plan ≡ Over → IsWhole config ask tree parts (out_of_plan plan)
  pub steady : need_of plan ≡ Over → All (λ part. part.unsteady ≡ false) parts → (out_of_plan plan).unsteady ≡ []
  pub only : (trace : List (List Part)) (out : RunOut) (rest : List Part) → IsRunOut config ask tree trace out
      → all_parts trace ≡ parts ++ rest → IsNextBy plan (need_of plan) rest out
