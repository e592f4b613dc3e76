-- A plan of a run: how far it is, what it needs, and what completes it. The outcomes of the hook that waits
-- are gathered, so none of them is kept.
use Rattle.std.specs.Prelude.{◌≡◌, ℕ, Bool, false, ◌||◌, max, if◌then◌else◌, List, [], ◌∷◌, ◌++◌, Option, None, Some}
use Rattle.hook_base.specs.declared.file.File.{File}
use Rattle.child_port.specs.Seen.{seen_of}
use Rattle.child_port.specs.declared.answer.Outcome.{Outcome}
use Rattle.hook_config.specs.declared.configuration.Config.{Config}
use Rattle.hook_config.specs.declared.configuration.Hook.{Hook}
use Rattle.report_text.specs.declared.hook_result.Ending.{Ending}
use Rattle.report_text.specs.declared.hook_result.Ending.TheVariants.{Ran}
use Rattle.report_text.specs.declared.hook_result.HookResult.{HookResult}
use Rattle.hook_run.specs.declared.part_totals.PartTotals.{PartTotals}
use Rattle.hook_run.specs.declared.need.Need.{Need}
use Rattle.hook_run.specs.declared.need.Need.TheVariants.{Child, Over}
use Rattle.hook_run.specs.declared.progress.Progress.{Progress}
use Rattle.hook_run.specs.declared.run_ask.RunAsk.{RunAsk}
use Rattle.hook_run.specs.declared.run_out.RunOut.{RunOut}
use Rattle.hook_run.specs.HookRun.{further_of, sees_whole}
use Rattle.hook_run.specs.Parts.{ArePartsOf, Part, after_parts, all_parts, tree_after}
use Rattle.hook_run.specs.PartsEnding.{is_modified, line_faults_in, output_in, status_in}
use Rattle.hook_run.specs.RunOuts.{IsRunOut, out_of, unsteady_ids}
use Rattle.hook_run.specs.StageRun.{IsRun, is_last}

-- ---- between two hooks

-- a run goes on with these hooks and parts, and gives this in the end
pub record GoesOn (config : Config) (ask : RunAsk) (done : Progress) (hooks : List Hook) (parts : List Part)
    (out : RunOut) : Type 0 where
  pub trace : List (List Part)
  pub results : List HookResult
  pub joined : parts ≡ all_parts trace
  pub run : IsRun config ask done.tree hooks trace results
  pub is : out ≡ out_of config ask (done.results ++ results) (tree_after done.tree trace)
      (done.unsteady ++ unsteady_ids hooks trace)

-- the result of a hook that ends so
abbrev pub result_of : Hook → Ending → HookResult
result_of hook ending = record { name = hook.name; id = hook.id; verbose = hook.verbose; ending = ending }

-- the hooks that are run after this one, of those that follow it (`pre_commit.commands.run._run_hooks`)
abbrev pub hooks_after : Config → Hook → Ending → List Hook → List Hook
hooks_after config hook ending hooks = if is_last config hook ending then [] else hooks

-- ---- at a hook with children

abbrev pub nothing_gathered : PartTotals
nothing_gathered = record { status = 0; faults = []; output = []; unsteady = false }

abbrev pub gathered_with : PartTotals → Outcome → Bool → PartTotals
gathered_with so_far outcome unsteady = record {
  status = max so_far.status (status_in outcome);
  faults = so_far.faults ++ line_faults_in outcome;
  output = so_far.output ++ output_in outcome;
  unsteady = so_far.unsteady || unsteady;
}

abbrev pub gathered_parts : PartTotals → List Part → PartTotals
gathered_parts so_far [] = so_far
gathered_parts so_far (part ∷ parts) = gathered_parts (gathered_with so_far part.outcome part.unsteady) parts

-- how a hook ends that began on the tree `before` and left the tree `after`
abbrev pub ending_of_gathered : PartTotals → List File → List File → Ending
ending_of_gathered all before after = Ran all.status all.faults (is_modified before after) all.output

abbrev pub id_of_gathered : Hook → PartTotals → List (List ℕ)
id_of_gathered hook all = if all.unsteady then hook.id ∷ [] else []

-- the progress of the run after a hook that ends so
abbrev pub progress_with : Progress → Hook → Ending → List (List ℕ) → List File → Progress
progress_with done hook ending unsteady tree = record {
  results = done.results ++ result_of hook ending ∷ [];
  unsteady = done.unsteady ++ unsteady;
  tree = tree;
}

-- a hook that has begun: the tree on which it began, the commands of the parts that are left, and what the
-- parts before them gathered
pub record AtHook : Type 0 where
  pub hook : Hook
  pub before : List File
  pub commands : List (List (List ℕ))
  pub gathered : PartTotals

-- a hook with a part that waits for its outcome: the command of that part, and those of the parts after it
pub record AtPart : Type 0 where
  pub hook : Hook
  pub before : List File
  pub command : List (List ℕ)
  pub behind : List (List (List ℕ))
  pub gathered : PartTotals

-- the hook, with that part among those that are left
abbrev pub left_at : AtPart → AtHook
left_at at = record { hook = at.hook; before = at.before; commands = at.command ∷ at.behind; gathered = at.gathered }

-- the progress of the run once the hook has these further parts
abbrev pub progress_behind : Progress → AtHook → List Part → Progress
progress_behind done at parts =
    progress_with done at.hook (ending_of_gathered (gathered_parts at.gathered parts) at.before
    (after_parts done.tree parts))
    (id_of_gathered at.hook (gathered_parts at.gathered parts)) (after_parts done.tree parts)

abbrev pub hooks_behind_parts : Config → Progress → AtHook → List Part → List Hook → List Hook
hooks_behind_parts config done at parts hooks =
    hooks_after config at.hook (ending_of_gathered (gathered_parts at.gathered parts) at.before
    (after_parts done.tree parts)) hooks

-- the hook goes on with parts of the commands that are left, and then the run goes on
pub record GoesOnAt (config : Config) (ask : RunAsk) (done : Progress) (at : AtHook) (hooks : List Hook)
    (parts : List Part) (out : RunOut) : Type 0 where
  pub here : List Part
  pub rest : List Part
  pub joined : parts ≡ here ++ rest
  pub run : ArePartsOf (sees_whole at.hook) (further_of at.hook) at.commands done.tree here
  pub more : GoesOn config ask (progress_behind done at here) (hooks_behind_parts config done at here hooks) rest out

-- ---- a plan

-- a plan has a hook with a part that waits, and the hooks after it; or it is over
pub record Plan : Type 0 where
  pub config : Config
  pub ask : RunAsk
  pub done : Progress
  pub waiting : Option AtPart
  pub hooks : List Hook

abbrev pub need_at : Option AtPart → Need
need_at None = Over
need_at (Some at) = Child

-- what the plan needs
abbrev pub need_of : Plan → Need
need_of plan = need_at plan.waiting

abbrev pub command_at : Option AtPart → List (List ℕ)
command_at None = []
command_at (Some at) = at.command

-- the command of the part that the plan needs, with its names
abbrev pub words_of_plan : Plan → List (List ℕ)
words_of_plan plan = command_at plan.waiting

abbrev pub seen_at : Option AtPart → List File → List File
seen_at None tree = []
seen_at (Some at) tree = seen_of at.command (further_of at.hook tree) (sees_whole at.hook) tree

-- the files that the child of that part sees, of the tree that it runs on
abbrev pub seen_of_plan : Plan → List File
seen_of_plan plan = seen_at plan.waiting plan.done.tree

-- the tree that the child of that part runs on
abbrev pub tree_of_plan : Plan → List File
tree_of_plan plan = plan.done.tree

-- what a plan gives that is over
abbrev pub out_of_plan : Plan → RunOut
out_of_plan plan = out_of plan.config plan.ask plan.done.results plan.done.tree plan.done.unsteady

abbrev pub CompletesAt : Plan → Option AtPart → List Part → RunOut → Type 0
CompletesAt plan None parts out = (parts ≡ []) × (out ≡ out_of_plan plan)
CompletesAt plan (Some at) parts out = GoesOnAt plan.config plan.ask plan.done (left_at at) plan.hooks parts out

-- These parts complete the plan, which then gives this. There are none if it is over. Otherwise they are the
-- parts of the hook that waits, beginning with the one that the plan needs, and those of the hooks after it.
abbrev pub Completes : Plan → List Part → RunOut → Type 0
Completes plan parts out = CompletesAt plan plan.waiting parts out

-- some parts that begin with these complete the plan
pub record CanComplete (plan : Plan) (front : List Part) : Type 0 where
  pub rest : List Part
  pub out : RunOut
  pub completes : Completes plan (front ++ rest) out

-- the part that the plan needs, with this outcome
abbrev pub part_with : Plan → Outcome → Bool → Part
part_with plan outcome unsteady =
    record { words = words_of_plan plan; seen = seen_of_plan plan; outcome = outcome; unsteady = unsteady }

-- whatever completes the plan is a run from this tree
abbrev pub IsPlanOf : Config → RunAsk → List File → Plan → Type 0
IsPlanOf config ask tree plan = (parts : List Part) (out : RunOut) → Completes plan parts out →
    (trace : List (List Part)) × (all_parts trace ≡ parts) × IsRunOut config ask tree trace out

-- whatever completes the plan `after` completes `plan` too, if the part with the outcome comes first
abbrev pub IsPlanAfter : Plan → Outcome → Bool → Plan → Type 0
IsPlanAfter plan outcome unsteady after = (parts : List Part) (out : RunOut) → Completes after parts out →
    Completes plan (part_with plan outcome unsteady ∷ parts) out
