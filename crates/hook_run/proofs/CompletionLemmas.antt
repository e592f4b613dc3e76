-- Each plan can be completed, after any outcome of the child that it needs.
use Rattle.std.proofs.Common.{◌≡◌, refl, ℕ, Bool, false, List, [], ◌∷◌, ◌++◌, Option, None, Some}
use Rattle.hook_base.specs.declared.file.File.{File}
use Rattle.child_port.specs.Outcomes.{after_outcome}
use Rattle.child_port.specs.Seen.{seen_of}
use Rattle.child_port.specs.declared.answer.Outcome.{Outcome}
use Rattle.child_port.specs.declared.answer.Outcome.TheVariants.{Failed}
use Rattle.child_port.specs.declared.fault.Fault.TheVariants.{NotStarted}
use Rattle.hook_config.specs.declared.configuration.Config.{Config}
use Rattle.hook_config.specs.declared.configuration.Hook.{Hook}
use Rattle.hook_run.specs.declared.need.Need.TheVariants.{Child}
use Rattle.hook_run.specs.declared.progress.Progress.{Progress}
use Rattle.hook_run.specs.declared.run_ask.RunAsk.{RunAsk}
use Rattle.hook_run.specs.declared.run_out.RunOut.{RunOut}
use Rattle.hook_run.specs.Asks.{hooks_of_run}
use Rattle.hook_run.specs.HookRun.{further_of, sees_whole}
use Rattle.hook_run.specs.Parts.{ArePartsOf, Part, all_parts, tree_after}
use Rattle.hook_run.specs.Plans.{AtHook, AtPart, CanComplete, Completes, CompletesAt, GoesOn, GoesOnAt, Plan, command_at, gathered_with, hooks_behind_parts, left_at, need_at, need_of, out_of_plan, part_with, progress_behind, seen_at}
use Rattle.hook_run.specs.RunOuts.{IsBegun, out_of, unsteady_ids}
use Rattle.hook_run.specs.PlanStates.{on_tree}
use Rattle.hook_run.proofs.PlanLemmas.{part-told}
use Rattle.hook_run.proofs.SomeRunLemmas.{AllAnswered, answered_run, some_run, told-append}

-- ---- what may go on

-- the children of these parts all fail, and leave the tree as it is
abbrev pub AllFailed : List Part → Type 0
AllFailed parts = AllAnswered (λ _ _. Failed NotStarted) parts

pub record SomeParts (whole : Bool) (further : List File → List (List ℕ)) (commands : List (List (List ℕ))) (tree : List File) : Type 0 where
  pub parts : List Part
  pub are : ArePartsOf whole further commands tree parts
  pub failed : AllFailed parts

pub some-parts : (whole : Bool) (further : List File → List (List ℕ)) (commands : List (List (List ℕ))) (tree : List File) → SomeParts whole further commands tree
some-parts whole further [] tree = record { parts = []; are = tt; failed = tt }
some-parts whole further (words ∷ commands) tree =
    let rest = some-parts whole further commands tree in
    record {
      parts = record { words = words; seen = seen_of words (further tree) whole tree; outcome = Failed NotStarted; unsteady = false } ∷ rest.parts;
      are = (refl, refl, rest.are);
      failed = (refl, rest.failed);
    }

record SomeGoing (config : Config) (ask : RunAsk) (done : Progress) (hooks : List Hook) : Type 0 where
  parts : List Part
  out : RunOut
  goes : GoesOn config ask done hooks parts out
  failed : AllFailed parts

some-going : (config : Config) (ask : RunAsk) (done : Progress) (hooks : List Hook) → SomeGoing config ask done hooks
some-going config ask done hooks =
    let some = answered_run (λ _ _. Failed NotStarted) config ask done.tree hooks in
    record {
      parts = all_parts some.trace;
      out = out_of config ask (done.results ++ some.results) (tree_after done.tree some.trace) (done.unsteady ++ unsteady_ids hooks some.trace);
      goes = record { trace = some.trace; results = some.results; joined = refl; run = some.run; is = refl };
      failed = some.answered;
    }

record SomeGoingAt (config : Config) (ask : RunAsk) (done : Progress) (at : AtHook) (hooks : List Hook) : Type 0 where
  parts : List Part
  out : RunOut
  goes : GoesOnAt config ask done at hooks parts out
  failed : AllFailed parts

some-going_at : (config : Config) (ask : RunAsk) (done : Progress) (at : AtHook) (hooks : List Hook) → SomeGoingAt config ask done at hooks
some-going_at config ask done at hooks =
    let here = some-parts (sees_whole at.hook) (further_of at.hook) at.commands done.tree in
    let more = some-going config ask (progress_behind done at here.parts) (hooks_behind_parts config done at here.parts hooks) in
    record {
      parts = here.parts ++ more.parts;
      out = more.out;
      goes = record { here = here.parts; rest = more.parts; joined = refl; run = here.are; more = more.goes };
      failed = told-append _ here.parts more.parts here.failed more.failed;
    }

-- ---- a plan

record SomeCompletion (plan : Plan) (waiting : Option AtPart) (front : List Part) : Type 0 where
  rest : List Part
  out : RunOut
  completes : CompletesAt plan waiting (front ++ rest) out
  failed : AllFailed rest

some-completion : (plan : Plan) (waiting : Option AtPart) → SomeCompletion plan waiting []
some-completion plan None = record { rest = []; out = out_of_plan plan; completes = (refl, refl); failed = tt }
some-completion plan (Some at) =
    let some = some-going_at plan.config plan.ask plan.done (left_at at) plan.hooks in
    record { rest = some.parts; out = some.out; completes = some.goes; failed = some.failed }

abbrev next_part : Plan → Option AtPart → Outcome → Bool → Part
next_part plan waiting outcome unsteady =
    record { words = command_at waiting; seen = seen_at waiting plan.done.tree; outcome = outcome; unsteady = unsteady }

completion-behind : (plan : Plan) (waiting : Option AtPart) (outcome : Outcome) (unsteady : Bool) → need_at waiting ≡ Child
    → SomeCompletion plan waiting (next_part plan waiting outcome unsteady ∷ [])
completion-behind plan None outcome unsteady need = absurd (cc)
completion-behind plan (Some at) outcome unsteady need =
    let after = on_tree plan.done (after_outcome plan.done.tree outcome) in
    let told : AtHook = record { hook = at.hook; before = at.before; commands = at.behind; gathered = gathered_with at.gathered outcome unsteady } in
    let some = some-going_at plan.config plan.ask after told plan.hooks in
    record {
      rest = some.parts;
      out = some.out;
      completes = part-told plan.config plan.ask plan.done at.hook at.before at.command at.behind at.gathered plan.hooks outcome unsteady some.parts some.out some.goes;
      failed = some.failed;
    }

-- each plan can be completed
pub can-complete : (plan : Plan) → CanComplete plan []
can-complete plan =
    let some = some-completion plan plan.waiting in
    record { rest = some.rest; out = some.out; completes = some.completes }

-- by parts whose children all fail
pub record CanFail (plan : Plan) : Type 0 where
  pub rest : List Part
  pub out : RunOut
  pub completes : Completes plan rest out
  pub failed : AllFailed rest

pub can-fail : (plan : Plan) → CanFail plan
can-fail plan =
    let some = some-completion plan plan.waiting in
    record { rest = some.rest; out = some.out; completes = some.completes; failed = some.failed }

-- and after any outcome of the child that it needs
pub can-follow : (plan : Plan) (outcome : Outcome) (unsteady : Bool) → need_of plan ≡ Child → CanComplete plan (part_with plan outcome unsteady ∷ [])
can-follow plan outcome unsteady need =
    let some = completion-behind plan plan.waiting outcome unsteady need in
    record { rest = some.rest; out = some.out; completes = some.completes }

-- there is a run
pub begins-at-once : (config : Config) (ask : RunAsk) (tree : List File) → IsBegun config ask tree []
begins-at-once config ask tree =
    let some = some_run config ask tree (hooks_of_run config ask) in
    record {
      trace = some.trace;
      rest = all_parts some.trace;
      out = out_of config ask some.results (tree_after tree some.trace) (unsteady_ids (hooks_of_run config ask) some.trace);
      joined = refl;
      run = record { results = some.results; run = some.run; is = refl };
    }
