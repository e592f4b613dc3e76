-- What a run gives, and a run over children and cached results.
use Rattle.std.specs.Prelude.{◌≡◌, ◌≢◌, ◌-◌, ◌^◌, ℕ, if◌then◌else◌, List, [], ◌∷◌, ◌++◌}
use Rattle.hook_base.specs.declared.file.File.{File}
use Rattle.child_port.specs.declared.answer.Outcome.{Outcome}
use Rattle.hook_config.specs.declared.configuration.Config.{Config}
use Rattle.hook_config.specs.declared.configuration.Hook.{Hook}
use Rattle.report_text.specs.Report.{report_text}
use Rattle.report_text.specs.declared.hook_result.HookResult.{HookResult}
use Rattle.result_book.specs.Contents.{Contents}
use Rattle.result_book.specs.Told.{IsTold}
use Rattle.hook_run.specs.declared.hooks_run.HooksRun.{HooksRun}
use Rattle.hook_run.specs.declared.run_ask.RunAsk.{RunAsk}
use Rattle.hook_run.specs.declared.run_out.RunOut.{RunOut}
use Rattle.hook_run.specs.declared.run_refusal.RunRefusal.{RunRefusal}
use Rattle.hook_run.specs.declared.run_refusal.RunRefusal.TheVariants.{NoSuchHook, Spent}
use Rattle.hook_run.specs.Asks.{hooks_of_run, names_of_run}
use Rattle.hook_run.specs.Answers.{AreAnswered, AreAnsweredSoFar, AreReused, HoldsCutOff}
use Rattle.hook_run.specs.Moments.{Moment}
use Rattle.hook_run.specs.Parts.{AllTold, Part, all_parts, tree_after}
use Rattle.hook_run.specs.PartsEnding.{is_unsteady}
use Rattle.hook_run.specs.Reuses.{LacksServing}
use Rattle.hook_run.specs.StageRun.{IsStageRun, has_passed}

-- the id of a hook with these parts, if it is unsteady
abbrev pub unsteady_id : Hook → List Part → List (List ℕ)
unsteady_id hook parts = if is_unsteady parts then hook.id ∷ [] else []

-- the ids of the unsteady hooks, in the order of the hooks; the trace may end before these
abbrev pub unsteady_ids : List Hook → List (List Part) → List (List ℕ)
unsteady_ids [] trace = []
unsteady_ids (hook ∷ hooks) [] = []
unsteady_ids (hook ∷ hooks) (parts ∷ trace) = unsteady_id hook parts ++ unsteady_ids hooks trace

-- what a run gives with these results, the tree that is left, and the ids of the unsteady hooks
abbrev pub out_of : Config → RunAsk → List HookResult → List File → List (List ℕ) → RunOut
out_of config ask results tree unsteady = record {
  passed = has_passed results;
  report = report_text (names_of_run config ask) results;
  results = results;
  tree = tree;
  unsteady = unsteady;
}

-- a run of the hooks that are asked for, with these parts, gives this
pub record IsRunOut (config : Config) (ask : RunAsk) (tree : List File) (trace : List (List Part))
    (out : RunOut) : Type 0 where
  pub results : List HookResult
  pub run : IsStageRun config ask tree trace results
  pub is : out ≡ out_of config ask results (tree_after tree trace) (unsteady_ids (hooks_of_run config ask) trace)

-- a run of the hooks that are asked for begins with these parts
pub record IsBegun (config : Config) (ask : RunAsk) (tree : List File) (front : List Part) : Type 0 where
  pub trace : List (List Part)
  pub rest : List Part
  pub out : RunOut
  pub joined : all_parts trace ≡ front ++ rest
  pub run : IsRunOut config ask tree trace out

-- the run has a further part after these that needs a child: the run may not use the cached result, if there
-- is one
pub record NeedsChild (remembered : Contents) (config : Config) (ask : RunAsk) (tree : List File)
    (front : List Part) : Type 0 where
  pub part : Part
  pub begun : IsBegun config ask tree (front ++ part ∷ [])
  pub lacks : LacksServing ask.reuse part.words part.seen remembered

-- A run of the hooks that are asked for, between two moments. If the children may report each result that was
-- cached before, they may report each outcome.
pub record IsRunOver (tells : List (List ℕ) → List File → Outcome → Type 0) (from to : Moment) (config : Config)
    (ask : RunAsk) (tree : List File) (out : RunOut) : Type 0 where
  pub trace : List (List Part)
  pub run : IsRunOut config ask tree trace out
  pub answered : AreAnswered tells ask.reuse from to (all_parts trace)
  pub told : IsTold tells from.remembered → AllTold tells (all_parts trace)

-- the same, with how many of its parts used a cached result
pub record IsCountedRun (tells : List (List ℕ) → List File → Outcome → Type 0) (from to : Moment) (config : Config)
    (ask : RunAsk) (tree : List File) (ran : HooksRun) : Type 0 where
  pub over : IsRunOver tells from to config ask tree ran.out
  pub reused : AreReused (all_parts over.trace) over.answered.started ran.reused

-- A run that is refused between two moments, with the parts up to there. There are none if no hook has the
-- name; otherwise a run begins with them. If it was stopped at a part, which was looked up, a run begins with
-- that one too. If the refusal is `Spent`, there is a further part that needs a child, and the children have
-- reported as many outcomes as can be counted, 2^64 - 1.
pub record IsStoppedRun (tells : List (List ℕ) → List File → Outcome → Type 0) (from to : Moment) (config : Config)
    (ask : RunAsk) (tree : List File) (refusal : RunRefusal) : Type 0 where
  pub parts : List Part
  pub answered : AreAnsweredSoFar tells ask.reuse from to parts
  pub told : IsTold tells from.remembered → AllTold tells parts
  pub no_hook : refusal ≡ NoSuchHook → (parts ≡ []) × (to ≡ from)
  pub begins : refusal ≢ NoSuchHook → IsBegun config ask tree parts
  pub cut_off : HoldsCutOff (IsBegun config ask tree) answered.done answered.stopped
  pub needs : refusal ≡ Spent → NeedsChild to.remembered config ask tree parts
  pub untold : refusal ≡ Spent → answered.last ≡ []
  pub spent : refusal ≡ Spent → to.calls ≡ 2 ^ 64 - 1
