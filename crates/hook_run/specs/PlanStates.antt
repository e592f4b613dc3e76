-- How far a plan is, as the code holds it. Used only by private functions.
use Rattle.std.specs.Prelude.{◌≡◌, ◌+◌, ◌≤◌, All, ℕ, Bool, false, not, ◌&&◌, if◌then◌else◌, List, [], ◌∷◌, drop, map, Option, None, Some}
use Rattle.std.specs.List.{AllByRecursion as Each}
use Rattle.std.specs.Str.{bytes_eq}
use Rattle.hook_base.specs.declared.file.File.{File}
use Rattle.child_port.specs.declared.answer.Outcome.{Outcome}
use Rattle.child_port.specs.Seen.{seen_of}
use Rattle.hook_config.specs.Patterns.{no_path}
use Rattle.hook_config.specs.declared.configuration.Config.{Config}
use Rattle.report_text.specs.Report.{columns_of, report_text, width_of}
use Rattle.report_text.specs.declared.hook_result.Ending.{Ending}
use Rattle.hook_config.specs.declared.configuration.Hook.{Hook}
use Rattle.path_select.specs.Candidates.{ArePassing, is_candidate}
use Rattle.path_select.specs.Patterns.{is_found}
use Rattle.report_text.specs.declared.hook_result.HookResult.{HookResult}
use Rattle.hook_run.specs.declared.run_context.RunContext.{RunContext}
use Rattle.hook_run.specs.declared.part_totals.PartTotals.{PartTotals}
use Rattle.hook_run.specs.declared.progress.Progress.{Progress}
use Rattle.hook_run.specs.declared.run_ask.RunAsk.{RunAsk}
use Rattle.hook_run.specs.declared.run_out.RunOut.{RunOut}
use Rattle.hook_run.specs.declared.hook_state.HookState.{HookState}
use Rattle.hook_run.specs.declared.hook_state.HookState.TheVariants as begun
use Rattle.hook_run.specs.declared.pending_part.PendingPart.{PendingPart}
use Rattle.hook_run.specs.declared.running_hook.RunningHook.{RunningHook}
use Rattle.hook_run.specs.declared.plan_state.PlanState.{PlanState}
use Rattle.hook_run.specs.declared.plan_state.PlanState.TheVariants.{Waits, Over}
use Rattle.hook_run.specs.Asks.{hooks_of_run, names_of_run}
use Rattle.hook_run.specs.CandidateFiles.{files_at}
use Rattle.hook_run.specs.HookRun.{IsEnding, commands_of, further_of, sees_whole}
use Rattle.hook_run.specs.Parts.{ArePartsOf, Part}
use Rattle.hook_run.specs.PartsEnding.{ending_of_parts}
use Rattle.hook_run.specs.Plans.{AtHook, AtPart, Completes, GoesOn, GoesOnAt, Plan, ending_of_gathered, hooks_after, left_at, nothing_gathered, progress_with}

-- the names of all hooks that the run goes through
abbrev pub names_of_hooks : RunContext → List (List ℕ)
names_of_hooks course = map (λ hook. hook.now.name) course.hooks.items

-- the hooks are those of the run, the candidates those that pass the patterns of the configuration, and the
-- columns as many as the hooks' names need
pub record IsCourse (course : RunContext) : Type 0 where
  pub asked : map (λ hook. hook.now) course.hooks.items ≡ hooks_of_run course.config.now course.ask.now
  pub passing : ArePassing course.config.now.files course.config.now.exclude course.ask.now.candidates course.among
  pub columns : course.columns ≡ columns_of (names_of_hooks course)

-- the hooks from a place on
abbrev pub hooks_from : RunContext → ℕ → List Hook
hooks_from course place = map (λ hook. hook.now) (drop place course.hooks.items)

-- a hook that has begun
abbrev pub at_work : RunningHook → AtHook
at_work work = record {
  hook = work.hook.now;
  before = work.before;
  commands = commands_of work.words work.names (drop work.begun work.cuts);
  gathered = work.gathered;
}

-- a hook with a part that waits
abbrev pub at_part : PendingPart → AtPart
at_part waiting = record {
  hook = waiting.work.hook.now;
  before = waiting.work.before;
  command = waiting.command;
  behind = commands_of waiting.work.words waiting.work.names (drop waiting.work.begun waiting.work.cuts);
  gathered = waiting.work.gathered;
}

-- the hook, with that part among those that are left
abbrev pub at_hook : PendingPart → AtHook
at_hook waiting = left_at (at_part waiting)

abbrev pub waiting_at : PlanState → Option AtPart
waiting_at (Waits waiting) = Some (at_part waiting)
waiting_at (Over report) = None

-- the same, with other things gathered
abbrev pub with_gathered : AtHook → PartTotals → AtHook
with_gathered at all = record { hook = at.hook; before = at.before; commands = at.commands; gathered = all }

-- the hook's pattern of further files is found in the path
abbrev pub finds : Hook → List ℕ → Bool
finds hook path = not (bytes_eq hook.x_reads no_path) && is_found hook.x_reads path

-- The files of the tree at these paths are its further files. At some paths it may hold nothing: they are
-- those of the tree on which the hook began, and parts may have removed files.
abbrev pub AreFurther : Hook → List (List ℕ) → List File → Type 0
AreFurther hook paths tree = Each (λ row. is_candidate paths row.path ≡ finds hook row.path) tree

-- what the child of the next part sees is taken from this tree, whose further files are at the paths that are
-- kept
abbrev pub IsSeenOn : List File → PendingPart → Type 0
IsSeenOn tree waiting =
    (waiting.seen ≡ seen_of waiting.command (further_of waiting.work.hook.now tree) (sees_whole waiting.work.hook.now)
    tree)
    × AreFurther waiting.work.hook.now waiting.work.further tree

-- the part that waits, with this outcome
abbrev pub part_at : PendingPart → List File → Outcome → Bool → Part
part_at waiting tree outcome unsteady = record {
  words = waiting.command;
  seen = seen_of waiting.command (further_of waiting.work.hook.now tree) (sees_whole waiting.work.hook.now) tree;
  outcome = outcome;
  unsteady = unsteady;
}

-- what is stored for callers is what is defined
abbrev pub IsStored : Config → RunAsk → Progress → PlanState → Type 0
IsStored config ask done (Waits waiting) = IsSeenOn done.tree waiting
IsStored config ask done (Over report) = report ≡ report_text (names_of_run config ask) done.results

-- ---- the columns of the report

-- the report is wide enough for the name
abbrev pub FitsName : RunContext → List ℕ → Type 0
FitsName course name = width_of name + 30 ≤ columns_of (names_of_hooks course)

abbrev pub FitsResults : RunContext → List HookResult → Type 0
FitsResults course results = All (λ one. width_of one.name + 30 ≤ columns_of (names_of_hooks course)) results

abbrev pub FitsAt : RunContext → PlanState → Type 0
FitsAt course (Waits waiting) = FitsName course waiting.work.hook.now.name
FitsAt course (Over report) = Unit {0}

-- ---- how a hook begins

-- parts of the commands that are left, from this tree on, end the hook with what they give
pub record IsFirstOf (EndsWith : List Part → Ending → Type 0) (hook : Hook) (tree : List File)
    (at : AtHook) : Type 0 where
  pub of_hook : at.hook ≡ hook
  pub before : at.before ≡ tree
  pub gathered : at.gathered ≡ nothing_gathered
  pub ended : (parts : List Part) → ArePartsOf (sees_whole hook) (further_of hook) at.commands tree parts
      → EndsWith parts (ending_of_parts tree parts)

-- a hook that begins on the tree has ended without a child, or the first of its parts waits
abbrev pub HasBegun : (List Part → Ending → Type 0) → Hook → List File → HookState → Type 0
HasBegun EndsWith hook tree (begun.Ended ending unsteady) = EndsWith [] ending × (unsteady ≡ false)
HasBegun EndsWith hook tree (begun.Waits waiting) =
    IsFirstOf EndsWith hook tree (at_hook waiting) × IsSeenOn tree waiting

-- these hooks begin so on the tree, as far as it was found ahead
abbrev pub AreBegunAhead : Config → RunAsk → List File → List Hook → List HookState → Type 0
AreBegunAhead config ask tree hooks [] = Unit {0}
AreBegunAhead config ask tree [] (state ∷ states) = Unit {0}
AreBegunAhead config ask tree (hook ∷ hooks) (state ∷ states) =
    HasBegun (IsEnding config ask tree hook) hook tree state × AreBegunAhead config ask tree hooks states

-- ---- a plan

-- how the fields of a plan belong together
pub record IsPlanned (course : RunContext) (done : Progress) (files : List File) (place : ℕ) (standing : PlanState)
    (ahead : List HookState) : Type 0 where
  pub fits : FitsResults course done.results
  pub fits_at : FitsAt course standing
  pub planned : IsCourse course
  pub held : files ≡ files_at course.ask.now.candidates done.tree
  pub stored : IsStored course.config.now course.ask.now done standing
  pub begun : AreBegunAhead course.config.now course.ask.now done.tree (hooks_from course place) ahead

-- ---- how a hook goes on

-- the hook has ended if no command is left; otherwise the next part waits
abbrev pub HasGoneOn : AtHook → List File → HookState → Type 0
HasGoneOn at tree (begun.Ended ending unsteady) =
    (at.commands ≡ []) × (ending ≡ ending_of_gathered at.gathered at.before tree) × (unsteady ≡ at.gathered.unsteady)
HasGoneOn at tree (begun.Waits waiting) = (at_hook waiting ≡ at) × IsSeenOn tree waiting

-- ---- what finished hooks left

abbrev pub id_if : Bool → Hook → List (List ℕ)
id_if unsteady hook = if unsteady then hook.id ∷ [] else []

-- the same on another tree
abbrev pub on_tree : Progress → List File → Progress
on_tree done tree = record { results = done.results; unsteady = done.unsteady; tree = tree }

-- whatever completes the plan goes on so
abbrev pub GoesOnSo : (List Part → RunOut → Type 0) → Plan → Type 0
GoesOnSo Goes plan = (parts : List Part) (out : RunOut) → Completes plan parts out → Goes parts out

-- whatever completes the plan goes on from what is done, with the hooks from a place on
abbrev pub IsPlanFrom : RunContext → Progress → ℕ → Plan → Type 0
IsPlanFrom course done place plan =
    GoesOnSo (GoesOn course.config.now course.ask.now done (hooks_from course place)) plan

-- the same at a hook that goes on so, followed by the hooks from a place on
abbrev pub IsPlanAt : RunContext → Progress → ℕ → AtHook → Plan → Type 0
IsPlanAt course done place at plan =
    GoesOnSo (GoesOnAt course.config.now course.ask.now done at (hooks_from course place)) plan

-- the same after a hook that ends so
abbrev pub IsPlanBehindHook : RunContext → Progress → ℕ → Hook → Ending → Bool → Plan → Type 0
IsPlanBehindHook course done place hook ending unsteady plan = GoesOnSo
    (GoesOn course.config.now course.ask.now (progress_with done hook ending (id_if unsteady hook) done.tree)
    (hooks_after course.config.now hook ending (hooks_from course place))) plan

-- whatever completes the plan goes on at the hook that waits, after the part with this outcome
abbrev pub IsToldFrom : RunContext → Progress → ℕ → PendingPart → Outcome → Bool → Plan → Type 0
IsToldFrom course done place waiting outcome unsteady plan =
    (parts : List Part) (out : RunOut) → Completes plan parts out
    → GoesOnAt course.config.now course.ask.now done (at_hook waiting) (hooks_from course place)
    (part_at waiting done.tree outcome unsteady ∷ parts) out
