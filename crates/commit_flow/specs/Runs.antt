-- A run of hooks on the staged files: which files they may get, what it answers, and why it is refused. It
-- changes only the fixes.
use Rattle.std.specs.Prelude.{◌≡◌, ◌⊎◌, ℕ, Bool, true, false, List, [], ◌∷◌, Option, None, Some, map, filter}
use Rattle.hook_base.specs.declared.file.File.{File}
use Rattle.hook_base.specs.declared.file.FileEntry.{FileEntry}
use Rattle.hook_base.specs.declared.file.Mode.{Mode}
use Rattle.hook_base.specs.declared.file.Mode.TheVariants.{Plain, Executable}
use Rattle.hook_base.specs.declared.change.Change.{Change}
use Rattle.hook_base.specs.Paths.{path_fault}
use Rattle.hook_base.specs.Trees.{changes_between, entry_of}
use Rattle.std.specs.Str.{bytes_eq}
use Rattle.std.specs.Prelude.{◌&&◌, if◌then◌else◌, not}
use Rattle.hook_config.specs.declared.configuration.Config.{Config}
use Rattle.hook_config.specs.declared.stage.Stage.{Stage}
use Rattle.hook_config.specs.declared.stage.Stage.TheVariants as stage
use Rattle.hook_run.specs.declared.reuse.Reuse.{Reuse}
use Rattle.hook_run.specs.declared.reuse.Reuse.TheVariants as reuse
use Rattle.hook_run.specs.declared.run_ask.RunAsk.{RunAsk}
use Rattle.hook_run.specs.declared.run_out.RunOut.{RunOut}
use Rattle.hook_run.specs.Asks.{names_no_hook}
use Rattle.hook_run.specs.Parts.{Part, all_parts}
use Rattle.hook_run.specs.RunOuts.{IsRunOut}
use Rattle.repo_store.specs.Repository.{Repository, last_tree}
use Rattle.run_options.specs.declared.options.RunOptions.{RunOptions}
use Rattle.commit_flow.specs.declared.host_ask.AskStage.{AskStage}
use Rattle.commit_flow.specs.declared.host_ask.AskStage.TheVariants.{PreCommit, PostCommit, Manual}
use Rattle.commit_flow.specs.declared.host_ask.HostAsk.{HostAsk}
use Rattle.commit_flow.specs.declared.host_ask.Which.{Which}
use Rattle.commit_flow.specs.declared.host_ask.Which.TheVariants.{Changed, All, Named}
use Rattle.commit_flow.specs.declared.host_refusal.HostRefusal.{HostRefusal}
use Rattle.commit_flow.specs.declared.host_refusal.HostRefusal.TheVariants.{BadPath, NotStaged}
use Rattle.commit_flow.specs.Configured.{IsConfiguredFor}
use Rattle.commit_flow.specs.StagedPaths.{IsLegal, IsStaged}

-- ---- which files hooks may get

abbrev pub same_mode : Mode → Mode → Bool
same_mode Plain Plain = true
same_mode Executable Executable = true
same_mode mode other = false

-- there is a file with this mode and these bytes
abbrev pub holds_entry : FileEntry → Option FileEntry → Bool
holds_entry entry None = false
holds_entry entry (Some other) = same_mode entry.mode other.mode && bytes_eq entry.bytes other.bytes

-- the paths of the staged files that differ from the last commit: in their bytes or their mode, or because
-- they are new (`pre_commit.git.get_staged_files`)
abbrev pub changed_paths : Repository → List (List ℕ)
changed_paths repo =
    map (λ (row : File). row.path) (filter
    (λ (row : File). not (holds_entry row.entry (entry_of row.path (last_tree repo.history)))) repo.staged)

abbrev pub candidates_of : Which → Repository → List (List ℕ)
candidates_of Changed repo = changed_paths repo
candidates_of All repo = map (λ (row : File). row.path) repo.staged
candidates_of (Named names) repo = names

abbrev pub stage_of_ask : AskStage → Stage
stage_of_ask PreCommit = stage.PreCommit
stage_of_ask PostCommit = stage.PostCommit
stage_of_ask Manual = stage.Manual

-- which cached results hooks may use: afresh none, and with caution those that passed
abbrev pub reuse_with : Bool → RunOptions → Reuse
reuse_with fresh options = if fresh then reuse.Nothing else (if options.cautious then reuse.Passed else reuse.All)

abbrev pub reuse_of : HostAsk → Reuse
reuse_of ask = reuse_with ask.fresh ask.options

abbrev pub run_ask_of : HostAsk → Repository → RunAsk
run_ask_of ask repo = record {
  stage = stage_of_ask ask.stage;
  candidates = candidates_of ask.which repo;
  only = ask.only;
  skip = ask.skip;
  reuse = reuse_of ask;
}

-- ---- names that are asked for

abbrev pub IsStagedPath : Repository → List ℕ → Type 0
IsStagedPath repo name = IsLegal name × IsStaged name repo

-- why a name isn't that of a staged file: it is no path, or it isn't staged
abbrev pub IsNameRefusal : Repository → List ℕ → HostRefusal → Type 0
IsNameRefusal repo name (BadPath fault) = path_fault name ≡ Some fault
IsNameRefusal repo name NotStaged = IsLegal name × (¬ IsStaged name repo)
IsNameRefusal repo name refusal = ⊥

-- the first of the names that isn't that of a staged file is refused so
abbrev pub IsNamesRefusal : Repository → List (List ℕ) → HostRefusal → Type 0
IsNamesRefusal repo [] refusal = ⊥
IsNamesRefusal repo (name ∷ names) refusal =
    IsNameRefusal repo name refusal ⊎ (IsStagedPath repo name × IsNamesRefusal repo names refusal)

-- all of the names are of staged files
abbrev pub AreStagedPaths : Repository → List (List ℕ) → Type 0
AreStagedPaths repo [] = Unit {0}
AreStagedPaths repo (name ∷ names) = IsStagedPath repo name × AreStagedPaths repo names

abbrev pub names_in : Which → List (List ℕ)
names_in (Named names) = names
names_in which = []

-- ---- what it answers

-- The staged configuration can be read, and this is what the options of the run make of it. The named files
-- are staged, and there is a hook with the name that is asked for.
pub record IsRunnable (before : Repository) (ask : HostAsk) (config : Config) : Type 0 where
  pub configured : IsConfiguredFor ask.options before config
  pub named : AreStagedPaths before (names_in ask.which)
  pub known : names_no_hook config (run_ask_of ask before) ≡ false

-- the repository with these fixes
abbrev pub fixing : List Change → Repository → Repository
fixing changes repo = record repo { fixes = changes }

-- The hooks were run with these parts, and this is the answer. The fixes are what became of the staged files.
pub record IsRan (before : Repository) (ask : HostAsk) (passed : Bool) (report : List ℕ) (changes : List Change)
    (unsteady : List (List ℕ)) (parts : List Part) (after : Repository) : Type 0 where
  pub config : Config
  pub trace : List (List Part)
  pub out : RunOut
  pub runnable : IsRunnable before ask config
  pub run : IsRunOut config (run_ask_of ask before) before.staged trace out
  pub traced : parts ≡ all_parts trace
  pub verdict : passed ≡ out.passed
  pub reported : report ≡ out.report
  pub marked : unsteady ≡ out.unsteady
  pub fixed : changes ≡ changes_between before.staged out.tree
  pub made : after ≡ fixing changes before

-- a hook is asked for by a name that no hook of the stage has
pub record HasNoSuchHook (before : Repository) (ask : HostAsk) : Type 0 where
  pub config : Config
  pub configured : IsConfiguredFor ask.options before config
  pub named : AreStagedPaths before (names_in ask.which)
  pub unknown : names_no_hook config (run_ask_of ask before) ≡ true
