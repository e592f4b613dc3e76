-- The stages of a commit (githooks(5)): what the hooks of each get, and how the tree and the message pass
-- from one stage to the next. In the two stages about the message, it is a file of the tree.
use Rattle.std.specs.Prelude.{◌≡◌, ℕ, Bool, true, false, MatchBool, if◌then◌else◌, List, [], ◌∷◌, ◌++◌, None, option_map, unwrap_or}
use Rattle.hook_base.specs.declared.file.File.{File}
use Rattle.hook_base.specs.declared.file.FileEntry.{FileEntry}
use Rattle.hook_base.specs.declared.file.Mode.TheVariants.{Plain}
use Rattle.hook_base.specs.Paths.{message_path}
use Rattle.hook_base.specs.Trees.{entry_of, put_file, remove_file}
use Rattle.hook_config.specs.declared.configuration.Config.{Config}
use Rattle.hook_config.specs.declared.stage.Stage.{Stage}
use Rattle.hook_config.specs.declared.stage.Stage.TheVariants.{PreCommit, PrepareCommitMsg, CommitMsg}
use Rattle.result_book.specs.Contents.{Contents}
use Rattle.hook_run.specs.declared.reuse.Reuse.{Reuse}
use Rattle.hook_run.specs.declared.reuse.Reuse.TheVariants as reuse
use Rattle.hook_run.specs.declared.run_ask.RunAsk.{RunAsk}
use Rattle.hook_run.specs.declared.run_out.RunOut.{RunOut}
use Rattle.hook_run.specs.Parts.{Part, all_parts}
use Rattle.hook_run.specs.RunOuts.{IsBegun, IsRunOut, NeedsChild}
use Rattle.repo_store.specs.Repository.{Repository}
use Rattle.commit_flow.specs.declared.commit_state.CommitState.{CommitState}
use Rattle.commit_flow.specs.Messages.{begun_message}

-- The stages before the commit, in order. `prepare-commit-msg` isn't suppressed by `--no-verify`, and the
-- other two are (githooks(5), "prepare-commit-msg"; git-commit(1), "--no-verify").
abbrev pub stages_before_commit : Bool → List Stage
stages_before_commit no_verify =
    if no_verify then PrepareCommitMsg ∷ [] else PreCommit ∷ PrepareCommitMsg ∷ CommitMsg ∷ []

abbrev pub message_entry : List ℕ → FileEntry
message_entry message = record { mode = Plain; bytes = message }

-- the files, with the message among them
abbrev pub with_message_file : CommitState → List File
with_message_file course = put_file message_path (message_entry course.message) course.tree

-- the tree on which the hooks of a stage begin; hooks about the message find it in a file (githooks(5),
-- "commit-msg")
abbrev pub tree_in : Stage → CommitState → List File
tree_in PrepareCommitMsg course = with_message_file course
tree_in CommitMsg course = with_message_file course
tree_in stage course = course.tree

-- the files that the hooks of a stage may get, if these are staged and differ from the last commit
-- (`pre_commit.commands.run._all_filenames`)
abbrev pub candidates_in : List (List ℕ) → Stage → List (List ℕ)
candidates_in changed PreCommit = changed
candidates_in changed PrepareCommitMsg = message_path ∷ []
candidates_in changed CommitMsg = message_path ∷ []
candidates_in changed stage = []

-- the bytes of the message in a tree; if a hook deleted it, it is empty
abbrev pub message_in : List File → List ℕ
message_in tree = unwrap_or (option_map (λ (entry : FileEntry). entry.bytes) (entry_of message_path tree)) []

-- the files without that of the message, and the message
abbrev pub without_message_file : List File → CommitState
without_message_file tree = record { tree = remove_file message_path tree; message = message_in tree }

-- what a stage that left this tree passes on
abbrev pub course_after : Stage → CommitState → List File → CommitState
course_after PrepareCommitMsg course tree = without_message_file tree
course_after CommitMsg course tree = without_message_file tree
course_after stage course tree = record { tree = tree; message = course.message }

-- what is asked of the hooks of a stage, if they may use these cached results
abbrev pub ask_with : Reuse → List (List ℕ) → List (List ℕ) → Stage → RunAsk
ask_with reused changed skip stage =
    record { stage = stage; candidates = candidates_in changed stage; only = None; skip = skip; reuse = reused }

-- in a commit they may use all
abbrev pub ask_in : List (List ℕ) → List (List ℕ) → Stage → RunAsk
ask_in changed skip stage = ask_with reuse.All changed skip stage

-- a run of a stage: the parts of each of its hooks, and what the run gave
pub record StageTold : Type 0 where
  pub trace : List (List Part)
  pub out : RunOut

abbrev pub IsStageTold : Config → List (List ℕ) → List (List ℕ) → Stage → CommitState → StageTold → Type 0
IsStageTold config changed skip stage course told =
    IsRunOut config (ask_in changed skip stage) (tree_in stage course) told.trace told.out

-- The stages were run in order, each on what the one before it passed on. Each passed, and the last passes
-- this on.
abbrev pub HavePassed : Config → List (List ℕ) → List (List ℕ) → List Stage → CommitState → List StageTold → CommitState
    → Type 0
HavePassed config changed skip [] course [] last = last ≡ course
HavePassed config changed skip (stage ∷ stages) course (told ∷ more) last =
    IsStageTold config changed skip stage course told
    × (told.out.passed ≡ true)
    × HavePassed config changed skip stages (course_after stage course told.out.tree) more last
HavePassed config changed skip _ course _ last = ⊥

-- the stages were run in order up to this one, which leaves this and in which a hook failed
abbrev pub FailedAt : Config → List (List ℕ) → List (List ℕ) → List Stage → CommitState → List StageTold → Stage
    → CommitState → Type 0
FailedAt config changed skip (stage ∷ stages) course (told ∷ more) failed last =
    IsStageTold config changed skip stage course told
    × MatchBool told.out.passed
    (FailedAt config changed skip stages (course_after stage course told.out.tree) more failed last)
    ((more ≡ []) × (failed ≡ stage) × (last ≡ course_after stage course told.out.tree))
FailedAt config changed skip _ course _ failed last = ⊥

-- The stages were run in order up to this one, and each before it passed. `IsSo` holds for what is asked in
-- this stage, the tree on which its hooks begin, and these parts of its own.
abbrev pub HaveComeTo : (RunAsk → List File → List Part → Type 0) → Config → List (List ℕ) → List (List ℕ) → List Stage
    → CommitState → List StageTold → List Part → Type 0
HaveComeTo IsSo config changed skip (stage ∷ stages) course [] own =
    IsSo (ask_in changed skip stage) (tree_in stage course) own
HaveComeTo IsSo config changed skip (stage ∷ stages) course (told ∷ more) own =
    IsStageTold config changed skip stage course told
    × (told.out.passed ≡ true)
    × HaveComeTo IsSo config changed skip stages (course_after stage course told.out.tree) more own
HaveComeTo IsSo config changed skip [] course told own = ⊥

-- a commit begins with the staged files, and with its message ended by a line feed
abbrev pub course_of : Repository → List ℕ → CommitState
course_of repo message = record { tree = repo.staged; message = begun_message message }

abbrev pub parts_of_stages : List StageTold → List Part
parts_of_stages [] = []
parts_of_stages (told ∷ more) = all_parts told.trace ++ parts_of_stages more

abbrev pub reports_of : List StageTold → List (List ℕ)
reports_of [] = []
reports_of (told ∷ more) = told.out.report ∷ reports_of more

-- These are the parts of the stages so far: those of the stages that passed, and those of the next one, for
-- which `IsSo` holds.
pub record HaveComeSoFar (IsSo : RunAsk → List File → List Part → Type 0) (config : Config)
    (changed skip : List (List ℕ)) (stages : List Stage) (course : CommitState) (parts : List Part) : Type 0 where
  pub told : List StageTold
  pub own : List Part
  pub come : HaveComeTo IsSo config changed skip stages course told own
  pub traced : parts ≡ parts_of_stages told ++ own

-- the stages begin with these parts
abbrev pub HaveBegun : Config → List (List ℕ) → List (List ℕ) → List Stage → CommitState → List Part → Type 0
HaveBegun config changed skip stages course parts =
    HaveComeSoFar (IsBegun config) config changed skip stages course parts

-- the stages have a further part after these, and it needs a child
abbrev pub HaveFurther : Contents → Config → List (List ℕ) → List (List ℕ) → List Stage → CommitState → List Part
    → Type 0
HaveFurther remembered config changed skip stages course parts =
    HaveComeSoFar (NeedsChild remembered config) config changed skip stages course parts
