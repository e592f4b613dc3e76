-- What runs of hooks and commits say.
use Rattle.std.specs.Prelude.{ℕ, Bool, if◌then◌else◌, List, [], ◌++◌, codes}
use Rattle.std.specs.List.{concat, flat_map}
use Rattle.std.specs.Fmt.{decimal}
use Rattle.report_text.specs.Report.{line}
use Rattle.hook_run.specs.declared.run_refusal.RunRefusal.{RunRefusal}
use Rattle.hook_run.specs.Refusals.{run_refusal_name, run_refusal_number}
use Rattle.commit_flow.specs.declared.reply.PostCommit.{PostCommit}
use Rattle.commit_flow.specs.declared.reply.PostCommit.TheVariants.{Told, Stopped}
use Rattle.commit_flow.specs.declared.staged_run.StagedRun.{StagedRun}
use Rattle.hook_cli.specs.declared.command_ending.CommandEnding.{CommandEnding}
use Rattle.hook_cli.specs.declared.command_ending.CommandEnding.TheVariants.{Done}
use Rattle.text_output.specs.Outputs.{Output}
use Rattle.hook_cli.specs.Printing.{AreSaid, IsSaid, untaken_line}

-- a hook whose answer differs from the cached one
abbrev pub unsteady_line : List ℕ → List ℕ
unsteady_line id = line (codes "unsteady: " ++ id)

-- what is reported of hooks, and then the unsteady ones
abbrev pub reported_text : List ℕ → List (List ℕ) → List ℕ
reported_text report unsteady = report ++ flat_map unsteady_line unsteady

-- how many commands were answered from the cache, in a verbose run
abbrev pub reused_text : Bool → ℕ → List ℕ
reused_text verbose reused = if verbose then line (codes "answered from the cache: " ++ decimal reused) else []

-- what a run prints
abbrev pub run_text : Bool → StagedRun → List ℕ
run_text verbose ran = reported_text ran.report ran.unsteady ++ reused_text verbose ran.reused

-- the report of the post-commit hooks: nothing if they were stopped
abbrev pub post_report : PostCommit → List ℕ
post_report (Told report) = report
post_report (Stopped refusal) = []

-- a commit that hooks refused: what is reported of the hooks of each stage, in order
abbrev pub failure_text : List (List ℕ) → List ℕ
failure_text reports = concat reports

-- a commit: the reports of the stages before it, in order, that of the post-commit hooks, and then its number
abbrev pub commit_text : ℕ → List (List ℕ) → PostCommit → List ℕ
commit_text number reports post = concat reports ++ (post_report post ++ line (codes "commit " ++ decimal number))

-- that a commit was made, if its text wasn't taken
abbrev pub made_line : ℕ → List ℕ
made_line number = line (codes "hookhost: commit " ++ decimal number ++ codes " was made")

-- why the post-commit hooks were stopped
abbrev pub stopped_text : RunRefusal → List ℕ
stopped_text refusal =
    line (codes "hookhost: refused: " ++ decimal (run_refusal_number refusal) ++ codes " " ++ run_refusal_name refusal)

-- ---- how it is printed

-- The text of a commit, and on standard error why the post-commit hooks were stopped. If standard output
-- doesn't take the text, standard error says so, then that the commit was made, and then why they were
-- stopped.
abbrev pub IsCommitSaid : ℕ → List (List ℕ) → PostCommit → Output → Output → CommandEnding → Type 0
IsCommitSaid number reports (Told report) out err ending =
    IsSaid Done out (commit_text number reports (Told report)) err (untaken_line ++ made_line number) ending
IsCommitSaid number reports (Stopped refusal) out err ending =
    AreSaid out (commit_text number reports (Stopped refusal)) err (stopped_text refusal)
    (untaken_line ++ (made_line number ++ stopped_text refusal)) ending
