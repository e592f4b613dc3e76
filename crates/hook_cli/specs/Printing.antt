-- What a command prints, and its exit status. Nothing is claimed of a writer whose bytes aren't known.
use Rattle.std.specs.Prelude.{◌≡◌, ◌⊎◌, ℕ, Bool, true, false, List, codes}
use Rattle.report_text.specs.Report.{line}
use Rattle.text_output.specs.Outputs.{Has, HasBeginning, IsSilent, Output}
use Rattle.hook_cli.specs.declared.command_ending.CommandEnding.{CommandEnding}
use Rattle.hook_cli.specs.declared.command_ending.CommandEnding.TheVariants.{Done, Failed, Refused, CutOff, Untold}

-- what standard error says if standard output gave an error
abbrev pub untaken_line : List ℕ
untaken_line = line (codes "hookhost: standard output was not taken")

-- The text is on standard error, and the command ends as wanted. If standard error gave an error, a beginning
-- of it is there.
abbrev pub IsPrintedOnStandardError : CommandEnding → Output → List ℕ → CommandEnding → Type 0
IsPrintedOnStandardError wanted err text ending =
    (Has err text × (ending ≡ wanted)) ⊎ (HasBeginning err text × (ending ≡ Untold))

-- The text is on standard output and nothing on standard error, and the command ends as wanted. If standard
-- output gave an error, a beginning of the text is there, and the other text is on standard error.
abbrev pub IsSaid : CommandEnding → Output → List ℕ → Output → List ℕ → CommandEnding → Type 0
IsSaid wanted out text err otherwise ending =
    (Has out text × IsSilent err × (ending ≡ wanted))
    ⊎ (HasBeginning out text × IsPrintedOnStandardError CutOff err otherwise ending)

-- The same for a command that is done and also has a text for standard error.
abbrev pub AreSaid : Output → List ℕ → Output → List ℕ → List ℕ → CommandEnding → Type 0
AreSaid out text err beside otherwise ending =
    (Has out text × IsPrintedOnStandardError Done err beside ending)
    ⊎ (HasBeginning out text × IsPrintedOnStandardError CutOff err otherwise ending)

-- a run of hooks is done if they passed
abbrev pub ending_of : Bool → CommandEnding
ending_of true = Done
ending_of false = Failed

-- the exit status of an ending (docs/REFERENCE.md, "The command line")
abbrev pub status_of : CommandEnding → ℕ
status_of Done = 0
status_of Failed = 1
status_of Refused = 3
status_of CutOff = 3
status_of Untold = 3
