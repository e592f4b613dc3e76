-- Edits of files that a run doesn't look at: two trees that differ only in such files, and runs on them.
use Rattle.std.specs.Prelude.{◌≡◌, ◌≢◌, ℕ, Bool, false, List, [], ◌∷◌, map, Option, None, Some, All, Contains}
use Rattle.child_port.specs.declared.answer.Outcome.{Outcome}
use Rattle.child_port.specs.declared.answer.Outcome.TheVariants.{Done, Failed}
use Rattle.child_port.specs.Seen.{is_stray, plain_word}
use Rattle.hook_base.specs.Trees.{IsRising, entry_of, path_of}
use Rattle.hook_base.specs.declared.file.File.{File}
use Rattle.hook_config.specs.declared.configuration.Config.{Config}
use Rattle.hook_config.specs.declared.configuration.Hook.{Hook}
use Rattle.hook_config.specs.declared.configuration.Language.{Language}
use Rattle.hook_config.specs.declared.configuration.Language.TheVariants.{Fail, Pygrep, System, Script}
use Rattle.path_select.specs.Candidates.{is_candidate}
use Rattle.result_book.specs.Contents.{Contents, Holds}
use Rattle.hook_run.specs.declared.reuse.Reuse.TheVariants as reuse
use Rattle.hook_run.specs.declared.run_ask.RunAsk.{RunAsk}
use Rattle.hook_run.specs.declared.run_out.RunOut.{RunOut}
use Rattle.hook_run.specs.Asks.{hooks_of_run}
use Rattle.hook_run.specs.Parts.{Part, all_parts}
use Rattle.hook_run.specs.RunOuts.{IsRunOut}

-- ---- two trees

-- the two trees hold the same paths, and the same file at each path that isn't one of these
pub record DifferOnlyIn (paths : List (List ℕ)) (tree other : List File) : Type 0 where
  pub same_paths : map path_of tree ≡ map path_of other
  pub same_else : (path : List ℕ) → (¬ Contains paths path) → entry_of path tree ≡ entry_of path other

-- the two trees hold the same at each of these paths
abbrev pub HoldAlike : List (List ℕ) → List File → List File → Type 0
HoldAlike paths tree other = All (λ path. entry_of path tree ≡ entry_of path other) paths

-- ---- where a run looks

-- the path of the script of a command with these words, if it has one: its first word names it
abbrev pub path_of_first : List (List ℕ) → Option (List ℕ)
path_of_first [] = None
path_of_first (first ∷ rest) = Some (plain_word first)

-- the path of the script of a hook of the language, if it has one
abbrev pub script_path : Language → Option (List ℕ)
script_path Fail = None
script_path (Pygrep search) = None
script_path (System words) = path_of_first words
script_path (Script words) = path_of_first words

-- Hooks that are run with these candidates and these parts don't look at the path. It is no candidate, no
-- hook has its script there, and no child sees a file there.
pub record IsUnseen (candidates : List (List ℕ)) (hooks : List Hook) (parts : List Part) (path : List ℕ) : Type 0 where
  pub no_candidate : is_candidate candidates path ≡ false
  pub no_script : All (λ hook. script_path hook.language ≢ Some path) hooks
  pub unseen : All (λ part. entry_of path part.seen ≡ None) parts

-- the outcome is an answer that changes files that its child hasn't seen
abbrev pub strays : Outcome → List File → Bool
strays (Done answer) seen = is_stray answer seen
strays (Failed fault) seen = false

-- The second tree differs from the first only in the files at these paths, and a run on the first looks at
-- none of them. No answer of that run changes a file that its child hasn't seen.
pub record IsUnseenEdit (config : Config) (ask : RunAsk) (paths : List (List ℕ)) (tree other : List File)
    (trace : List (List Part)) (out : RunOut) : Type 0 where
  pub is_tree : IsRising tree
  pub differ : DifferOnlyIn paths tree other
  pub run : IsRunOut config ask tree trace out
  pub kept_to : All (λ part. strays part.outcome part.seen ≡ false) (all_parts trace)
  pub unseen : All (IsUnseen ask.candidates (hooks_of_run config ask) (all_parts trace)) paths

-- ---- what the one run says of the other

-- two runs have the same results, and so the same report
pub record HaveSameResults (first second : RunOut) : Type 0 where
  pub passed : first.passed ≡ second.passed
  pub report : first.report ≡ second.report
  pub results : first.results ≡ second.results

-- Two runs that began on these trees have the same results. The trees that they leave differ only in the
-- files at these paths, and each run leaves those as they were when it began.
pub record EndAlike (paths : List (List ℕ)) (tree other : List File) (first second : RunOut) : Type 0 where
  pub same : HaveSameResults first second
  pub differ : DifferOnlyIn paths first.tree second.tree
  pub left : HoldAlike paths tree first.tree
  pub left_there : HoldAlike paths other second.tree

-- a run on the second tree has the parts of the one on the first, and ends alike
pub record HasRunAlike (config : Config) (ask : RunAsk) (paths : List (List ℕ)) (tree other : List File)
    (trace : List (List Part)) (out : RunOut) : Type 0 where
  pub there : RunOut
  pub run : IsRunOut config ask other trace there
  pub alike : EndAlike paths tree other out there

-- the outcome is an answer that is cached; a fault never is
abbrev pub HoldsOutcome : List (List ℕ) → List File → Outcome → Contents → Type 0
HoldsOutcome words seen (Done answer) remembered = Holds words seen answer remembered
HoldsOutcome words seen (Failed fault) remembered = ⊥

-- the answer of each of the parts is cached
abbrev pub HoldsAll : List Part → Contents → Type 0
HoldsAll parts remembered = All (λ part. HoldsOutcome part.words part.seen part.outcome remembered) parts

-- the same ask, but the run may use each cached result
abbrev pub reusing_all : RunAsk → RunAsk
reusing_all ask = record ask { reuse = reuse.All }
