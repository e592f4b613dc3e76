-- A run of a configuration over a tree, from the bytes that are read to the bytes that are written.
use Rattle.std.specs.Prelude.{◌≡◌, ◌≢◌, ◌≤◌, ◌+◌, ◌⊎◌, ℕ, Bool, false, List, [], length, map, Option, None, Some}
use Rattle.std.specs.Io.KnownBytes.{Consumes, IsAtEnd}
use Rattle.hook_base.specs.declared.file.File.{File}
use Rattle.child_port.specs.declared.answer.Outcome.{Outcome}
use Rattle.hook_config.specs.declared.configuration.Config.{Config}
use Rattle.hook_config.specs.declared.config_fault.ConfigFault.{ConfigFault}
use Rattle.hook_config.specs.declared.config_fault.ConfigKind.TheVariants as kind
use Rattle.hook_config.specs.declared.stage.Stage.TheVariants.{PreCommit}
use Rattle.hook_config.specs.Configuration.{configuration_of}
use Rattle.hook_config.specs.Gives.{UnlessLeftOpen}
use Rattle.hook_config.specs.Refusals.{TellsLargeConfiguration}
use Rattle.store_faults.specs.Limits.{first_limit}
use Rattle.result_book.specs.Contents.{Contents, nothing}
use Rattle.hook_run.specs.Moments.{moment}
use Rattle.hook_run.specs.declared.reuse.Reuse.TheVariants.{All}
use Rattle.hook_run.specs.declared.run_ask.RunAsk.{RunAsk}
use Rattle.hook_run.specs.declared.run_out.RunOut.{RunOut}
use Rattle.hook_run.specs.declared.run_refusal.RunRefusal.{RunRefusal}
use Rattle.hook_run.specs.declared.run_refusal.RunRefusal.TheVariants as stop
use Rattle.hook_run.specs.RunOuts.{IsRunOver, IsStoppedRun}
use Rattle.configuration_run.specs.declared.try_fault.TryFault.{TryFault}
use Rattle.configuration_run.specs.declared.try_fault.TryFault.TheVariants.{Read, Config as BadConfig, Write, OutOfMemory, Spent}
use Rattle.text_output.specs.Outputs.{Has, HasBeginning, Output}
-- ---- what is read; nothing is claimed of a reader that doesn't say its bytes

-- the greatest number of bytes of a configuration is that of any text
pub use Rattle.yaml_lines.specs.Characters.{most_bytes}

-- the reader gave these bytes at most
pub record ReadsWithin (most : ℕ) (given left : Option (List ℕ)) : Type 0 where
  pub bytes : List ℕ
  pub read : Consumes given left bytes
  pub within : length bytes ≤ most

-- the bytes that were read, up to the input's end, are this configuration
pub record ReadsConfiguration (given left : Option (List ℕ)) (config : Config) : Type 0 where
  pub bytes : List ℕ
  pub read : Consumes given left bytes
  pub ended : IsAtEnd left
  pub meant : configuration_of bytes ≡ Some config

-- The bytes that were read are no configuration, or hold a pattern that `regex` refuses. They are all that
-- there are, or one more than a configuration may have, which is refused as such.
pub record ReadsNoConfiguration (given left : Option (List ℕ)) (fault : ConfigFault) : Type 0 where
  pub bytes : List ℕ
  pub read : Consumes given left bytes
  pub ended : IsAtEnd left ⊎ (length bytes ≡ most_bytes + 1)
  pub none : UnlessLeftOpen fault.kind (configuration_of bytes ≡ None)
  pub large : TellsLargeConfiguration bytes fault

-- ---- what is run

-- the hooks of the stage `pre-commit`, with all files of the tree as candidates; no hook is skipped or left
-- out
abbrev pub ask_for_all : List File → RunAsk
ask_for_all tree =
    record { stage = PreCommit; candidates = map (λ row. row.path) tree; only = None; skip = []; reuse = All }

-- A run of the hooks of this configuration on the tree gives this, between these counts. No answer is cached
-- before it, so that each outcome is one that the children may give. Of its own answers as many are cached as
-- a new store keeps.
pub record IsRunOnAll (tells : List (List ℕ) → List File → Outcome → Type 0) (calls calls_after faults faults_after : ℕ)
    (config : Config) (tree : List File) (out : RunOut) : Type 0 where
  pub remembered : Contents
  pub run : IsRunOver tells (moment calls faults (nothing first_limit)) (moment calls_after faults_after remembered)
      config (ask_for_all tree) tree out

-- such a run is refused with this refusal
pub record IsStoppedOnAll (tells : List (List ℕ) → List File → Outcome → Type 0)
    (calls calls_after faults faults_after : ℕ) (config : Config) (tree : List File)
    (refusal : RunRefusal) : Type 0 where
  pub remembered : Contents
  pub stopped : IsStoppedRun tells (moment calls faults (nothing first_limit))
      (moment calls_after faults_after remembered) config (ask_for_all tree) tree refusal

-- What was read is a configuration, and a run of its hooks on the tree gives this.
pub record IsReadAndRun (given left : Option (List ℕ)) (tells : List (List ℕ) → List File → Outcome → Type 0)
    (calls calls_after faults faults_after : ℕ) (tree : List File) (out : RunOut) : Type 0 where
  pub config : Config
  pub read : ReadsConfiguration given left config
  pub run : IsRunOnAll tells calls calls_after faults faults_after config tree out

-- What was read is a configuration, there is a run of its hooks on the tree, and what was written is its
-- report. `passed` says whether no hook failed. Nothing is claimed of a writer that doesn't say its bytes.
pub record IsTriedOver (given left : Option (List ℕ)) (output : Output)
    (tells : List (List ℕ) → List File → Outcome → Type 0)
    (calls calls_after faults faults_after : ℕ) (tree : List File) (passed : Bool) : Type 0 where
  pub out : RunOut
  pub over : IsReadAndRun given left tells calls calls_after faults faults_after tree out
  pub verdict : passed ≡ out.passed
  pub written : Has output out.report

-- ---- what is refused

-- no child was called
pub record NoneCalled (calls calls_after faults faults_after : ℕ) : Type 0 where
  pub called : calls_after ≡ calls
  pub faulted : faults_after ≡ faults

-- What was read is a configuration, and a run of its hooks on the tree is refused with this refusal. The
-- outcomes that the children gave before it are counted.
pub record IsReadAndStopped (given left : Option (List ℕ)) (tells : List (List ℕ) → List File → Outcome → Type 0)
    (calls calls_after faults faults_after : ℕ) (tree : List File) (refusal : RunRefusal) : Type 0 where
  pub config : Config
  pub read : ReadsConfiguration given left config
  pub stopped : IsStoppedOnAll tells calls calls_after faults faults_after config tree refusal

-- what was read is a configuration, there is a run of its hooks on the tree, and the writer took its report
-- up to an error
pub record IsReportCutOff (given left : Option (List ℕ)) (output : Output)
    (tells : List (List ℕ) → List File → Outcome → Type 0)
    (calls calls_after faults faults_after : ℕ) (tree : List File) : Type 0 where
  pub out : RunOut
  pub over : IsReadAndRun given left tells calls calls_after faults faults_after tree out
  pub begun : HasBeginning output out.report

-- What holds if a run is refused. Until the configuration is read no child is called, and at `Write` the run
-- has ended. `Spent` stops it if a further child is needed, and no more can be counted. Want of memory comes
-- before any child is called, or stops the run.
abbrev pub IsRefusedBy : Option (List ℕ) → Option (List ℕ) → Output → (List (List ℕ) → List File → Outcome → Type 0)
    → ℕ → ℕ → ℕ → ℕ → List File → TryFault → Type 0
IsRefusedBy given left output tells calls calls_after faults faults_after tree Read =
    NoneCalled calls calls_after faults faults_after
IsRefusedBy given left output tells calls calls_after faults faults_after tree (BadConfig fault) =
    (fault.kind ≢ kind.OutOfMemory) × ReadsNoConfiguration given left fault
    × NoneCalled calls calls_after faults faults_after
IsRefusedBy given left output tells calls calls_after faults faults_after tree Write =
    IsReportCutOff given left output tells calls calls_after faults faults_after tree
IsRefusedBy given left output tells calls calls_after faults faults_after tree OutOfMemory =
    NoneCalled calls calls_after faults faults_after
    ⊎ IsReadAndStopped given left tells calls calls_after faults faults_after tree stop.OutOfMemory
IsRefusedBy given left output tells calls calls_after faults faults_after tree Spent =
    IsReadAndStopped given left tells calls calls_after faults faults_after tree stop.Spent

-- ---- for contracts of private functions alone

-- a configuration's run is refused for want of memory, before any child is called or later, or because a
-- further child is needed and no more can be counted
abbrev pub IsRefusedRun : (List (List ℕ) → List File → Outcome → Type 0) → ℕ → ℕ → ℕ → ℕ → Config → List File → TryFault
    → Type 0
IsRefusedRun tells calls calls_after faults faults_after config tree OutOfMemory =
    NoneCalled calls calls_after faults faults_after
    ⊎ IsStoppedOnAll tells calls calls_after faults faults_after config tree stop.OutOfMemory
IsRefusedRun tells calls calls_after faults faults_after config tree Spent =
    IsStoppedOnAll tells calls calls_after faults faults_after config tree stop.Spent
IsRefusedRun tells calls calls_after faults faults_after config tree _ = ⊥
