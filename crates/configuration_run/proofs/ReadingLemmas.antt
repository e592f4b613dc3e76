-- What was read is a configuration, and more bytes than a configuration may have are none. What each refusal of a run says.
use Rattle.std.proofs.Common.{◌≡◌, arith, inl, inr, lt-ltb, ℕ, ◌<◌, List, length, Option, None, Some}
use Rattle.hook_base.specs.declared.file.File.{File}
use Rattle.child_port.specs.declared.answer.Outcome.{Outcome}
use Rattle.yaml_lines.specs.Characters.{characters_of}
use Rattle.yaml_lines.specs.Lines.{content_lines_of_bytes}
use Rattle.yaml_profile.specs.Text.{meaning_of}
use Rattle.hook_config.specs.Configuration.{configuration_of}
use Rattle.hook_config.specs.declared.configuration.Config.{Config}
use Rattle.hook_run.specs.declared.run_out.RunOut.{RunOut}
use Rattle.text_output.specs.Outputs.{HasBeginning, Output}
use Rattle.configuration_run.specs.Reading.{ReadsToLimit}
use Rattle.configuration_run.specs.TryOver.{IsReadAndRun, IsRefusedBy, IsRefusedRun, ReadsConfiguration, most_bytes}
use Rattle.configuration_run.specs.declared.try_fault.TryFault.{TryFault}
use Rattle.configuration_run.specs.declared.try_fault.TryFault.TheVariants.{Read, Config as BadConfig, Write, OutOfMemory, Spent}

characters_of-long : (bytes : List ℕ) → most_bytes < length bytes → characters_of bytes ≡ None
unfolding characters_of
characters_of-long bytes long = rw (lt-ltb most_bytes (length bytes) long)

content_lines_of_bytes-long : (bytes : List ℕ) → most_bytes < length bytes → content_lines_of_bytes bytes ≡ None
unfolding content_lines_of_bytes
content_lines_of_bytes-long bytes long = rw (characters_of-long bytes long)

meaning_of-long : (bytes : List ℕ) → most_bytes < length bytes → meaning_of bytes ≡ None
unfolding meaning_of
meaning_of-long bytes long = rw (content_lines_of_bytes-long bytes long)

configuration_of-long : (bytes : List ℕ) → most_bytes < length bytes → configuration_of bytes ≡ None
unfolding configuration_of
configuration_of-long bytes long = rw (meaning_of-long bytes long)

some_and_none : (config : Config) (meant : Option Config) → meant ≡ Some config → meant ≡ None → ⊥
some_and_none config meant some none = cc

pub read-configuration : (given left : Option (List ℕ)) (bytes : List ℕ) (config : Config) → ReadsToLimit given left bytes
    → configuration_of bytes ≡ Some config → ReadsConfiguration given left config
read-configuration given left bytes config was meant = record {
  bytes = bytes;
  read = was.read;
  ended = elim was.ended [
    | inl ended ↦ ended
    | inr long ↦ absurd (some_and_none config (configuration_of bytes) meant (configuration_of-long bytes (omega arith)))
  ];
  meant = meant;
}

-- ---- what a refusal says

-- a run that is refused after a configuration was read
pub refused-run : (given left : Option (List ℕ)) (output : Output) (tells : List (List ℕ) → List File → Outcome → Type 0)
    (calls calls_after faults faults_after : ℕ) (config : Config) (tree : List File) (fault : TryFault)
    → ReadsConfiguration given left config → IsRefusedRun tells calls calls_after faults faults_after config tree fault
    → IsRefusedBy given left output tells calls calls_after faults faults_after tree fault
refused-run given left output tells calls calls_after faults faults_after config tree OutOfMemory read (inl none) = inl none
refused-run given left output tells calls calls_after faults faults_after config tree OutOfMemory read (inr was) =
    inr (record { config = config; read = read; stopped = was })
refused-run given left output tells calls calls_after faults faults_after config tree Spent read was =
    record { config = config; read = read; stopped = was }
refused-run given left output tells calls calls_after faults faults_after config tree Read read was = absurd was
refused-run given left output tells calls calls_after faults faults_after config tree (BadConfig why) read was = absurd was
refused-run given left output tells calls calls_after faults faults_after config tree Write read was = absurd was

-- `Write` is refused after a configuration was read and its run has ended
pub refused-write : (given left : Option (List ℕ)) (output : Output) (tells : List (List ℕ) → List File → Outcome → Type 0)
    (calls calls_after faults faults_after : ℕ) (tree : List File) (out : RunOut) (fault : TryFault) → fault ≡ Write
    → IsReadAndRun given left tells calls calls_after faults faults_after tree out → HasBeginning output out.report
    → IsRefusedBy given left output tells calls calls_after faults faults_after tree fault
refused-write given left output tells calls calls_after faults faults_after tree out fault is over begun =
    rw is (record { out = out; over = over; begun = begun })
