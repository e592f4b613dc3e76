-- For private functions of the modules `answer_contents` and `answer_search`: contents that are kept one
-- after another, and contents that are looked up.
use Rattle.std.specs.Prelude.{◌≡◌, ℕ, true, List, length, take}
use Rattle.std.specs.List.{AllByRecursion}
use Rattle.sha2.specs.Sha256.{sha256}
use Rattle.hook_base.specs.declared.file.File.{File}
use Rattle.answer_records.specs.Limits.{IsStorable}
use Rattle.answer_records.specs.Records.{seen_of_files, seen_record}
use Rattle.store_faults.specs.declared.fault.StoreFault.{StoreFault}
use Rattle.repo_store.specs.Complete.{HaveContents, IsAmong}
use Rattle.repo_store.specs.Contents.{has_digest}
use Rattle.store_faults.specs.Faults.{IsRefusal}
use Rattle.repo_store.specs.Remembering.{AreSmall, SomeCollides, with_contents}

-- all of these were kept, in their order
pub record AreAllKept (all old new : List (List ℕ)) : Type 0 where
  pub kept : new ≡ with_contents all old
  pub small : AreSmall all
  pub apart : ¬ SomeCollides all old

-- some of these were kept, after those that were there, until one was refused
pub record IsStopped (all old new : List (List ℕ)) (fault : StoreFault) : Type 0 where
  pub front : take (length old) new ≡ old
  pub why : IsRefusal (¬ AreSmall all) ⊥ (SomeCollides all old) fault

-- the bytes can be a record, and are kept
pub record IsKnownRecord (contents : List (List ℕ)) (bytes : List ℕ) : Type 0 where
  pub storable : IsStorable bytes
  pub among : IsAmong contents bytes

-- so can and is the record of the files, and their contents are kept too
pub record AreKnownFiles (contents : List (List ℕ)) (files : List File) : Type 0 where
  pub record_known : IsKnownRecord contents (seen_record (seen_of_files files))
  pub contents_known : HaveContents contents files

-- the bytes can be a record, and some contents have their digest
pub record IsPlacedRecord (contents : List (List ℕ)) (bytes : List ℕ) : Type 0 where
  pub storable : IsStorable bytes
  pub placed : has_digest (sha256 bytes) contents ≡ true

-- some contents have the digest of each file's contents
abbrev pub HavePlaces : List (List ℕ) → List File → Type 0
HavePlaces contents files = AllByRecursion (λ (file : File). has_digest (sha256 file.entry.bytes) contents ≡ true) files

-- so can and has the record of the files, and some contents have the digest of each file's contents too
pub record ArePlacedFiles (contents : List (List ℕ)) (files : List File) : Type 0 where
  pub record_placed : IsPlacedRecord contents (seen_record (seen_of_files files))
  pub contents_placed : HavePlaces contents files
