-- The bytes of the staged configuration.
use Rattle.std.proofs.Common.{◌≡◌, ℕ, List, Option, None, Some, refl, option_map, subst}
use Rattle.hook_base.specs.declared.file.FileEntry.{FileEntry}
use Rattle.hook_base.specs.Trees.{entry_of}
use Rattle.repo_store.specs.Repository.{Repository}
use Rattle.commit_flow.specs.Configured.{HasConfigBytes, config_path}

abbrev bytes_at : Option FileEntry → Option (List ℕ)
bytes_at there = option_map (λ (entry : FileEntry). entry.bytes) there

entry_at : (there : Option FileEntry) (bytes : List ℕ) → Some bytes ≡ bytes_at there → (entry : FileEntry) × (there ≡ Some entry) × (entry.bytes ≡ bytes)
entry_at None bytes is = absurd (cc)
entry_at (Some entry) bytes is = (entry, refl, (cc))

pub has_bytes : (repo : Repository) (path bytes : List ℕ) → path ≡ config_path → Some bytes ≡ option_map (λ (entry : FileEntry). entry.bytes) (entry_of path repo.staged) → HasConfigBytes repo bytes
has_bytes repo path bytes same is =
    let p = entry_at (entry_of config_path repo.staged) bytes (subst (λ (at : List ℕ). Some bytes ≡ bytes_at (entry_of at repo.staged)) same is) in
    record { entry = p.0; staged = p.1; are = p.2 }
