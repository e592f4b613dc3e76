-- Which paths clash with a path: no file can be a folder too (docs/REFERENCE.md, "Refusals", `15 Clash`).
use Rattle.std.specs.Prelude.{◌≡◌, ◌⊎◌, ℕ, List, ◌∷◌, ◌++◌}
use Rattle.std.specs.List.{Any}
use Rattle.hook_base.specs.declared.file.File.{File}

-- the byte `/`
abbrev pub slash : ℕ
slash = 47

-- the path is that of the folder, followed by a slash and more
pub record IsFolderOf (folder path : List ℕ) : Type 0 where
  pub more : List ℕ
  pub is : path ≡ folder ++ slash ∷ more

-- some file's path is a folder of the path, or the path is a folder of some file's
abbrev pub Clashes : List ℕ → List File → Type 0
Clashes path files = Any (λ (file : File). IsFolderOf file.path path ⊎ IsFolderOf path file.path) files
