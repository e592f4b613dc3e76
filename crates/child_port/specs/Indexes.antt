-- Indexes into a tree: the paths of the files there.
use Rattle.std.specs.Prelude.{◌≡◌, ℕ, Bool, ◌<◌, List, [], get_or, length, map}
use Rattle.std.specs.List.{All, list_any}
use Rattle.std.specs.Str.{bytes_eq}
use Rattle.hook_base.specs.declared.file.File.{File}
use Rattle.hook_base.specs.Trees.{path_of}

-- the path of the file at an index of the tree
abbrev pub indexed_path : List File → ℕ → List ℕ
indexed_path tree index = get_or (map path_of tree) index []

-- the path is that of the file at one of the indexes
abbrev pub is_indexed : List File → List ℕ → List ℕ → Bool
is_indexed tree indexes path = list_any (λ index. bytes_eq (indexed_path tree index) path) indexes

-- the indexes, in any order and perhaps repeated, are those of the tree's files whose path passes a test
pub record AreIndexesOf (keeps : List ℕ → Bool) (tree : List File) (indexes : List ℕ) : Type 0 where
  pub within : All (λ index. index < length tree) indexes
  pub same : map (λ row. is_indexed tree indexes row.path) tree ≡ map (λ row. keeps row.path) tree
