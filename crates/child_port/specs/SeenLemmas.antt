-- Lemmas: the seen files are a part of the tree, in its order, and what they have at a path.
use Rattle.std.specs.Prelude.{◌≡◌, ℕ, Bool, true, false, if◌then◌else◌, List, [], ◌∷◌, Option, None, Some, refl}
use Rattle.std.specs.List.{filter}
use Rattle.std.specs.Str.{bytes_eq}
use Rattle.std.specs.Cmp.Lexicographic.{bytes_decides}
use Rattle.std.proofs.Common.{ap, sym, ◌∙◌}
use Rattle.child_port.specs.Seen.{is_seen_path, seen_of}
use Rattle.hook_base.specs.declared.file.File.{File}
use Rattle.hook_base.specs.declared.file.FileEntry.{FileEntry}
use Rattle.hook_base.specs.RisingLemmas.{IsRisingBy-filter}
use Rattle.hook_base.specs.TreeLemmas.{IsPartOf-refl, entry_of-first}
use Rattle.hook_base.specs.Trees.{IsPartOf, IsRising, entry_of, path_of}

-- the files whose path passes a test
abbrev pub files_where : (List ℕ → Bool) → List File → List File
files_where keeps tree = filter (λ row. keeps row.path) tree

-- what a tree has at a path, if the path passes
abbrev held_if : Bool → List ℕ → List File → Option FileEntry
held_if kept path tree = if kept then entry_of path tree else None

held_here : (keeps : List ℕ → Bool) (path : List ℕ) (row : File) (rows : List File) → path ≡ row.path
    → entry_of path (files_where keeps rows) ≡ held_if (keeps path) path rows
    → entry_of path (files_where keeps (row ∷ rows)) ≡ (if keeps path then Some row.entry else None)
held_here keeps path row rows same rest =
    elim (keeps row.path) as (λ b. keeps row.path ≡ b
    → entry_of path (if b then row ∷ files_where keeps rows else files_where keeps rows)
    ≡ (if keeps path then Some row.entry else None)) [
      | true ↦ λ e. let kept : keeps path ≡ true =
          ap keeps same ∙ e in rw kept (entry_of-first path row (files_where keeps rows) same)
      | false ↦ λ e. let dropped : keeps path ≡ false = ap keeps same ∙ e in rw dropped (rw dropped at rest)
    ] refl

held_there : (keeps : List ℕ → Bool) (path : List ℕ) (row : File) (rows : List File) → bytes_eq path row.path ≡ false
    → entry_of path (files_where keeps rows) ≡ held_if (keeps path) path rows
    → entry_of path (files_where keeps (row ∷ rows)) ≡ held_if (keeps path) path rows
held_there keeps path row rows differs rest =
    elim (keeps row.path) as (λ b. entry_of path (if b then row ∷ files_where keeps rows else files_where keeps rows)
    ≡ held_if (keeps path) path rows) [
      | true ↦ rw differs rest
      | false ↦ rest
    ]

pub entry_of-files_where : (keeps : List ℕ → Bool) (path : List ℕ) (tree : List File)
    → entry_of path (files_where keeps tree) ≡ (if keeps path then entry_of path tree else None)
entry_of-files_where keeps path [] =
    elim (keeps path) as (λ b. entry_of path [] ≡ held_if b path []) [ true ↦ refl | false ↦ refl ]
entry_of-files_where keeps path (row ∷ rows) =
    let rest = entry_of-files_where keeps path rows in
    elim (bytes_eq path row.path) as (λ b. bytes_eq path row.path ≡ b
    → entry_of path (files_where keeps (row ∷ rows))
    ≡ (if keeps path then (if b then Some row.entry else entry_of path rows) else None)) [
      | true ↦ λ e. held_here keeps path row rows ((bytes_decides path row.path).0 e) rest
      | false ↦ λ e. held_there keeps path row rows e rest
    ] refl

pub IsRising-files_where : (keeps : List ℕ → Bool) (tree : List File) → IsRising tree
    → IsRising (files_where keeps tree)
IsRising-files_where keeps tree rising = IsRisingBy-filter path_of (λ row. keeps row.path) tree rising

held_by_tree : (kept : Bool) (path : List ℕ) (tree : List File) (entry : FileEntry)
    → held_if kept path tree ≡ Some entry → entry_of path tree ≡ Some entry
held_by_tree true path tree entry found = found
held_by_tree false path tree entry found = cc

pub IsPartOf-files_where : (keeps : List ℕ → Bool) (tree : List File) → IsPartOf (files_where keeps tree) tree
IsPartOf-files_where keeps tree = record {
  held =
      λ path entry found. held_by_tree (keeps path) path tree entry
      (sym (entry_of-files_where keeps path tree) ∙ found);
}

-- of the seen files

pub seen_of-whole : (words extra : List (List ℕ)) (tree : List File) → seen_of words extra true tree ≡ tree
seen_of-whole words extra tree = refl

pub entry_of-seen_of : (words extra : List (List ℕ)) (path : List ℕ) (tree : List File)
    → entry_of path (seen_of words extra false tree)
    ≡ (if is_seen_path words extra path then entry_of path tree else None)
entry_of-seen_of words extra path tree = entry_of-files_where (is_seen_path words extra) path tree

pub IsPartOf-seen_of : (words extra : List (List ℕ)) (whole : Bool) (tree : List File)
    → IsPartOf (seen_of words extra whole tree) tree
IsPartOf-seen_of words extra true tree = IsPartOf-refl tree
IsPartOf-seen_of words extra false tree = IsPartOf-files_where (is_seen_path words extra) tree

pub IsRising-seen_of : (words extra : List (List ℕ)) (whole : Bool) (tree : List File) → IsRising tree
    → IsRising (seen_of words extra whole tree)
IsRising-seen_of words extra true tree rising = rising
IsRising-seen_of words extra false tree rising = IsRising-files_where (is_seen_path words extra) tree rising
