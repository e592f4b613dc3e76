-- Where the links in the folder of children lead (docs/GIT.md, "Links to what is installed").
use Rattle.std.specs.Prelude.{ℕ, ◌==◌, ◌&&◌, Bool, false, if◌then◌else◌, List, [], ◌++◌, Option, None, Some, codes, map, not}
use Rattle.std.specs.List.{list_all, list_any, slice_split}
use Rattle.std.specs.Str.{bytes_eq}
use Rattle.hook_base.specs.Paths.{is_slash}
use Rattle.named_files.specs.NamedPaths.{with_paths}
use Rattle.hookhost.specs.Names.{path_named}

abbrev pub is_colon_between : ℕ → Bool
is_colon_between byte = byte == 58

abbrev pub is_link_path : Option (List ℕ) → List ℕ → Bool
is_link_path None name = false
is_link_path (Some path) name = not (list_any is_slash name) && not (bytes_eq name (codes ".hookhost"))

-- a name that a file at the top of a tree may have, and not that of the repository's folder
abbrev pub is_link_name : List ℕ → Bool
is_link_name name = is_link_path (path_named name) name

abbrev pub place_in_top : List ℕ → List ℕ → List ℕ
place_in_top top name = top ++ codes "/" ++ name

abbrev pub places_if : Bool → List (List ℕ) → Option (List (List ℕ))
places_if are_names places = if are_names then Some places else None

-- the places of the names between colons, each once, or none if a link may not have one of the names
abbrev pub linked_places : List ℕ → List ℕ → Option (List (List ℕ))
linked_places top names =
    places_if (list_all is_link_name (slice_split is_colon_between names))
    (with_paths [] (map (place_in_top top) (slice_split is_colon_between names)))
