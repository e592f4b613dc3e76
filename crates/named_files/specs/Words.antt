-- Words of a command line as names of folders, and names in folders as paths.
use Rattle.std.specs.Prelude.{ℕ, ◌==◌, ◌&&◌, ◌||◌, Bool, true, false, if◌then◌else◌, List, [], ◌∷◌, ◌++◌, codes}
use Rattle.std.specs.List.{starts_with}
use Rattle.std.specs.Str.{bytes_eq}

abbrev pub folder_slash : ℕ
folder_slash = 47

abbrev pub has_no_bytes : List ℕ → Bool
has_no_bytes [] = true
has_no_bytes (byte ∷ bytes) = false

-- the byte and the rest, but not a slash that nothing follows
abbrev pub before_rest_of_word : ℕ → List ℕ → List ℕ
before_rest_of_word byte [] = if byte == folder_slash then [] else byte ∷ []
before_rest_of_word byte (next ∷ rest) = byte ∷ next ∷ rest

-- a word without the slashes at its end
abbrev pub without_slashes : List ℕ → List ℕ
without_slashes [] = []
without_slashes (byte ∷ bytes) = before_rest_of_word byte (without_slashes bytes)

-- a dot, which slashes may follow
abbrev pub is_working_folder : List ℕ → Bool
is_working_folder word = bytes_eq (without_slashes word) (codes ".")

-- how the paths below a folder begin that a word names: all paths are below the working folder
abbrev pub beginning_below : List ℕ → List ℕ
beginning_below word = if is_working_folder word then [] else without_slashes word ++ folder_slash ∷ []

abbrev pub path_begins_with : List ℕ → List ℕ → Bool
path_begins_with beginning path = starts_with (λ a b. a == b) path beginning

-- the repository's folder, or a path that leads through it
abbrev pub is_of_repository : List ℕ → Bool
is_of_repository path = bytes_eq path (codes ".hookhost") || path_begins_with (codes ".hookhost/") path

-- a name in a folder that is never staged, and nothing below it either; the empty path is the working folder
abbrev pub is_left_out : List ℕ → List ℕ → Bool
is_left_out folder name =
    has_no_bytes name || (bytes_eq name (codes ".") || (bytes_eq name (codes "..") || (bytes_eq name (codes ".git")
    || (has_no_bytes folder && bytes_eq name (codes ".hookhost")))))

-- the path of a name in a folder
abbrev pub path_in : List ℕ → List ℕ → List ℕ
path_in [] name = name
path_in (byte ∷ folder) name = (byte ∷ folder) ++ folder_slash ∷ name
