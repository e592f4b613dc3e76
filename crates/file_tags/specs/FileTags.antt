-- The tags of a file, rule by rule (identify 2.5's tags_from_path; docs/REFERENCE.md, "Tags of a file").
use Rattle.std.specs.Prelude.{ℕ, Bool, ◌||◌, if◌then◌else◌, List, [], ◌∷◌, ◌++◌, map, codes}
use Rattle.std.specs.Char.{to_ascii_lowercase}
use Rattle.std.specs.List.{list_any, slice_split}
use Rattle.std.specs.Str.{bytes_eq}
use Rattle.hook_base.specs.declared.file.FileEntry.{FileEntry}
use Rattle.hook_base.specs.declared.file.Mode.{Mode}
use Rattle.hook_base.specs.declared.file.Mode.TheVariants.{Plain, Executable}
use Rattle.file_tags.specs.Cuts.{is_dot, is_path_slash, last_part, before_dots, extension_of}
use Rattle.file_tags.specs.TagTables.{name_rows, extension_rows, interpreter_rows, tags_in, tags_of_first, or_else}
use Rattle.file_tags.specs.Shebangs.{shebang_of, from_interpreter}
use Rattle.file_tags.specs.Contents.{is_text}

-- whether a tag is among tags
abbrev pub has_tag : List ℕ → List (List ℕ) → Bool
has_tag tag tags = list_any (λ other. bytes_eq other tag) tags

-- the tags that every file has, by its mode
abbrev pub mode_tags : Mode → List (List ℕ)
mode_tags Plain = codes "file" ∷ codes "non-executable" ∷ []
mode_tags Executable = codes "file" ∷ codes "executable" ∷ []

-- the last part of a path
abbrev pub name_of : List ℕ → List ℕ
name_of path = last_part is_path_slash path

-- the tags of the whole name, otherwise of the first of its pieces between dots that is known (identify
-- 2.5's tags_from_filename)
abbrev pub name_tags : List ℕ → List (List ℕ)
name_tags name = tags_of_first name_rows (name ∷ slice_split is_dot name)

-- the tags of the name's extension, with A to Z in lower case (identify 2.5's tags_from_filename)
abbrev pub extension_tags : List ℕ → List (List ℕ)
extension_tags name = tags_in extension_rows (map to_ascii_lowercase (extension_of name))

-- the tags of an interpreter's name, otherwise of what comes before its last dot, and so on until one is
-- known (identify 2.5's tags_from_interpreter)
abbrev pub interpreter_tags : List (List ℕ) → List (List ℕ)
interpreter_tags [] = []
interpreter_tags (word ∷ words) =
    tags_of_first interpreter_rows (last_part is_path_slash word ∷ before_dots (last_part is_path_slash word))

-- the tags of the program that an executable file names in its first line
abbrev pub script_tags : Mode → List ℕ → List (List ℕ)
script_tags Plain bytes = []
script_tags Executable bytes = interpreter_tags (from_interpreter (shebang_of bytes))

-- the tags of the name and its extension; if they give none, those of the first line
abbrev pub told_tags : List ℕ → FileEntry → List (List ℕ)
told_tags name entry = or_else (name_tags name ++ extension_tags name) (script_tags entry.mode entry.bytes)

-- whether one of the tags says that the file is text, or that it is binary
abbrev pub tell_encoding : List (List ℕ) → Bool
tell_encoding tags = has_tag (codes "text") tags || has_tag (codes "binary") tags

-- `text` or `binary`, as the bytes look
abbrev pub encoding_of : List ℕ → List ℕ
encoding_of bytes = if is_text bytes then codes "text" else codes "binary"

-- if no tag says whether the file is text or binary, its bytes do
abbrev pub content_tags : List (List ℕ) → List ℕ → List (List ℕ)
content_tags told bytes = if tell_encoding told then [] else encoding_of bytes ∷ []

-- all tags of a file
abbrev pub tags_of_file : List ℕ → FileEntry → List (List ℕ)
tags_of_file path entry =
    mode_tags entry.mode ++ told_tags (name_of path) entry ++ content_tags (told_tags (name_of path) entry) entry.bytes
