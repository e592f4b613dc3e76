-- Why a file has a tag: one of these rules gives it.
use Rattle.std.specs.Prelude.{◌≡◌, ℕ, false, IsTrue, List, [], ◌++◌}
use Rattle.std.specs.Str.{bytes_eq}
use Rattle.hook_base.specs.declared.file.FileEntry.{FileEntry}
use Rattle.file_tags.specs.FileTags.{has_tag, mode_tags, name_of, name_tags, extension_tags, script_tags, told_tags, tell_encoding, encoding_of}

pub data Reason (tag path : List ℕ) (entry : FileEntry) : Type 0 where
  -- every file is a `file`, and executable or not
  by_mode : IsTrue (has_tag tag (mode_tags entry.mode)) → Reason tag path entry
  -- the table of names has its name, or a piece of it
  by_name : IsTrue (has_tag tag (name_tags (name_of path))) → Reason tag path entry
  -- the table of extensions has its extension
  by_extension : IsTrue (has_tag tag (extension_tags (name_of path))) → Reason tag path entry
  -- neither has; it is executable, and the table of interpreters has the one that its first line names
  by_first_line : name_tags (name_of path) ++ extension_tags (name_of path) ≡ []
      → IsTrue (has_tag tag (script_tags entry.mode entry.bytes)) → Reason tag path entry
  -- none of these says whether it is text, and its bytes look so
  by_bytes : tell_encoding (told_tags (name_of path) entry) ≡ false → IsTrue (bytes_eq (encoding_of entry.bytes) tag)
      → Reason tag path entry
