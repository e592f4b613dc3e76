-- Whether two files are the same: their paths, modes and bytes.
use Rattle.std.specs.Prelude.{Bool, true, false, ◌&&◌}
use Rattle.std.specs.Str.{bytes_eq}
use Rattle.hook_base.specs.declared.file.File.{File}
use Rattle.hook_base.specs.declared.file.Mode.{Mode}
use Rattle.hook_base.specs.declared.file.Mode.TheVariants.{Plain, Executable}

abbrev pub is_same_mode : Mode → Mode → Bool
is_same_mode Plain Plain = true
is_same_mode Plain Executable = false
is_same_mode Executable Plain = false
is_same_mode Executable Executable = true

abbrev pub is_same_file : File → File → Bool
is_same_file a b =
    bytes_eq a.path b.path && is_same_mode a.entry.mode b.entry.mode && bytes_eq a.entry.bytes b.entry.bytes
