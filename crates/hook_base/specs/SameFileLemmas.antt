-- Lemmas: `is_same_file` holds exactly if two files are the same.
use Rattle.std.specs.Prelude.{◌≡◌, ◌&&◌, refl}
use Rattle.std.specs.Bool.{Decides}
use Rattle.std.specs.Cmp.Lexicographic.{bytes_decides}
use Rattle.std.specs.Str.{bytes_eq}
use Rattle.std.proofs.Common.{ap}
use Rattle.hook_base.specs.declared.file.File.{File}
use Rattle.hook_base.specs.declared.file.Mode.{Mode}
use Rattle.hook_base.specs.declared.file.Mode.TheVariants.{Plain, Executable}
use Rattle.hook_base.specs.AlikeLemmas.{and_decides, same_decides, same_row}
use Rattle.hook_base.specs.SameFiles.{is_same_file, is_same_mode}

mode_decides : (a b : Mode) → Decides (is_same_mode a b) (a ≡ b)
mode_decides Plain Plain = (λ h. refl, λ h. refl)
mode_decides Plain Executable = (λ h. cc, λ h. cc)
mode_decides Executable Plain = (λ h. cc, λ h. cc)
mode_decides Executable Executable = (λ h. refl, λ h. refl)

pub same_file_decides : (a b : File) → Decides (is_same_file a b) (a ≡ b)
same_file_decides a b =
    same_decides (is_same_file a b)
    (and_decides (bytes_eq a.path b.path && is_same_mode a.entry.mode b.entry.mode)
    (bytes_eq a.entry.bytes b.entry.bytes)
    (and_decides (bytes_eq a.path b.path) (is_same_mode a.entry.mode b.entry.mode) (bytes_decides a.path b.path)
    (mode_decides a.entry.mode b.entry.mode))
    (bytes_decides a.entry.bytes b.entry.bytes))
    (λ h. same_row a.path b.path a.entry.mode b.entry.mode a.entry.bytes b.entry.bytes h.0.0 h.0.1 h.1)
    (λ h. (
      (ap (λ (file : File). file.path) h, ap (λ (file : File). file.entry.mode) h),
      ap
          (λ (file : File). file.entry.bytes) h,
    ))
