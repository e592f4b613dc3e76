-- The code of a shared file as a value, by which files are distinguished. It serves private functions alone.
use Rattle.std.specs.Prelude.{ℕ, List, refl}
use Rattle.std.specs.Coded.{Coded, code_by, coded×, coded_ℕ, coded_list}
use Rattle.hook_base.specs.declared.file.File.{File}
use Rattle.hook_base.specs.declared.file.Mode.{Mode}
use Rattle.hook_base.specs.contracts.file.Mode as mode

abbrev pub file_code : Coded File
file_code =
    code_by (List ℕ × (Mode × List ℕ)) (coded× (coded_list coded_ℕ) (coded× mode.the_row.coded (coded_list coded_ℕ)))
    (λ f. (f.path, (f.entry.mode, f.entry.bytes)))
    (λ p. record { path = p.0; entry = record { mode = p.1.0; bytes = p.1.1 } })
    (λ _. refl)
