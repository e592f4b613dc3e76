-- For private functions only: a file of the lists by its parts, and its code.
use Rattle.std.specs.Prelude.{ℕ, List, refl}
use Rattle.std.specs.Coded.{Coded, code_by, coded×, coded_ℕ, coded_list}
use Rattle.hook_base.specs.declared.file.File.{File}
use Rattle.hook_base.specs.declared.file.Mode.{Mode}
use Rattle.hook_base.specs.contracts.file.Mode as mode

pub record FileParts : Type 0 where
  pub path : List ℕ
  pub mode : Mode
  pub content : List ℕ

abbrev pub parts_of_file : File → FileParts
parts_of_file file = record { path = file.path; mode = file.entry.mode; content = file.entry.bytes }

abbrev pub parts_code : Coded FileParts
parts_code =
    code_by (List ℕ × (Mode × List ℕ)) (coded× (coded_list coded_ℕ) (coded× mode.the_row.coded (coded_list coded_ℕ)))
    (λ f. (f.path, (f.mode, f.content))) (λ p. record { path = p.0; mode = p.1.0; content = p.1.1 })
    (λ _. refl)
