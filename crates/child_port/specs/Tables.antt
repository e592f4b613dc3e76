-- What a table of answers reports.
use Rattle.std.specs.Prelude.{◌≡◌, ◌⊎◌, ℕ, List, [], ◌∷◌}
use Rattle.child_port.specs.declared.answer.Outcome.{Outcome}
use Rattle.child_port.specs.declared.answer.Outcome.TheVariants.{Done, Failed}
use Rattle.child_port.specs.declared.fault.Fault.TheVariants.{NotStarted}
use Rattle.child_port.specs.declared.table_row.TableRow.{TableRow}
use Rattle.hook_base.specs.declared.file.File.{File}

abbrev pub IsRowFor : List (List ℕ) → List File → TableRow → Type 0
IsRowFor words seen row = (row.words ≡ words) × (row.seen ≡ seen)

-- the first row for these words and seen files answers; if there is none, the child can't be started
abbrev pub TableTells : List TableRow → List (List ℕ) → List File → Outcome → Type 0
TableTells [] words seen outcome = outcome ≡ Failed NotStarted
TableTells (row ∷ rows) words seen outcome =
    (IsRowFor words seen row × (outcome ≡ Done row.answer))
    ⊎ (¬ IsRowFor words seen row × TableTells rows words seen outcome)
