-- Lemmas: `SameTells` is an equivalence.
use Rattle.std.specs.Prelude.{ℕ, List}
use Rattle.child_port.specs.declared.answer.Outcome.{Outcome}
use Rattle.child_port.specs.Telling.{SameTells}
use Rattle.hook_base.specs.declared.file.File.{File}

pub SameTells-refl : (tells : List (List ℕ) → List File → Outcome → Type 0) → SameTells tells tells
SameTells-refl tells = record { kept = λ _ _ _ told. told; added = λ _ _ _ told. told }

pub SameTells-trans : (a b c : List (List ℕ) → List File → Outcome → Type 0) → SameTells a b → SameTells b c
    → SameTells a c
SameTells-trans a b c first second = record {
  kept = λ words seen outcome told. second.kept words seen outcome (first.kept words seen outcome told);
  added = λ words seen outcome told. first.added words seen outcome (second.added words seen outcome told);
}

pub SameTells-sym : (a b : List (List ℕ) → List File → Outcome → Type 0) → SameTells a b → SameTells b a
SameTells-sym a b same = record { kept = same.added; added = same.kept }
