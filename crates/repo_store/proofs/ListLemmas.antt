-- A path taken out of the staged files in the table.
use Rattle.std.proofs.Common.{◌≡◌, ℕ, List, [], ◌∷◌, map, filter, true, false, not, cond, eqb, ◌&&◌, refl, ap, ap₂, ◌∙◌, arith}
use Rattle.std.proofs.lemmas.Bool.Decides.{nat_tests}
use Rattle.std.specs.Str.{bytes_eq}
use Rattle.hook_base.specs.declared.file.File.{File}
use Rattle.hook_base.specs.Trees.{remove_file}
use Rattle.store_tables.specs.declared.rows.StagedRow.{StagedRow}
use Rattle.repo_store.specs.Rows.{staged_row}

numbers : (x y : ℕ) → eqb x y ≡ eqb y x
numbers x y = grind (arith, nat_tests)

turned : (a b : List ℕ) → bytes_eq a b ≡ bytes_eq b a
turned [] [] = refl
turned [] (y ∷ b) = refl
turned (x ∷ a) [] = refl
turned (x ∷ a) (y ∷ b) = ap₂ ◌&&◌ (numbers x y) (turned a b)

pub others_staged : (path : List ℕ) (files : List File) → filter (λ (row : StagedRow). not (bytes_eq row.path path)) (map staged_row files) ≡ map staged_row (remove_file path files)
others_staged path [] = refl
others_staged path (file ∷ files) =
    (λ i. cond (not (turned file.path path i)) (staged_row file ∷ filter (λ (row : StagedRow). not (bytes_eq row.path path)) (map staged_row files))
    (filter (λ (row : StagedRow). not (bytes_eq row.path path)) (map staged_row files)))
    ∙ elim (bytes_eq path file.path) as (λ b. cond (not b) (staged_row file ∷ filter (λ (row : StagedRow). not (bytes_eq row.path path)) (map staged_row files))
    (filter (λ (row : StagedRow). not (bytes_eq row.path path)) (map staged_row files))
    ≡ map staged_row (cond b (remove_file path files) (file ∷ remove_file path files)))
    [ true ↦ others_staged path files | false ↦ ap (λ l. staged_row file ∷ l) (others_staged path files) ]
