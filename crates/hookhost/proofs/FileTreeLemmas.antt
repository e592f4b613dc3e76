-- What a tree holds when a file is put into it.
use Rattle.std.proofs.Common.{◌≡◌, ◌∙◌, refl, inl, inr, subst, arith, ℕ, List, [], ◌∷◌, ◌++◌, All}
use Rattle.std.specs.Prelude.{Contains, IsPermutation}
use Rattle.std.proofs.lemmas.List.Elements.{All-cons, All-head, All-nil, All-push, All-tail, All-weaker, Contains-append_right}
use Rattle.std.proofs.lemmas.List.Sorted.{All-permutation, Contains-permutation, IsPermutation-sym}
use Rattle.std.specs.declared.cmp.Ordering.TheVariants.{Less, Equal, Greater}
use Rattle.hook_base.specs.declared.file.File.{File}
use Rattle.hook_base.specs.Rising.{path_cmp}
use Rattle.hook_base.specs.RisingLemmas.{greater_from_below, path_cases, path_itself}
use Rattle.hook_base.specs.Trees.{put_before, put_row}
use Rattle.hookhost.specs.FileTrees.{AreFilesOf, HasRowAt, HoldsFiles, IsFileOf}

-- what holds of the new row and of all rows holds of all rows with the new one
pub All-put_row : (P : File → Type 0) (new : File) (rows : List File) → P new → All P rows → All P (put_row new rows)
All-put_row P new [] holds all = All-cons P new [] holds (All-nil P)
All-put_row P new (row ∷ rows) holds all =
    elim (path_cmp new.path row.path) as (λ o. All P (put_before o new row rows (put_row new rows))) [
      | Less ↦ All-cons P new (row ∷ rows) holds all
      | Equal ↦ All-cons P new rows holds (All-tail P row rows all)
      | Greater ↦ All-cons P row (put_row new rows) (All-head P row rows all) (All-put_row P new rows holds (All-tail P row rows all))
    ]

pub HasRowAt-put_row : (new : File) (rows : List File) → HasRowAt (put_row new rows) new.path
HasRowAt-put_row new [] = inl refl
HasRowAt-put_row new (row ∷ rows) =
    elim (path_cmp new.path row.path) as (λ o. HasRowAt (put_before o new row rows (put_row new rows)) new.path) [
      | Less ↦ inl refl
      | Equal ↦ inl refl
      | Greater ↦ inr (HasRowAt-put_row new rows)
    ]

pub still_at : (path : List ℕ) (new : File) (rows : List File) → HasRowAt rows path → HasRowAt (put_row new rows) path
still_at path new [] there = absurd there
still_at path new (row ∷ rows) there =
    elim (path_cases new.path row.path) [
      | inl (inl below) ↦ rw below.is_less (inr there)
      | inl (inr same) ↦ rw (path_itself new.path row.path same) (elim there as (λ _. HasRowAt (new ∷ rows) path) [ inl is ↦ inl (same ∙ is) | inr later ↦ inr later ])
      | inr above ↦ rw (greater_from_below row.path new.path above)
          (elim there as (λ _. HasRowAt (row ∷ put_row new rows) path) [ inl is ↦ inl is | inr later ↦ inr (still_at path new rows later) ])
    ]

-- the file that stands first of those that are left is among all
pub among : (all before rest : List File) (file : File) → before ++ file ∷ rest ≡ all → Contains all file
among all before rest file is =
    subst (λ (files : List File). Contains files file) is (Contains-append_right before (file ∷ rest) file (0, omega arith, refl))

pub paths-more : (before tree : List File) (file : File) → All (λ one. HasRowAt tree one.path) before
    → All (λ one. HasRowAt (put_row file tree) one.path) (before ++ file ∷ [])
paths-more before tree file all =
    All-push (λ one. HasRowAt (put_row file tree) one.path) before file
    (All-weaker (λ one. HasRowAt tree one.path) (λ one. HasRowAt (put_row file tree) one.path) (λ one there. still_at one.path file tree there) before all)
    (HasRowAt-put_row file tree)

pub holds-permutation : (files sorted tree : List File) → IsPermutation files sorted → HoldsFiles sorted tree → HoldsFiles files tree
holds-permutation files sorted tree moved holds = record {
  paths = All-permutation (λ one. HasRowAt tree one.path) sorted files (IsPermutation-sym files sorted moved) holds.paths;
  rows = All-weaker (Contains sorted) (Contains files) (λ row. Contains-permutation sorted files row (IsPermutation-sym files sorted moved)) tree holds.rows;
}

-- a further word with its file
pub AreFilesOf-push : (words : List (List ℕ)) (files : List File) (word : List ℕ) (file : File) → AreFilesOf words files → IsFileOf word file
    → AreFilesOf (words ++ word ∷ []) (files ++ file ∷ [])
AreFilesOf-push [] [] word file are is = (is, tt)
AreFilesOf-push (first ∷ words) (one ∷ files) word file are is = (are.0, AreFilesOf-push words files word file are.1 is)
AreFilesOf-push [] (one ∷ files) word file are is = absurd are
AreFilesOf-push (first ∷ words) [] word file are is = absurd are
