-- Lemmas: `==` of files and of changes holds exactly if they are the same.
use Rattle.std.specs.Prelude.{◌≡◌, ℕ, Bool, IsTrue, ◌&&◌, List, Option, None, Some, refl}
use Rattle.std.specs.Bool.{Decides}
use Rattle.std.specs.Cmp.{IsPartialEquivalence, IsEquivalence, both_ways, equiv}
use Rattle.std.specs.Cmp.Lexicographic.{pointwise, bytes_decides, pointwise_decides}
use Rattle.std.specs.Option.{option_eq}
use Rattle.std.proofs.Common.{ap, sym, ◌∙◌, subst}
use Rattle.std.proofs.lemmas.Bool.{and_parts}
use Rattle.hook_base.specs.declared.file.File.{File}
use Rattle.hook_base.specs.declared.file.Mode.{Mode}
use Rattle.hook_base.specs.declared.file.Mode.TheVariants.{Plain, Executable}
use Rattle.hook_base.specs.declared.change.Change.{Change}
use Rattle.hook_base.specs.contracts.file.FilePartialEq.TheImpl as file_eq
use Rattle.hook_base.specs.contracts.file.ModePartialEq.TheImpl as mode_eq
use Rattle.hook_base.specs.contracts.change.ChangePartialEq.TheImpl as change_eq

pub and_decides : {P Q : Type 0} (x y : Bool) → Decides x P → Decides y Q → Decides (x && y) (P × Q)
and_decides x y p q =
    (λ h. let parts = and_parts x y h in (p.0 parts.0, q.0 parts.1), λ h. rw (p.1 h.0, q.1 h.1))

pub same_decides : {P Q : Type 0} (x : Bool) → Decides x P → (P → Q) → (Q → P) → Decides x Q
same_decides x d to from = (λ h. to (d.0 h), λ h. d.1 (from h))

pub option_decides : {X : Type 0} {E : X → X → Bool} → ((a b : X) → Decides (E a b) (a ≡ b)) → (a b : Option X)
    → Decides (option_eq E a b) (a ≡ b)
option_decides d None None = (λ h. refl, λ h. refl)
option_decides d None (Some y) = (λ h. cc, λ h. cc)
option_decides d (Some x) None = (λ h. cc, λ h. cc)
option_decides d (Some x) (Some y) = (λ h. ap Some ((d x y).0 h), λ h. (d x y).1 (cc))

mode_decides : (a b : Mode) → Decides (mode_eq.ghosts.eq a b) (a ≡ b)
mode_decides Plain Plain = (λ h. refl, λ h. refl)
mode_decides Plain Executable = (λ h. cc, λ h. cc)
mode_decides Executable Plain = (λ h. cc, λ h. cc)
mode_decides Executable Executable = (λ h. refl, λ h. refl)

abbrev file_row : List ℕ → Mode → List ℕ → File
file_row path mode bytes = record { path = path; entry = record { mode = mode; bytes = bytes } }

pub same_row : (p q : List ℕ) (m n : Mode) (x y : List ℕ) → p ≡ q → m ≡ n → x ≡ y → file_row p m x ≡ file_row q n y
same_row p q m n x y path mode bytes = cc

abbrev change_row : List ℕ → Option (List ℕ) → Change
change_row path now = record { path = path; now = now }

same_change : (p q : List ℕ) (m n : Option (List ℕ)) → p ≡ q → m ≡ n → change_row p m ≡ change_row q n
same_change p q m n path now = cc

pub file_decides : (a b : File) → Decides (file_eq.ghosts.eq a b) (a ≡ b)
file_decides a b =
    same_decides _ (and_decides _ _ (bytes_decides a.path b.path)
    (and_decides _ _ (mode_decides a.entry.mode b.entry.mode) (bytes_decides a.entry.bytes b.entry.bytes)))
    (λ h. same_row _ _ _ _ _ _ h.0 h.1.0 h.1.1)
    (λ h. (
      ap (λ (row : File). row.path) h,
      (ap (λ (row : File). row.entry.mode) h, ap (λ (row : File). row.entry.bytes) h),
    ))

pub change_decides : (a b : Change) → Decides (change_eq.ghosts.eq a b) (a ≡ b)
change_decides a b =
    same_decides _ (and_decides _ _ (bytes_decides a.path b.path) (option_decides bytes_decides a.now b.now))
    (λ h. same_change _ _ _ _ h.0 h.1) (λ h.
    (ap (λ (change : Change). change.path) h, ap (λ (change : Change). change.now) h))

pub per_from_decides : {X : Type 0} (E : X → X → Bool) → ((a b : X) → Decides (E a b) (a ≡ b)) → IsPartialEquivalence E
per_from_decides E d = record {
  symm = λ x y. both_ways (E x y) (E y x) (λ h. (d y x).1 (sym ((d x y).0 h))) (λ h. (d x y).1 (sym ((d y x).0 h)));
  trans = λ x y z p q. (d x z).1 ((d x y).0 p ∙ (d y z).0 q);
}

pub equiv_from_decides : {X : Type 0} (E : X → X → Bool) → ((a b : X) → Decides (E a b) (a ≡ b)) → IsEquivalence E
equiv_from_decides E d = equiv (per_from_decides E d) (λ x. (d x x).1 refl)

-- `==` of two lists holds exactly if they are the same, if that is so for their items
pub lists_same : {X : Type 0} {E : X → X → Bool} → ((a b : X) → Decides (E a b) (a ≡ b)) → (xs ys : List X) (r : Bool)
    → r ≡ pointwise E xs ys → (IsTrue r → xs ≡ ys) × (xs ≡ ys → IsTrue r)
lists_same decides xs ys r e = subst (λ (b : Bool). Decides b (xs ≡ ys)) (sym e) (pointwise_decides decides xs ys)
