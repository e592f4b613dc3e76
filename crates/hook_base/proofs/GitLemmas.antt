-- A path whose first part is a name without slashes is the name, or begins with the name and a slash.
use Rattle.std.proofs.Common.{◌≡◌, ℕ, Bool, true, false, ◌&&◌, ◌||◌, ◌==◌, List, [], ◌∷◌, ◌++◌, cond, refl, sym, ap, ◌∙◌, arith, true≢false}
use Rattle.std.specs.Prelude.{nat_eq, codes}
use Rattle.std.proofs.lemmas.Bool.Decides.{nat_tests}
use Rattle.std.specs.List.{list_any, onto_first, starts_with}
use Rattle.std.specs.Str.{bytes_eq}
use Rattle.hook_base.specs.Paths.{begins_with_part, is_slash, is_under_git, parts_of}

-- there is a first part
parted : (path : List ℕ) → (first : List ℕ) × (rest : List (List ℕ)) × (parts_of path ≡ first ∷ rest)
parted [] = ([], [], refl)
parted (byte ∷ bytes) =
    let more = parted bytes in
    elim (is_slash byte) as (λ b. (first : List ℕ) × (rest : List (List ℕ)) × (cond b ([] ∷ parts_of bytes) (onto_first byte (parts_of bytes)) ≡ first ∷ rest)) [
      | true ↦ ([], parts_of bytes, refl)
      | false ↦ (byte ∷ more.0, more.1, ap (onto_first byte) more.2)
    ]

begins-onto : (byte one : ℕ) (bytes name : List ℕ) → begins_with_part (one ∷ name) (onto_first byte (parts_of bytes)) ≡ ((byte == one) && begins_with_part name (parts_of bytes))
begins-onto byte one bytes name = let first = parted bytes in rw first.2 refl

begins-none : (byte : ℕ) (bytes : List ℕ) → begins_with_part [] (onto_first byte (parts_of bytes)) ≡ false
begins-none byte bytes = let first = parted bytes in rw first.2 refl

or-first : (a b : Bool) → (a || b) ≡ false → a ≡ false
or-first true b e = e
or-first false b e = refl

or-second : (a b : Bool) → (a || b) ≡ false → b ≡ false
or-second true b e = absurd (true≢false e)
or-second false b e = e

turned : (a b : ℕ) → (a == b) ≡ (b == a)
turned a b = grind (arith, nat_tests)

over_and : (b x y z : Bool) → (x || y) ≡ z → ((b && x) || (b && y)) ≡ (b && z)
over_and true x y z e = e
over_and false x y z e = refl

at_slash : (byte one : ℕ) → is_slash byte ≡ true → is_slash one ≡ false → (byte == one) ≡ false
at_slash byte one slash other = grind (arith, nat_tests)

-- the first part is the name where the path is the name, or goes on after it with a slash
begins_with_name : (name path : List ℕ) → list_any is_slash name ≡ false → (bytes_eq path name || starts_with nat_eq path (name ++ 47 ∷ [])) ≡ begins_with_part name (parts_of path)
begins_with_name [] [] whole = refl
begins_with_name [] (byte ∷ bytes) whole =
    elim (is_slash byte) as (λ b. is_slash byte ≡ b → (nat_eq 47 byte && true) ≡ begins_with_part [] (cond b ([] ∷ parts_of bytes) (onto_first byte (parts_of bytes)))) [
      | true ↦ λ slash. rw (turned 47 byte ∙ slash) refl
      | false ↦ λ other. rw (turned 47 byte ∙ other) (sym (begins-none byte bytes))
    ] refl
begins_with_name (one ∷ name) [] whole = refl
begins_with_name (one ∷ name) (byte ∷ bytes) whole =
    let tail = starts_with nat_eq bytes (name ++ 47 ∷ []) in
    elim (is_slash byte) as (λ b. is_slash byte ≡ b → (((byte == one) && bytes_eq bytes name) || ((one == byte) && tail))
    ≡ begins_with_part (one ∷ name) (cond b ([] ∷ parts_of bytes) (onto_first byte (parts_of bytes)))) [
      | true ↦ λ slash. let apart : (byte == one) ≡ false = at_slash byte one slash (or-first (is_slash one) _ whole) in rw (turned one byte) (rw apart refl)
      | false ↦ λ other. rw (turned one byte) (over_and (byte == one) _ _ _ (begins_with_name name bytes (or-second (is_slash one) _ whole)) ∙ sym (begins-onto byte one bytes name))
    ] refl

pub under_git : (path : List ℕ) → bytes_eq path (codes ".git") ≡ false → starts_with nat_eq path (codes ".git/") ≡ is_under_git path
under_git path other = sym (ap (λ b. b || starts_with nat_eq path (codes ".git/")) other) ∙ begins_with_name (codes ".git") path refl
