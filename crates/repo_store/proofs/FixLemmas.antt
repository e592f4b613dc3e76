-- Changes held one by one as fixes.
use Rattle.std.proofs.Common.{◌≡◌, ◌↔◌, ℕ, ◌+◌, ◌<◌, ◌≤◌, Bool, IsTrue, true, false, cond, if◌then◌else◌, List, [], ◌∷◌, ◌++◌, length, map, take, get_or, Option, None, Some, is_some, Result, Ok, Err, is_ok, is_err, refl, sym, ap, ◌∙◌, arith, length-append, append-nil}
use Rattle.std.specs.Bool.{◌==◌}
use Rattle.std.proofs.lemmas.Bool.{eqb-true}
use Rattle.std.proofs.lemmas.List.Elements.{filter_more}
use lib.Seq.{take-length, take-append-le}
use Rattle.hook_base.specs.declared.file.File.{File}
use Rattle.hook_base.specs.declared.change.Change.{Change}
use Rattle.hook_base.specs.Trees.{entry_of}
use Rattle.store_tables.specs.declared.rows.FixRow.{FixRow}
use Rattle.store_tables.specs.Tables.{Tables}
use Rattle.store_faults.specs.declared.fault.StoreFault.{StoreFault}
use Rattle.store_faults.specs.declared.fault.StoreFault.TheVariants.{NotAStore, Damaged, Sql, OutOfMemory, Collision, TooLarge, TooMany}
use Rattle.repo_store.specs.Contents.{has_content, with_content, with_new, with_changes}
use Rattle.store_faults.specs.Faults.{IsRefusal}
use Rattle.repo_store.specs.Kept.{Kept}
use Rattle.repo_store.specs.Repository.{staged_changes}
use Rattle.repo_store.specs.Rows.{fix_row, tables_of, with_blobs, with_fix_rows}

pub refusal_weaker : {L M C P Q R : Type 0} → (L → P) → (M → Q) → (C → R) → (fault : StoreFault) → IsRefusal L M C fault → IsRefusal P Q R fault
refusal_weaker large many collides NotAStore h = h
refusal_weaker large many collides Damaged h = h
refusal_weaker large many collides (Sql error) h = tt
refusal_weaker large many collides OutOfMemory h = tt
refusal_weaker large many collides Collision h = collides h
refusal_weaker large many collides TooLarge h = large h
refusal_weaker large many collides TooMany h = many h

pub made_item : {T E X : Type 0} (r : Result T E) (x a b : X) → is_err r ≡ false → x ≡ (if is_ok r then a else b) → x ≡ a
made_item (Ok y) x a b done is = is
made_item (Err y) x a b done is = absurd (let never : true ≡ false = done in cc)

module _ (changes : List Change) (staged : List File) (i : ℕ) (change : Change) (within : i < length changes) (is : change ≡ get_or changes i change) where
  abbrev at : Change → Bool
  at c = is_some (entry_of c.path staged)

  more : staged_changes (take (i + 1) changes) staged ≡ staged_changes (take i changes) staged ++ cond (at change) (change ∷ []) []
  more = filter_more at changes i change within ∙ ap (λ (c : Change). staged_changes (take i changes) staged ++ cond (at c) (c ∷ []) []) (sym is)

  pub one_staged : at change ≡ true → staged_changes (take (i + 1) changes) staged ≡ staged_changes (take i changes) staged ++ change ∷ []
  one_staged there = more ∙ ap (λ b. staged_changes (take i changes) staged ++ cond b (change ∷ []) []) there

  pub none_staged : at change ≡ false → staged_changes (take (i + 1) changes) staged ≡ staged_changes (take i changes) staged
  none_staged absent = more ∙ ap (λ b. staged_changes (take i changes) staged ++ cond b (change ∷ []) []) absent ∙ append-nil (staged_changes (take i changes) staged)

pub with_changes-push : (changes : List Change) (change : Change) (contents : List (List ℕ)) → with_changes (changes ++ change ∷ []) contents ≡ with_new change.now (with_changes changes contents)
with_changes-push [] change contents = refl
with_changes-push (first ∷ changes) change contents = with_changes-push changes change (with_new first.now contents)

-- ---- the contents before stay

module _ (n : ℕ) where
  pub content_before : (bytes : List ℕ) (contents : List (List ℕ)) → n ≤ length contents → (take n (with_content bytes contents) ≡ take n contents) × (n ≤ length (with_content bytes contents))
  content_before bytes contents within =
      elim (has_content bytes contents) as (λ b. (take n (if b then contents else contents ++ bytes ∷ []) ≡ take n contents) × (n ≤ length (if b then contents else contents ++ bytes ∷ []))) [
        | true ↦ (refl, within)
        | false ↦ (take-append-le n contents (bytes ∷ []) within, omega (arith, length-append contents (bytes ∷ [])))
      ]

  new_before : (now : Option (List ℕ)) (contents : List (List ℕ)) → n ≤ length contents → (take n (with_new now contents) ≡ take n contents) × (n ≤ length (with_new now contents))
  new_before None contents within = (refl, within)
  new_before (Some bytes) contents within = content_before bytes contents within

  all_before : (changes : List Change) (contents : List (List ℕ)) → n ≤ length contents → take n (with_changes changes contents) ≡ take n contents
  all_before [] contents within = refl
  all_before (change ∷ changes) contents within = let it = new_before change.now contents within in all_before changes (with_new change.now contents) it.1 ∙ it.0

pub changes_before : (changes : List Change) (contents now : List (List ℕ)) → now ≡ with_changes changes contents → take (length contents) now ≡ contents
changes_before changes contents now is = ap (take (length contents)) is ∙ all_before (length contents) changes contents (omega arith) ∙ take-length contents

pub changes_grow : (changes : List Change) (contents : List (List ℕ)) → length contents ≤ length (with_changes changes contents)
changes_grow [] contents = omega arith
changes_grow (change ∷ changes) contents =
    let one = (new_before (length contents) change.now contents (omega arith)).1 in
    let rest = changes_grow changes (with_new change.now contents) in
    omega arith

-- ---- no fixes before and after

-- without fixes their table has no rows
pub no_rows : (kept : Kept) (none : Bool) → (IsTrue none ↔ (kept.repo.fixes ≡ [])) → IsTrue none → (tables_of kept).fixes ≡ []
no_rows kept none known is = ap (map fix_row) (known.0 is)

pub none_of : {X : Type 0} (l : List X) → (length l == 0) ≡ true → l ≡ []
none_of [] e = refl
none_of (x ∷ l) e = let some : length (x ∷ l) ≡ 0 = eqb-true (length (x ∷ l)) 0 e in absurd (omega (arith, some))

none_replaced : (t : Tables) → t.fixes ≡ [] → with_fix_rows [] t ≡ t
none_replaced t none = ap (λ (rows : List FixRow). record t { fixes = rows }) (sym none)

-- no rows in place of none: the other tables alone change
pub none_set : (rows : List FixRow) (news : List (List ℕ)) (t : Tables) → rows ≡ [] → t.fixes ≡ [] → with_fix_rows rows (with_blobs news t) ≡ with_blobs news t
none_set rows news t empty none = ap (λ (r : List FixRow). with_fix_rows r (with_blobs news t)) empty ∙ none_replaced (with_blobs news t) none
