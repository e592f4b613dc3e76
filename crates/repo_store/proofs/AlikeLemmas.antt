-- A database tells one complete store at most, its answers in one order.
use Rattle.std.proofs.Common.{◌≡◌, ℕ, zero, suc, ◌<◌, Bool, true, false, List, [], ◌∷◌, map, length, get_or, Option, Some, if◌then◌else◌, IsPermutation, refl, sym, ap, ap₂, subst, ◌∙◌, arith}
use Rattle.std.specs.List.{AllByRecursion, Contains}
use Rattle.std.proofs.lemmas.Bool.{false_from_ne_true}
use Rattle.std.proofs.lemmas.List.Sorted.{Contains-permutation, IsPermutation-trans}
use Rattle.sqlite.specs.Effect.{Database}
use Rattle.sqlite_trees.specs.Tree.{IsAscending, Trees}
use Rattle.store_tables.specs.declared.rows.UseRow.{UseRow}
use Rattle.store_tables.specs.Uses.{as_store}
use Rattle.repo_store.specs.Answers.{HaveOwnKeys, KeptAnswer, have_one_key}
use Rattle.repo_store.specs.Bounded.{HoldsStore}
use Rattle.repo_store.specs.Complete.{AreAlike, HaveDistinctDigests, HaveRecords, IsComplete}
use Rattle.repo_store.specs.Index.{Key, key_of}
use Rattle.repo_store.specs.Kept.{Kept}
use Rattle.repo_store.specs.ListedAnswers.{has_key, of_key}
use Rattle.repo_store.specs.Rows.{tables_of}
use Rattle.repo_store.specs.Shown.{Leaves}
use Rattle.repo_store.specs.SoundAnswers.{IsSoundAnswer}
use Rattle.repo_store.specs.UsesOf.{AreUsesOf, use_rows}
use Rattle.repo_store.proofs.KeyLemmas.{keys_decide}
use Rattle.repo_store.proofs.OneLemmas.{alike_from_same}
use Rattle.repo_store.proofs.RowRuleLemmas.{holds_one, same_uses}
use Rattle.repo_store.proofs.SameAnswerLemmas.{keys_told}
use Rattle.repo_store.proofs.UseOrderLemmas.{one_list}

-- ---- answers by the digests of their keys

abbrev pub HaveOwnDigests : List KeptAnswer → Type 0
HaveOwnDigests = IsAscending (λ a b. ¬ (key_of a ≡ key_of b))

module _ (contents : List (List ℕ)) (apart : HaveDistinctDigests contents) where
  others_told : (x : KeptAnswer) (answers : List KeptAnswer) → IsSoundAnswer x → HaveRecords contents (x ∷ answers) → AllByRecursion (λ (y : KeptAnswer). have_one_key x y ≡ false) answers
      → AllByRecursion (λ (y : KeptAnswer). ¬ (key_of x ≡ key_of y)) answers
  others_told x [] sound have own = tt
  others_told x (y ∷ answers) sound have own = (
    λ same. let one = keys_told contents apart x y sound have.0 have.1.0 same in let never : false ≡ true = sym own.0 ∙ one in absurd (cc),
    others_told x answers sound (have.0, have.1.1) own.1,
  )

  pub own_digests : (answers : List KeptAnswer) → AllByRecursion IsSoundAnswer answers → HaveRecords contents answers → HaveOwnKeys answers → HaveOwnDigests answers
  own_digests [] sound have own = tt
  own_digests (x ∷ answers) sound have own = (others_told x answers sound.0 have own.0, own_digests answers sound.1 have.1 own.1)

found : (x : KeptAnswer) (answers : List KeptAnswer) → HaveOwnDigests answers → Contains answers x → of_key (key_of x) answers ≡ Some x
found x answers own there = go answers own there.0 there.1 there.2
  where
    apart_at : (y : KeptAnswer) (answers : List KeptAnswer) → AllByRecursion (λ (z : KeptAnswer). ¬ (key_of y ≡ key_of z)) answers → (k : ℕ) → k < length answers → get_or answers k x ≡ x
        → ¬ (key_of y ≡ key_of x)
    apart_at y [] all k within at = absurd (omega arith)
    apart_at y (z ∷ answers) all zero within at = subst (λ (w : KeptAnswer). ¬ (key_of y ≡ key_of w)) at all.0
    apart_at y (z ∷ answers) all (suc k) within at = apart_at y answers all.1 k (omega arith) at

    go : (answers : List KeptAnswer) → HaveOwnDigests answers → (k : ℕ) → k < length answers → get_or answers k x ≡ x → of_key (key_of x) answers ≡ Some x
    go [] own k within at = absurd (omega arith)
    go (y ∷ answers) own zero within at =
        ap (λ (b : Bool). if b then Some y else of_key (key_of x) answers) ((keys_decide (key_of x) (key_of y)).1 (ap key_of (sym at))) ∙ ap (λ (z : KeptAnswer). Some z) at
    go (y ∷ answers) own (suc k) within at =
        let differs = apart_at y answers own.0 k (omega arith) at in
        let missed : has_key (key_of x) y ≡ false = false_from_ne_true (has_key (key_of x) y) (λ h. differs (sym ((keys_decide (key_of x) (key_of y)).0 h))) in
        ap (λ (b : Bool). if b then Some y else of_key (key_of x) answers) missed ∙ go answers own.1 k (omega arith) at

-- each of these is found by its key
all_found : (some answers : List KeptAnswer) → HaveOwnDigests answers → ((x : KeptAnswer) → Contains some x → Contains answers x)
    → map (λ (k : Key). of_key k answers) (map key_of some) ≡ map (λ (x : KeptAnswer). Some x) some
all_found [] answers own within = refl
all_found (x ∷ some) answers own within =
    ap₂ (λ (o : Option KeptAnswer) (l : List (Option KeptAnswer)). o ∷ l) (found x answers own (within x (0, (let fits : 0 < suc (length some) = omega arith in fits), refl)))
    (all_found some answers own (λ y there. within y (suc there.0, (let inside = there.1 in let fits : suc there.0 < suc (length some) = omega arith in fits), there.2)))

all_same_some : (xs ys : List KeptAnswer) → map (λ (x : KeptAnswer). Some x) xs ≡ map (λ (x : KeptAnswer). Some x) ys → xs ≡ ys
all_same_some [] [] same = refl
all_same_some [] (y ∷ ys) same = absurd (let count = ap length same in omega arith)
all_same_some (x ∷ xs) [] same = absurd (let count = ap length same in omega arith)
all_same_some (x ∷ xs) (y ∷ ys) same =
    let first : x ≡ y = cc in
    let rest : map (λ (x : KeptAnswer). Some x) xs ≡ map (λ (x : KeptAnswer). Some x) ys = cc in
    ap₂ (λ (z : KeptAnswer) (l : List KeptAnswer). z ∷ l) first (all_same_some xs ys rest)

-- the same answers, with their keys in the same order, are the same list
pub same_list : (xs ys : List KeptAnswer) → HaveOwnDigests ys → IsPermutation xs ys → map key_of xs ≡ map key_of ys → xs ≡ ys
same_list xs ys own moved keys =
    all_same_some xs ys (sym (all_found xs ys own (λ x there. Contains-permutation xs ys x moved there)) ∙ ap (map (λ (k : Key). of_key k ys)) keys ∙ all_found ys ys own (λ x there. there))

-- ---- stores

uses_moved : (next : ℕ) (rows others : List UseRow) (answers : List KeptAnswer) → IsPermutation rows others → AreUsesOf next others answers → AreUsesOf next rows answers
uses_moved next rows others answers moved it =
    record { ticks = it.ticks; as_many = it.as_many; fall = it.fall; rows_are = IsPermutation-trans rows others (use_rows answers it.ticks) moved it.rows_are }

pub held_alike : (db : Database) (a b : Kept) → IsComplete a → IsComplete b → HoldsStore db a → HoldsStore db b → AreAlike a b
held_alike db a b obeys other holds also =
    let first = holds.holds in
    let second = also.holds in
    let rows = same_uses first.rows second.rows (db.trees 13) first.holds.0.1.stored second.holds.0.1.stored in
    let keys = one_list holds.next also.next first.rows a.answers b.answers first.uses (uses_moved also.next first.rows second.rows b.answers rows second.uses) in
    alike_from_same a b obeys other (holds_one db (tables_of a) (tables_of b) first.holds.0.0 second.holds.0.0)
    (λ moved. same_list a.answers b.answers (own_digests b.contents other.apart b.answers other.sound_answers other.answers other.keys) moved keys)

pub left_alike : (trees : Trees) (a b : Kept) → Leaves a trees → Leaves b trees → AreAlike a b
left_alike trees a b left also = held_alike (as_store trees) a b left.complete also.complete left.holds also.holds
