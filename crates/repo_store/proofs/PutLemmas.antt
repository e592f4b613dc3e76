-- An answer that is put: what the calls on the tables come to.
use Rattle.std.proofs.Common.{◌≡◌, ℕ, zero, suc, ◌+◌, ◌<◌, ◌≤◌, true, false, not, nat_lt, List, [], ◌∷◌, ◌++◌, length, take, drop, get_or, Option, None, Some, Result, Ok, Err, is_ok, OnOk, if◌then◌else◌, IsTrue, refl, sym, ap, subst, subst₂, ◌∙◌, arith, inl, ltb-true}
use Rattle.std.specs.List.{AllByRecursion, Any, slice_get}
use Rattle.std.proofs.lemmas.Bool.{false_from_ne_true, lt-ltb}
use Rattle.std.proofs.lemmas.List.{take_all}
use Rattle.repo_store.proofs.Kit.{filter_all}
use Rattle.sqlite_trees.specs.declared.store.Store.{Ghosts}
use Rattle.sqlite.specs.declared.error.Error.{Error}
use Rattle.sqlite.specs.Effect.{Database}
use Rattle.sqlite.specs.Held.{Held, state}
use Rattle.store_tables.specs.Tables.{Tables, without_answer}
use Rattle.repo_store.specs.AnswerLemmas.{other_key_back}
use Rattle.repo_store.specs.Answers.{KeptAnswer, HaveOwnKeys, have_one_key, is_for}
use Rattle.repo_store.specs.Bounded.{HoldsListed}
use Rattle.repo_store.specs.Index.{Key, key_of}
use Rattle.repo_store.specs.Kept.{Kept}
use Rattle.repo_store.specs.ListedAnswers.{last_key}
use Rattle.repo_store.specs.Remembered.{TellsKey}
use Rattle.repo_store.specs.Remembering.{with_answer_row}
use Rattle.repo_store.specs.Rows.{answer_row, with_blobs}
use Rattle.repo_store.specs.Standing.{TellKeys, put_tables, surplus_of, without_key_row}
use Rattle.repo_store.specs.Transactions.{IsCall}
use Rattle.repo_store.specs.UsedAnswers.{in_front, with_answer_within, without_key}
use Rattle.repo_store.specs.UsesOf.{TakesPlace}
use Rattle.repo_store.proofs.AnswerTableLemmas.{left_length, of_last, one_over}
use Rattle.repo_store.proofs.KeyLemmas.{keys_same}
use Rattle.repo_store.proofs.RowRuleLemmas.{all_weaker}

-- ---- how a call ends

pub ok_done : {T E P : Type 0} (r : Result T E) → is_ok r ≡ true → OnOk r P → P
ok_done (Ok x) e p = p
ok_done (Err y) e p = absurd (let never : false ≡ true = e in cc)

-- one that the database refuses, told as a fault
pub refused_as : {S A B E F : Type 0} (g : Ghosts S) (old new : Held S) (error : E) (fault : F) (Before After : Database → Type 0) → IsCall {A = A} g old new (Err error) Before After
    → IsCall {A = B} g old new (Err fault) Before After
refused_as g old new error fault Before After call = record { outside = call.outside; done = λ clean before. tt; kept = call.kept; survives = call.survives }

pub done_as : {S A B E F : Type 0} (g : Ghosts S) (old new : Held S) (x : A) (y : B) (Before After : Database → Type 0) → IsCall {E = E} g old new (Ok x) Before After
    → IsCall {E = F} g old new (Ok y) Before After
done_as g old new x y Before After call = record { outside = call.outside; done = call.done; kept = tt; survives = call.survives }

-- one that asks nothing of the database
pub not_asked : {S A E : Type 0} (g : Ghosts S) (conn : Held S) (fault : E) (Before After : Database → Type 0) → conn.in_transaction ≡ false
    → (IsTrue (state g conn).is_open → (state g conn).now ≡ (state g conn).committed) → IsCall {A = A} g conn conn (Err fault) Before After
not_asked g conn fault Before After outside settled = record {
  outside = outside;
  done = λ clean before. tt;
  kept = record { was_open = λ h. h; now = settled; committed = λ h. refl };
  survives = λ before. record {
    clean = omega arith;
    shield = λ shielded. shielded;
    counts = omega arith;
    limit = refl;
    closes = λ clean is_open. inl is_open;
    crash = λ clean trees left. inl left;
  };
}

-- ---- one too many

no_surplus : (limit : ℕ) (all : List KeptAnswer) → length all ≤ limit → surplus_of limit all ≡ None
no_surplus limit all fits =
    ap (λ b. if b then last_key all else None) (false_from_ne_true (nat_lt limit (length all)) (λ h. let over = ltb-true limit (length all) h in absurd (omega arith)))

some_surplus : (limit : ℕ) (all : List KeptAnswer) → limit < length all → surplus_of limit all ≡ last_key all
some_surplus limit all over = ap (λ b. if b then last_key all else None) (lt-ltb limit (length all) over)

same_some : {X : Type 0} {x y : X} → Some x ≡ Some y → x ≡ y
same_some e = cc

-- an answer of another key than the others
front_is : (answer : KeptAnswer) (others : List KeptAnswer) → HaveOwnKeys (answer ∷ others) → in_front answer others ≡ answer ∷ others
front_is answer others own =
    ap (λ (l : List KeptAnswer). answer ∷ l)
    (filter_all (λ (x : KeptAnswer). not (is_for answer.words answer.seen x)) others
    (all_weaker (λ (x : KeptAnswer). have_one_key answer x ≡ false) (λ (x : KeptAnswer). not (is_for answer.words answer.seen x) ≡ true) others (λ x apart. ap not (other_key_back answer x apart))
    own.0))

pub own_with : (answer : KeptAnswer) (others : List KeptAnswer) → HaveOwnKeys others → AllByRecursion (λ (other : KeptAnswer). ¬ (key_of other ≡ key_of answer)) others → HaveOwnKeys (answer ∷ others)
own_with answer others own absent = (
  all_weaker (λ (x : KeptAnswer). ¬ (key_of x ≡ key_of answer)) (λ (x : KeptAnswer). have_one_key answer x ≡ false) others
      (λ x none. false_from_ne_true (have_one_key answer x) (λ one. none (sym (keys_same answer x one)))) absent,
  own,
)

-- where one has the key, there are no more than before
one_fewer : (answer : KeptAnswer) (answers : List KeptAnswer) (k : ℕ) (other : KeptAnswer) → k < length answers → get_or answers k other ≡ other → key_of other ≡ key_of answer
    → AllByRecursion (TellsKey answer) answers
    → length (in_front answer answers) ≤ length answers
one_fewer answer [] k other within at same tells = absurd (omega arith)
one_fewer answer (first ∷ rest) zero other within at same tells =
    let left = without_key answer.words answer.seen rest in
    let one : have_one_key first answer ≡ true = tells.0 (ap key_of at ∙ same) in
    let fewer = left_length answer.words answer.seen rest in
    subst (λ b. suc (length (if not b then first ∷ left else left)) ≤ suc (length rest)) (sym one) (omega (arith, fewer))
one_fewer answer (first ∷ rest) (suc k) other within at same tells =
    let left = without_key answer.words answer.seen rest in
    let fewer = one_fewer answer rest k other (omega arith) at same tells.1 in
    elim (have_one_key first answer) as (λ b. suc (length (if not b then first ∷ left else left)) ≤ suc (length rest)) [ true ↦ omega arith | false ↦ omega arith ]

-- ---- in the tables

module _ {S A : Type 0} (g : Ghosts S) (old new : Held S) (r : Result A Error) (tick : ℕ) (answer : KeptAnswer) (others : List KeptAnswer) (t put : Tables) (own : HaveOwnKeys (answer ∷ others)) where
  abbrev Puts : ℕ → Type 0
  Puts limit = IsCall g old new r (λ db. HoldsListed tick others db t) (λ db. HoldsListed (tick + 1) (take limit (answer ∷ others)) db (without_key_row (surplus_of limit (answer ∷ others)) put))

  -- the answer is put next to the others
  pub put_beside : (limit : ℕ) → length (answer ∷ others) ≤ limit → IsCall g old new r (λ db. HoldsListed tick others db t) (λ db. HoldsListed (tick + 1) (in_front answer others) db put) → Puts limit
  put_beside limit fits call =
      subst₂ (λ (l : List KeptAnswer) (key : Option Key). IsCall g old new r (λ db. HoldsListed tick others db t) (λ db. HoldsListed (tick + 1) l db (without_key_row key put)))
      (front_is answer others own ∙ sym (take_all limit (answer ∷ others) fits)) (sym (no_surplus limit (answer ∷ others) fits)) call

  -- or the last one goes
  pub put_in_place : (limit : ℕ) (words seen : List ℕ) → TellKeys (answer ∷ others) → 1 ≤ limit → length others ≤ limit → limit < length (answer ∷ others)
      → last_key (answer ∷ others) ≡ Some (words, seen)
      → ((front : List KeptAnswer) (last : KeptAnswer) → key_of last ≡ (words, seen) → TakesPlace answer last front
      → IsCall g old new r (λ db. HoldsListed tick (front ++ last ∷ []) db t) (λ db. HoldsListed (tick + 1) (answer ∷ front) db (without_answer words seen put)))
      → Puts limit
  put_in_place zero words seen tells some few over key call = absurd (omega arith)
  put_in_place (suc limit) words seen tells some few over key call =
      let all : List KeptAnswer = answer ∷ others in
      let it = one_over (suc limit) all over (omega arith) in
      let last = it.last in
      let front = take limit others in
      let parted : others ≡ front ++ last ∷ [] = ap (drop 1) it.parted in
      let key_is : key_of last ≡ (words, seen) = same_some (sym it.key ∙ key) in
      let P = λ (x : KeptAnswer). AllByRecursion (TellsKey x) others in
      let told : AllByRecursion P others = all_weaker (λ (x : KeptAnswer). AllByRecursion (TellsKey x) all) P others (λ x each. each.1) tells.1 in
      let last_told : P last = of_last P front last (subst (AllByRecursion P) parted told) in
      let apart = all_weaker (λ (x : KeptAnswer). have_one_key answer x ≡ false) (λ (x : KeptAnswer). have_one_key x answer ≡ false) others (λ x none. other_key_back answer x none) own.0 in
      let place : TakesPlace answer last front = record {
        own = subst HaveOwnKeys parted own.1;
        tells = subst (AllByRecursion (TellsKey answer)) parted tells.0.1;
        last_tells = subst (AllByRecursion (TellsKey last)) parted last_told;
        absent = subst (AllByRecursion (λ (x : KeptAnswer). have_one_key x answer ≡ false)) parted apart;
      } in
      subst₂ (λ (l : List KeptAnswer) (k : Option Key). IsCall g old new r (λ db. HoldsListed tick l db t) (λ db. HoldsListed (tick + 1) (answer ∷ front) db (without_key_row k put)))
      (sym parted) (sym (some_surplus (suc limit) all over ∙ key)) (call front last key_is place)

module _ {S A E : Type 0} (g : Ghosts S) (old new : Held S) (r : Result A E) (tick limit : ℕ) (answer : KeptAnswer) (answers : List KeptAnswer) (news : List (List ℕ)) (t : Tables) where
  abbrev put : Tables
  put = with_answer_row (answer_row answer) (with_blobs news t)

  abbrev PutsWithin : Type 0
  PutsWithin = IsCall g old new r (λ db. HoldsListed tick answers db t) (λ db. HoldsListed (tick + 1) (with_answer_within limit answer answers) db (put_tables limit answers answer news t))

  -- an answer of the key was there
  pub put_again : Any (λ (other : KeptAnswer). key_of other ≡ key_of answer) answers → AllByRecursion (TellsKey answer) answers → length answers ≤ limit
      → IsCall g old new r (λ db. HoldsListed tick answers db t) (λ db. HoldsListed (tick + 1) (in_front answer answers) db put) → PutsWithin
  put_again any tells few call =
      let fits : length (in_front answer answers) ≤ limit = let fewer = one_fewer answer answers any.0 any.1 any.2 any.3 any.4 tells in omega arith in
      subst₂ (λ (l : List KeptAnswer) (key : Option Key). IsCall g old new r (λ db. HoldsListed tick answers db t) (λ db. HoldsListed (tick + 1) l db (without_key_row key put)))
      (sym (take_all limit (in_front answer answers) fits)) (sym (no_surplus limit (in_front answer answers) fits)) call

  -- or none was
  pub put_anew : HaveOwnKeys (answer ∷ answers)
      → IsCall g old new r (λ db. HoldsListed tick answers db t) (λ db. HoldsListed (tick + 1) (take limit (answer ∷ answers)) db (without_key_row (surplus_of limit (answer ∷ answers)) put))
      → PutsWithin
  put_anew own call =
      subst (λ (l : List KeptAnswer). IsCall g old new r (λ db. HoldsListed tick answers db t) (λ db. HoldsListed (tick + 1) (take limit l) db (without_key_row (surplus_of limit l) put)))
      (sym (front_is answer answers own)) call

-- ---- in memory

pub again_within : (limit : ℕ) (answer : KeptAnswer) (answers : List KeptAnswer) → Any (λ (other : KeptAnswer). key_of other ≡ key_of answer) answers → AllByRecursion (TellsKey answer) answers
    → length answers ≤ limit → in_front answer answers ≡ with_answer_within limit answer answers
again_within limit answer answers any tells few =
    let fewer = one_fewer answer answers any.0 any.1 any.2 any.3 any.4 tells in
    sym (take_all limit (in_front answer answers) (omega arith))

pub anew_within : (limit : ℕ) (answer : KeptAnswer) (answers : List KeptAnswer) → HaveOwnKeys (answer ∷ answers) → take limit (answer ∷ answers) ≡ with_answer_within limit answer answers
anew_within limit answer answers own = ap (take limit) (sym (front_is answer answers own))

-- ---- the newest one, as the code has it

module _ {S A : Type 0} (g : Ghosts S) (old new : Held S) (r : Result A Error) (tick limit : ℕ) (all : List KeptAnswer) (newest : KeptAnswer) (first : slice_get all 0 ≡ Some newest)
    (handed news : List (List ℕ)) (news_is : handed ≡ news) where
  module _ (answer : KeptAnswer) (others : List KeptAnswer) (is : all ≡ answer ∷ others) (own : HaveOwnKeys (answer ∷ others)) (tells : TellKeys (answer ∷ others)) (some : 1 ≤ limit)
      (few : length others ≤ limit) (t : Tables) where
    newest_is : newest ≡ answer
    newest_is = same_some (sym first ∙ ap (λ (l : List KeptAnswer). slice_get l 0) is)

    abbrev PutsNewest : Type 0
    PutsNewest =
        IsCall g old new r (λ db. HoldsListed tick others db t)
        (λ db. HoldsListed (tick + 1) (take limit (answer ∷ others)) db (without_key_row (surplus_of limit (answer ∷ others)) (with_answer_row (answer_row answer) (with_blobs news t))))

    pub newest_in_place : (words seen : List ℕ) → limit < length all → last_key all ≡ Some (words, seen)
        → ((front : List KeptAnswer) (last : KeptAnswer) → key_of last ≡ (words, seen) → TakesPlace newest last front
        → IsCall g old new r (λ db. HoldsListed tick (front ++ last ∷ []) db t)
        (λ db. HoldsListed (tick + 1) (newest ∷ front) db (without_answer words seen (with_answer_row (answer_row newest) (with_blobs handed t)))))
        → PutsNewest
    newest_in_place words seen over key call =
        put_in_place g old new r tick answer others t (with_answer_row (answer_row answer) (with_blobs news t)) own limit words seen tells some few
        (subst (λ (l : List KeptAnswer). limit < length l) is over) (subst (λ (l : List KeptAnswer). last_key l ≡ Some (words, seen)) is key)
        (subst₂ (λ (a : KeptAnswer) (n : List (List ℕ)). (front : List KeptAnswer) (last : KeptAnswer) → key_of last ≡ (words, seen) → TakesPlace a last front
        → IsCall g old new r (λ db. HoldsListed tick (front ++ last ∷ []) db t)
        (λ db. HoldsListed (tick + 1) (a ∷ front) db (without_answer words seen (with_answer_row (answer_row a) (with_blobs n t))))) newest_is news_is call)

    pub newest_beside : length all ≤ limit
        → (AllByRecursion (TellsKey newest) others → IsCall g old new r (λ db. HoldsListed tick others db t)
        (λ db. HoldsListed (tick + 1) (in_front newest others) db (with_answer_row (answer_row newest) (with_blobs handed t))))
        → PutsNewest
    newest_beside fits call =
        let put =
        subst₂ (λ (a : KeptAnswer) (n : List (List ℕ)). AllByRecursion (TellsKey a) others
        → IsCall g old new r (λ db. HoldsListed tick others db t) (λ db. HoldsListed (tick + 1) (in_front a others) db (with_answer_row (answer_row a) (with_blobs n t)))) newest_is news_is call in
        put_beside g old new r tick answer others t (with_answer_row (answer_row answer) (with_blobs news t)) own limit (subst (λ (l : List KeptAnswer). length l ≤ limit) is fits) (put tells.0.1)

-- ---- the newest one put, and then the last one gone in memory too

module _ {S A E : Type 0} (g : Ghosts S) (old new : Held S) (r : Result A E) (tick before : ℕ) where
  abbrev pub NewestPut : Kept → Type 0
  NewestPut mid =
      (answer : KeptAnswer) (others : List KeptAnswer) → mid.answers ≡ answer ∷ others → HaveOwnKeys (answer ∷ others) → TellKeys (answer ∷ others) → 1 ≤ mid.limit → length others ≤ mid.limit
      → (t : Tables)
      → IsCall g old new r (λ db. HoldsListed tick others db t)
      (λ db. HoldsListed (tick + 1) (take mid.limit (answer ∷ others)) db
      (without_key_row (surplus_of mid.limit (answer ∷ others)) (with_answer_row (answer_row answer) (with_blobs (drop before mid.contents) t))))

  pub put_anew_from : (kept mid : Kept) (answer : KeptAnswer) → mid ≡ record kept { answers = answer ∷ kept.answers } → HaveOwnKeys (answer ∷ kept.answers) → TellKeys (answer ∷ kept.answers)
      → 1 ≤ kept.limit → length kept.answers ≤ kept.limit → NewestPut mid
      → (t : Tables) → IsCall g old new r (λ db. HoldsListed tick kept.answers db t)
      (λ db. HoldsListed (tick + 1) (with_answer_within kept.limit answer kept.answers) db (put_tables kept.limit kept.answers answer (drop before kept.contents) t))
  put_anew_from kept mid answer mid_is own tells some few call t =
      let there : NewestPut (record kept { answers = answer ∷ kept.answers }) = subst NewestPut mid_is call in
      put_anew g old new r tick kept.limit answer kept.answers (drop before kept.contents) t own (there answer kept.answers refl own tells some few t)

pub within_from : (kept mid now : Kept) (answer : KeptAnswer) → mid ≡ record kept { answers = answer ∷ kept.answers } → HaveOwnKeys (answer ∷ kept.answers)
    → now ≡ record mid { answers = take mid.limit mid.answers } → now ≡ record kept { answers = with_answer_within kept.limit answer kept.answers }
within_from kept mid now answer mid_is own is =
    is ∙ ap (λ (k : Kept). record k { answers = take k.limit k.answers }) mid_is ∙ ap (λ (l : List KeptAnswer). record kept { answers = l }) (anew_within kept.limit answer kept.answers own)
