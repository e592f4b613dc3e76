-- What the calls of a store make of it as a book.
use Rattle.std.specs.Prelude.{◌≡◌, ◌⊎◌, ◌≤◌, ℕ, Bool, true, false, not, ◌||◌, List, [], ◌∷◌, map, length, is_some, Option, None, Some, Result, Ok, Err, IsTrue, option_map, refl}
use Rattle.std.proofs.Common.{ap, sym, ◌∙◌, inl, inr, subst, arith}
use Rattle.std.proofs.lemmas.List.{length-map}
use Rattle.std.specs.List.{list_any}
use Rattle.child_port.specs.declared.answer.Answer.{Answer}
use Rattle.child_port.specs.Seen.{is_stray}
use Rattle.hook_base.specs.declared.file.File.{File}
use Rattle.hook_base.specs.declared.change.Change.{Change}
use Rattle.hook_base.specs.Trees.{entry_of}
use Rattle.sqlite_trees.specs.declared.store.Store.{Ghosts}
use Rattle.sqlite.specs.Held.{state}
use Rattle.sqlite.specs.State.{HasCleanDisk}
use Rattle.repo_store.proofs.Kit.{survives_weaker}
use Rattle.store_faults.specs.declared.fault.StoreFault.{StoreFault}
use Rattle.repo_store.specs.declared.stored_answer.StoredAnswer.{StoredAnswer}
use Rattle.repo_store.specs.AllOrNothing.{IsAllOrNothing}
use Rattle.repo_store.specs.AnswerRefs.{stored_answer}
use Rattle.repo_store.specs.Answers.{HaveOwnKeys, KeptAnswer, answer_for}
use Rattle.repo_store.specs.Complete.{AreAlike, IsAmong, IsComplete}
use Rattle.repo_store.specs.Kept.{Kept, forgetting, using}
use Rattle.repo_store.specs.Remembering.{remembering}
use Rattle.repo_store.specs.Repository.{Repository}
use Rattle.repo_store.specs.Rows.{tables_of}
use Rattle.repo_store.specs.Shown.{IsNumberedAnew, IsOneTransaction, IsOneUse, Leaves, Shown, Stands}
use Rattle.repo_store.specs.WrittenAnswers.{contents_for}
use Rattle.repo_store.proofs.CallLemmas.{leaves_commit}
use Rattle.repo_store.proofs.RememberLemmas.{still_there}
use Rattle.repo_store.specs.SoundAnswers.{KeepToSeen}
use Rattle.repo_store.proofs.AlikeLemmas.{left_alike}
use Rattle.result_book.specs.Calls.{AfterFind, AfterForget, AfterPut, brought, with_row}
use Rattle.result_book.specs.Contents.{Contents, Finds, IsBook, IsHeld, count_of, with_rows}
use Rattle.result_book.specs.OrderLemmas.{after_found, after_putting}
use Rattle.repo_store.specs.RestLemmas.{rests_itself, rests_on}
use Rattle.repo_store.specs.StoreBooks.{IsAtRest, LeavesRepository, MayLeave, MayRemember, answer_in, given_answer, remembered_by, row_of}
use Rattle.repo_store.proofs.StoreRowLemmas.{distinct_rows, has_from, lacks_from, rows_put, rows_used}

-- ---- what is found

module _ (words : List (List ℕ)) (seen : List File) where
  finds_as : (limit : ℕ) (answers : List KeptAnswer) (found : Option KeptAnswer) → answer_for words seen answers ≡ found
      → Finds words seen (with_rows limit (map row_of answers)) (option_map answer_in (option_map stored_answer found))
  finds_as limit answers None is = lacks_from words seen answers is
  finds_as limit answers (Some found) is = has_from words seen answers found is

  pub finds_from : (kept : Kept) (given : Option Answer) (found : Option StoredAnswer) → given ≡ option_map answer_in found → found ≡ option_map stored_answer (answer_for words seen kept.answers)
      → Finds words seen (remembered_by kept) given
  finds_from kept given found given_is is =
      subst (Finds words seen (remembered_by kept)) (sym (given_is ∙ ap (option_map answer_in) is)) (finds_as kept.limit kept.answers (answer_for words seen kept.answers) refl)

  held_as : (limit : ℕ) (answers : List KeptAnswer) (found : Option KeptAnswer) → answer_for words seen answers ≡ found
      → IsHeld words seen (with_rows limit (map row_of answers)) (is_some found)
  held_as limit answers None is = lacks_from words seen answers is
  held_as limit answers (Some found) is = (given_answer found, has_from words seen answers found is)

  pub held_from : (kept : Kept) (held : Bool) → held ≡ is_some (answer_for words seen kept.answers) → IsHeld words seen (remembered_by kept) held
  held_from kept held is = subst (IsHeld words seen (remembered_by kept)) (sym is) (held_as kept.limit kept.answers (answer_for words seen kept.answers) refl)

-- if two options are the same but for what they hold, both hold something or none does
pub some_alike : {A B C : Type 0} (f : A → C) (g : B → C) (x : Option A) (y : Option B) → option_map f x ≡ option_map g y → is_some x ≡ is_some y
some_alike f g None None same = refl
some_alike f g None (Some y) same = absurd (cc)
some_alike f g (Some x) None same = absurd (cc)
some_alike f g (Some x) (Some y) same = refl

-- ---- what is remembered

-- no more answers are remembered than the limit
pub within_rows : (kept : Kept) → length kept.answers ≤ kept.limit → count_of (remembered_by kept) ≤ kept.limit
within_rows kept few = let as_many = length-map kept.answers row_of in omega arith

book_of : (kept : Kept) → IsComplete kept → IsBook (remembered_by kept)
book_of kept complete = record { distinct = distinct_rows kept.answers complete.keys; within = within_rows kept complete.few; limited = complete.limited }

same_remembered : (a b : Kept) → AreAlike a b → remembered_by a ≡ remembered_by b
same_remembered a b same = ap (λ (limit : ℕ). with_rows limit (map row_of a.answers)) same.limit ∙ ap (λ (answers : List KeptAnswer). with_rows b.limit (map row_of answers)) same.answers

pub used_book : (words : List (List ℕ)) (seen : List File) (kept : Kept) → remembered_by (using words seen kept) ≡ brought words seen (remembered_by kept)
used_book words seen kept = ap (with_rows kept.limit) (rows_used words seen kept.answers)

put_book : (new : KeptAnswer) (kept : Kept) → remembered_by (remembering new kept) ≡ with_row new.words new.seen (given_answer new) (remembered_by kept)
put_book new kept = ap (with_rows kept.limit) (rows_put kept.limit new kept.answers)

-- what a use leaves
pub after_use : (words : List (List ℕ)) (seen : List File) (kept : Kept) (after : Contents) → HaveOwnKeys kept.answers → after ≡ remembered_by (using words seen kept)
    → AfterFind words seen (remembered_by kept) after
after_use words seen kept after own is = after_found words seen (remembered_by kept) after (distinct_rows kept.answers own) (is ∙ used_book words seen kept)

-- what a new answer leaves
after_new : (new : KeptAnswer) (kept : Kept) (answer : Answer) (after : Contents) → given_answer new ≡ answer → IsBook after → after ≡ remembered_by (remembering new kept)
    → AfterPut new.words new.seen answer (remembered_by kept) after
after_new new kept answer after given book is =
    subst (λ (a : Answer). AfterPut new.words new.seen a (remembered_by kept) after) given
    (after_putting new.words new.seen (given_answer new) (remembered_by kept) after book.distinct book.limited.at_least (is ∙ put_book new kept))

pub after_forgetting : (kept : Kept) (after : Contents) → after ≡ remembered_by (forgetting kept) → AfterForget (remembered_by kept) after
after_forgetting kept after is = record { none = ap (λ (all : Contents). all.rows) is; limit = ap (λ (all : Contents). all.limit) is }

-- ---- an answer that keeps to its seen files

pub keeps_from : (seen : List File) (answer : Answer) → is_stray answer seen ≡ false → KeepToSeen answer.changes seen
keeps_from seen answer = go answer.changes
  where
    go : (changes : List Change) → list_any (λ (change : Change). not (is_some (entry_of change.path seen))) changes ≡ false → KeepToSeen changes seen
    go [] none = tt
    go (change ∷ changes) none =
        elim (is_some (entry_of change.path seen)) as (λ b. (not b || list_any (λ (other : Change). not (is_some (entry_of other.path seen))) changes) ≡ false → (b ≡ true) × KeepToSeen changes seen) [
          | true ↦ λ later. (refl, go changes later)
          | false ↦ λ never. absurd (let no : true ≡ false = never in cc)
        ] none

-- ---- what a crash leaves, and what rests

-- while the connection is open, what is committed may be left
abbrev Stays : {S : Type 0} → Ghosts S → Shown S → Type 0
Stays g shown = IsTrue (state g shown.conn).is_open → (state g shown.conn).may_leave (state g shown.conn).committed.trees

-- what is committed is a store of what stands
leaves_now : {S : Type 0} (g : Ghosts S) (shown : Shown S) → Stands g shown.conn shown.kept → IsTrue (state g shown.conn).is_open → Leaves shown.kept (state g shown.conn).committed.trees
leaves_now g shown stands is_open =
    let held = stands.committed is_open in
    record {
      holds = record {
        next = held.next;
        first = held.first;
        last = held.last;
        holds = leaves_commit (state g shown.conn).committed (state g shown.conn).committed.trees held.next shown.kept.answers (tables_of shown.kept) held.holds refl;
      };
      complete = stands.complete;
      obeys = stands.obeys;
    }

-- a crash may leave then what stands, while the connection is open
remembers_now : {S : Type 0} (g : Ghosts S) (shown : Shown S) → Stays g shown → Stands g shown.conn shown.kept → HasCleanDisk (state g shown.conn) → IsTrue (state g shown.conn).is_open
    → (left : Contents) → left ≡ remembered_by shown.kept → MayRemember g shown left
remembers_now g shown stays stands clean is_open left is = record {
  clean = clean;
  trees = (state g shown.conn).committed.trees;
  may = stays is_open;
  kept = shown.kept;
  leaves = leaves_now g shown stands is_open;
  remembers = is;
}

module _ {S A : Type 0} (g : Ghosts S) (old new : Shown S) (result : Result A StoreFault) (after : Kept) (it : IsOneTransaction g old new result after) where
  -- a crash leaves what it could leave before, or what the call makes of it
  pub left_over : (left : Contents) → MayRemember g new left → MayRemember g old left ⊎ (IsBook left × (left ≡ remembered_by after))
  left_over left may =
      elim (it.crash.crash may.clean may.trees may.may) [
        | inl earlier ↦ inl (record { clean = omega (arith, it.crash.clean, may.clean); trees = may.trees; may = earlier; kept = may.kept; leaves = may.leaves; remembers = may.remembers })
        | inr made ↦ inr (subst IsBook (sym may.remembers) (book_of may.kept may.leaves.complete), may.remembers ∙ same_remembered may.kept after (left_alike may.trees may.kept after may.leaves made))
      ]

  -- where the connection was shut, only what it could leave before
  left_shut : (left : Contents) → (state g old.conn).is_open ≡ false → MayRemember g new left → MayRemember g old left
  left_shut left shut may =
      elim ((it.shut shut).crash may.clean may.trees may.may) [
        | inl earlier ↦ record { clean = omega (arith, it.crash.clean, may.clean); trees = may.trees; may = earlier; kept = may.kept; leaves = may.leaves; remembers = may.remembers }
        | inr none ↦ absurd none
      ]

module _ {S A : Type 0} (g : Ghosts S) (old new : Shown S) (result : Result A StoreFault) (after : Kept) (change : IsAllOrNothing old.kept new.kept result after)
    (it : IsOneTransaction g old new result after) where
  -- the repository that stood in the tables may have been left before
  shown_left : Stays g old → Stands g old.conn old.kept → IsTrue (state g old.conn).is_open → MayLeave g old old.kept.repo
  shown_left stays stands is_open = record {
    trees = (state g old.conn).committed.trees;
    may = stays is_open;
    left = record { kept = old.kept; leaves = leaves_now g old stands is_open; same = refl };
  }

  left_before : Stays g old → after.repo ≡ old.kept.repo → HasCleanDisk (state g new.conn) → Stands g old.conn old.kept → (repo : Repository) → MayLeave g new repo → MayLeave g old repo
  left_before stays same clean stands repo may =
      elim (it.crash.crash clean may.trees may.may) [
        | inl earlier ↦ record { trees = may.trees; may = earlier; left = may.left }
        | inr made ↦
            let is : old.kept.repo ≡ repo = sym same ∙ sym (left_alike may.trees may.left.kept after may.left.leaves made).repo ∙ may.left.same in
            elim (state g old.conn).is_open as (λ b. (state g old.conn).is_open ≡ b → MayLeave g old repo) [
              | true ↦ λ is_open. subst (MayLeave g old) is (shown_left stays stands is_open)
              | false ↦ λ shut. elim ((it.shut shut).crash clean may.trees may.may) [ inl earlier ↦ record { trees = may.trees; may = earlier; left = may.left } | inr none ↦ absurd none ]
            ] refl
      ]

  -- what changes the answers and the contents alone leaves the repository at rest
  pub rests_over : Stays g old → after.repo ≡ old.kept.repo → ((bytes : List ℕ) → IsAmong old.kept.contents bytes → IsAmong after.contents bytes) → IsAtRest g old new
  rests_over stays repo grows = record {
    repo = repo_after result change;
    contents = contents_after result change;
    stands = λ _. it.stands;
    survives = survives_weaker (state g old.conn) (state g new.conn) (Leaves after) (LeavesRepository old.kept.repo) (λ _ trees left. record { kept = after; leaves = left; same = repo }) it.crash;
    left = left_before stays repo;
  }
    where
      repo_after : (r : Result A StoreFault) → IsAllOrNothing old.kept new.kept r after → new.kept.repo ≡ old.kept.repo
      repo_after (Ok x) done = ap (λ (kept : Kept). kept.repo) done.done ∙ repo
      repo_after (Err fault) done = ap (λ (kept : Kept). kept.repo) done.same

      contents_after : (r : Result A StoreFault) → IsAllOrNothing old.kept new.kept r after → (bytes : List ℕ) → IsAmong old.kept.contents bytes → IsAmong new.kept.contents bytes
      contents_after (Ok x) done bytes among = subst (λ (kept : Kept). IsAmong kept.contents bytes) (sym done.done) (grows bytes among)
      contents_after (Err fault) done bytes among = subst (λ (kept : Kept). IsAmong kept.contents bytes) (sym done.same) among

-- ---- the uses are numbered again, or not

module _ {S : Type 0} (g : Ghosts S) (stays : (shown : Shown S) → Stays g shown) (old between : Shown S) (numbered : (between ≡ old) ⊎ IsNumberedAnew g old between) where
  numbered_kept : between.kept ≡ old.kept
  numbered_kept = elim numbered [ inl same ↦ ap (λ (shown : Shown S). shown.kept) same | inr anew ↦ anew.same ]

  numbered_left : (left : Contents) → MayRemember g between left → MayRemember g old left
  numbered_left left may =
      elim numbered [
        | inl same ↦ subst (λ (shown : Shown S). MayRemember g shown left) same may
        | inr anew ↦ elim (left_over g old between anew.result old.kept anew.transaction left may) [
          | inl earlier ↦ earlier
          | inr made ↦ elim (state g old.conn).is_open as (λ b. (state g old.conn).is_open ≡ b → MayRemember g old left) [
            | true ↦ λ is_open. remembers_now g old (stays old) anew.stood (omega (arith, anew.transaction.crash.clean, may.clean)) is_open left made.1
            | false ↦ λ shut. left_shut g old between anew.result old.kept anew.transaction left shut may
          ] refl
        ]
      ]

  numbered_rest : IsAtRest g old between
  numbered_rest =
      elim numbered [
        | inl same ↦ subst (IsAtRest g old) (sym same) (rests_itself g old)
        | inr anew ↦ rests_over g old between anew.result old.kept (all_kept anew.result anew.same) anew.transaction (stays old) refl (λ bytes among. among)
      ]
    where
      all_kept : (r : Result (Unit {0}) StoreFault) → between.kept ≡ old.kept → IsAllOrNothing old.kept between.kept r old.kept
      all_kept (Ok x) same = record { done = same; same = tt }
      all_kept (Err fault) same = record { done = tt; same = same }

module _ {S A : Type 0} (g : Ghosts S) (stays : (shown : Shown S) → Stays g shown) (old new : Shown S) (result : Result A StoreFault) (after : Kept) (it : IsOneUse g old new result after) where
  left_use : (left : Contents) → MayRemember g new left → MayRemember g old left ⊎ (IsBook left × (left ≡ remembered_by after))
  left_use left may =
      elim (left_over g it.between new result after it.transaction left may) [
        | inl earlier ↦ inl (numbered_left g stays old it.between it.numbered left earlier)
        | inr made ↦ inr made
      ]

  rest_use : IsAllOrNothing old.kept new.kept result after → after.repo ≡ old.kept.repo → ((bytes : List ℕ) → IsAmong old.kept.contents bytes → IsAmong after.contents bytes) → IsAtRest g old new
  rest_use change repo grows =
      let same = sym (numbered_kept g stays old it.between it.numbered) in
      rests_on g old it.between new (numbered_rest g stays old it.between it.numbered)
      (rests_over g it.between new result after (subst (λ (kept : Kept). IsAllOrNothing kept new.kept result after) same change) it.transaction (stays it.between)
      (subst (λ (kept : Kept). after.repo ≡ kept.repo) same repo) (subst (λ (kept : Kept). (bytes : List ℕ) → IsAmong kept.contents bytes → IsAmong after.contents bytes) same grows))

-- ---- the calls

module _ {S A : Type 0} (g : Ghosts S) (stays : (shown : Shown S) → Stays g shown) (old new : Shown S) (result : Result A StoreFault) (words : List (List ℕ)) (seen : List File)
    (it : (new ≡ old) ⊎ IsOneUse g old new result (using words seen old.kept)) where
  pub left_found : HaveOwnKeys old.kept.answers → (left : Contents) → MayRemember g new left → MayRemember g old left ⊎ AfterFind words seen (remembered_by old.kept) left
  left_found own left may =
      elim it [
        | inl same ↦ inl (subst (λ (shown : Shown S). MayRemember g shown left) same may)
        | inr it_is ↦ elim (left_use g stays old new result (using words seen old.kept) it_is left may) [
          | inl earlier ↦ inl earlier
          | inr made ↦ inr (after_use words seen old.kept left own made.1)
        ]
      ]

  pub rest_found : IsAllOrNothing old.kept new.kept result (using words seen old.kept) → IsAtRest g old new
  rest_found change =
      elim it [
        | inl same ↦ subst (IsAtRest g old) (sym same) (rests_itself g old)
        | inr it_is ↦ rest_use g stays old new result (using words seen old.kept) it_is change refl (λ bytes among. among)
      ]

module _ {S A : Type 0} (g : Ghosts S) (stays : (shown : Shown S) → Stays g shown) (old new : Shown S) (result : Result A StoreFault) (kept : KeptAnswer) (answer : Answer)
    (is : given_answer kept ≡ answer)
    (it : IsOneUse g old new result (remembering kept old.kept)) where
  pub left_put : (left : Contents) → MayRemember g new left → MayRemember g old left ⊎ AfterPut kept.words kept.seen answer (remembered_by old.kept) left
  left_put left may =
      elim (left_use g stays old new result (remembering kept old.kept) it left may) [
        | inl earlier ↦ inl earlier
        | inr made ↦ inr (after_new kept old.kept answer left is made.0 made.1)
      ]

  pub rest_put : IsAllOrNothing old.kept new.kept result (remembering kept old.kept) → IsAtRest g old new
  rest_put change = rest_use g stays old new result (remembering kept old.kept) it change refl (λ bytes among. still_there bytes (contents_for kept) old.kept.contents among)

  pub after_put : new.kept ≡ remembering kept old.kept → AfterPut kept.words kept.seen answer (remembered_by old.kept) (remembered_by new.kept)
  after_put done = after_new kept old.kept answer (remembered_by new.kept) is (book_of new.kept it.transaction.stands.complete) (ap remembered_by done)

module _ {S A : Type 0} (g : Ghosts S) (old new : Shown S) (result : Result A StoreFault) (it : IsOneTransaction g old new result (forgetting old.kept)) where
  pub left_forgotten : (left : Contents) → MayRemember g new left → MayRemember g old left ⊎ AfterForget (remembered_by old.kept) left
  left_forgotten left may =
      elim (left_over g old new result (forgetting old.kept) it left may) [
        | inl earlier ↦ inl earlier
        | inr made ↦ inr (after_forgetting old.kept left made.1)
      ]

  pub rest_forgotten : Stays g old → IsAllOrNothing old.kept new.kept result (forgetting old.kept) → IsAtRest g old new
  rest_forgotten stays change = rests_over g old new result (forgetting old.kept) change it stays refl (λ bytes among. among)
