-- What a look-up makes of a store.
use Rattle.std.proofs.Common.{◌≡◌, ◌⊎◌, ℕ, Bool, true, false, not, List, [], ◌∷◌, filter, Option, None, Some, Ok, Err, if◌then◌else◌, Contains, refl, sym, ap, subst, ◌∙◌}
use Rattle.std.specs.List.{AllByRecursion, Any}
use Rattle.std.proofs.lemmas.List.Elements.{All-contains, All-from_recursion}
use Rattle.repo_store.proofs.Kit.{filter_all}
use Rattle.sqlite_trees.specs.declared.store.Store.{Ghosts}
use Rattle.hook_base.specs.declared.file.File.{File}
use Rattle.repo_store.specs.AnswerLemmas.{found_among, is_for_decides, is_for_itself, one_key, other_key_back}
use Rattle.repo_store.specs.Answers.{KeptAnswer, HaveOwnKeys, answer_for, have_one_key, is_for}
use Rattle.repo_store.specs.Complete.{IsComplete}
use Rattle.repo_store.specs.Index.{Key, key_of}
use Rattle.repo_store.specs.Kept.{Kept, using}
use Rattle.repo_store.specs.ListedAnswers.{HaveAnswer, first_key}
use Rattle.repo_store.specs.Remembered.{TellsKey}
use Rattle.repo_store.specs.Shown.{IsNumberedAnew, IsOneTransaction, IsOneUse, Shown, Stands}
use Rattle.repo_store.specs.Standing.{bringing}
use Rattle.repo_store.specs.UsedAnswers.{in_front, in_front_if_any, used}
use Rattle.repo_store.proofs.AnswerListLemmas.{brought_used, same_key}
use Rattle.repo_store.proofs.RememberLemmas.{tell_keys}
use Rattle.repo_store.proofs.RowRuleLemmas.{all_weaker}
use Rattle.repo_store.proofs.StandLemmas.{unasked}

-- ---- what is found, and where it stands then

-- an answer that is found has its key among those of all
pub there_by : (words : List (List ℕ)) (seen : List File) (answers : List KeptAnswer) (key : Key) → HaveAnswer words seen answers key → Any (λ (answer : KeptAnswer). key_of answer ≡ key) answers
there_by words seen answers key have = let it = found_among words seen have.0 answers have.1.0 in (it.0.0, have.0, it.0.1, it.0.2, have.1.1)

pub used_so : (words : List (List ℕ)) (seen : List File) (kept : Kept) (key : Key) → IsComplete kept → HaveAnswer words seen kept.answers key → bringing key kept ≡ using words seen kept
used_so words seen kept key it have =
    ap (λ (answers : List KeptAnswer). record kept { answers = answers }) (brought_used kept.contents it.apart words seen have.0 key kept.answers it.sound_answers it.answers have.1.0 have.1.1)

-- the first of answers with keys of their own comes to the front, and all is as it was
first_stays : (answer : KeptAnswer) (others : List KeptAnswer) → HaveOwnKeys (answer ∷ others) → in_front answer (answer ∷ others) ≡ answer ∷ others
first_stays answer others own =
    let p = λ (other : KeptAnswer). not (is_for answer.words answer.seen other) in
    let rest : filter p others ≡ others =
    filter_all p others (all_weaker (λ (other : KeptAnswer). have_one_key answer other ≡ false) (λ (other : KeptAnswer). p other ≡ true) others
    (λ other apart. ap not (other_key_back answer other apart)) own.0) in
    ap (λ (b : Bool). answer ∷ (if not b then answer ∷ filter p others else filter p others)) (is_for_itself answer) ∙ ap (λ (l : List KeptAnswer). answer ∷ l) rest

first_used : (words : List (List ℕ)) (seen : List File) (answers : List KeptAnswer) (answer : KeptAnswer) → HaveOwnKeys answers → AllByRecursion (TellsKey answer) answers
    → answer_for words seen answers ≡ Some answer
    → first_key answers ≡ Some (key_of answer) → used words seen answers ≡ answers
first_used words seen [] answer own tells found first = refl
first_used words seen (head ∷ rest) answer own tells found first =
    let same : key_of head ≡ key_of answer = same_key first in
    let one = one_key head answer (tells.0 same) in
    let it = found_among words seen answer (head ∷ rest) found in
    let keys = (is_for_decides words seen answer).0 it.1 in
    let for_head : is_for words seen head ≡ true = (is_for_decides words seen head).1 (one.0 ∙ keys.0, one.1 ∙ keys.1) in
    let head_found : answer_for words seen (head ∷ rest) ≡ Some head = ap (λ (b : Bool). if b then Some head else answer_for words seen rest) for_head in
    ap (λ (o : Option KeptAnswer). in_front_if_any o (head ∷ rest)) head_found ∙ first_stays head rest own

pub first_using : (words : List (List ℕ)) (seen : List File) (kept : Kept) (key : Key) → IsComplete kept → HaveAnswer words seen kept.answers key → first_key kept.answers ≡ Some key
    → using words seen kept ≡ kept
first_using words seen kept key it have first =
    let answer = have.0 in
    let told = told_of answer (found_among words seen answer kept.answers have.1.0).0 in
    ap (λ (answers : List KeptAnswer). record kept { answers = answers }) (first_used words seen kept.answers answer it.keys told have.1.0 (first ∙ ap Some (sym have.1.1)))
  where
    told_of : (answer : KeptAnswer) → Contains kept.answers answer → AllByRecursion (TellsKey answer) kept.answers
    told_of answer there =
        All-contains (λ (x : KeptAnswer). AllByRecursion (TellsKey x) kept.answers) kept.answers answer
        (All-from_recursion (λ (x : KeptAnswer). AllByRecursion (TellsKey x) kept.answers) kept.answers (tell_keys kept it)) there

-- where there is none, nothing is used
pub none_using : (words : List (List ℕ)) (seen : List File) (kept : Kept) → answer_for words seen kept.answers ≡ None → using words seen kept ≡ kept
none_using words seen kept none = ap (λ (o : Option KeptAnswer). record kept { answers = in_front_if_any o kept.answers }) none

-- ---- the whole call

pub refused_as : {S A B E F : Type 0} (g : Ghosts S) (old new : Shown S) (e : E) (f : F) (after : Kept) → IsOneTransaction {A = A} g old new (Err e) after
    → IsOneTransaction {A = B} g old new (Err f) after
refused_as g old new e f after it = record { stands = it.stands; crash = it.crash; durable = tt; shut = it.shut; opened = λ clean. tt }

pub done_as : {S A B E F : Type 0} (g : Ghosts S) (old new : Shown S) (x : A) (y : B) (after : Kept) → IsOneTransaction {E = E} g old new (Ok x) after → IsOneTransaction {E = F} g old new (Ok y) after
done_as g old new x y after it = record { stands = it.stands; crash = it.crash; durable = it.durable; shut = it.shut; opened = it.opened }

pub numbering_refused : {S A E : Type 0} (g : Ghosts S) (old new : Shown S) (fault : E) (after : Kept) → (new ≡ old) ⊎ IsNumberedAnew g old new → Stands g new.conn new.kept
    → IsOneUse {A = A} g old new (Err fault) after
numbering_refused g old new fault after numbered stands = record { between = new; numbered = numbered; transaction = unasked g new fault after stands }

pub use_refused : {S A B E F : Type 0} (g : Ghosts S) (old mid new : Shown S) (e : E) (f : F) (asked after : Kept) → (mid ≡ old) ⊎ IsNumberedAnew g old mid → asked ≡ after
    → IsOneTransaction {A = A} g mid new (Err e) asked
    → IsOneUse {A = B} g old new (Err f) after
use_refused {S} {A} {B} {E} {F} g old mid new e f asked after numbered is it =
    record { between = mid; numbered = numbered; transaction = subst (λ (k : Kept). IsOneTransaction {A = B} {E = F} g mid new (Err f) k) is (refused_as g mid new e f asked it) }

pub use_done : {S A B E F : Type 0} (g : Ghosts S) (old mid new : Shown S) (x : A) (y : B) (asked after : Kept) → (mid ≡ old) ⊎ IsNumberedAnew g old mid → asked ≡ after
    → IsOneTransaction {E = E} g mid new (Ok x) asked
    → IsOneUse {E = F} g old new (Ok y) after
use_done {S} {A} {B} {E} {F} g old mid new x y asked after numbered is it =
    record { between = mid; numbered = numbered; transaction = subst (λ (k : Kept). IsOneTransaction {A = B} {E = F} g mid new (Ok y) k) is (done_as g mid new x y asked it) }
