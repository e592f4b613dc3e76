-- Texts that are made item by item.
use Rattle.std.proofs.lemmas.Bool.{ne_eqb}
use Rattle.std.proofs.Common.{◌≡◌, ◌∙◌, ap, sym, refl, arith, append_assoc, ℕ, zero, suc, ◌+◌, ◌-◌, ◌<◌, ◌≤◌, Bool, true, false, List, [], ◌∷◌, ◌++◌, length, take, drop, get_or, slice_get, Option, None, Some, option_map, Result, Ok, Err}
use Rattle.std.specs.Prelude.{◌==◌, if◌then◌else◌, OnOk}
use Rattle.std.specs.List.{flat_map}
use Rattle.std.proofs.lemmas.List.{append-nil, drop_all, take_all}
use Rattle.std.proofs.lemmas.List.Sums.{position_or_len_is}
use Rattle.std.proofs.lemmas.Option.{slice_get-get_or}
use Rattle.memchr.specs.Find.{NoneBefore, Nowhere, Passes, is_byte}
use Rattle.repo_store.specs.Repository.{Commit, commit_at}
use Rattle.repository_text.specs.LogText.{first_line_of, log_line, log_text, log_text_from}
use Rattle.repository_text.specs.ShowText.{with_line_feed_at_end}

pub false_from_not : (b : Bool) → (b ≡ true → ⊥) → b ≡ false
false_from_not true differs = absurd (differs refl)
false_from_not false differs = refl

-- ---- a list from an index on

pub drop-some : {X : Type 0} (xs : List X) (i : ℕ) (x : X) → slice_get xs i ≡ Some x → drop i xs ≡ x ∷ drop (i + 1) xs
drop-some [] i x found = cc
drop-some (y ∷ ys) zero x found = let same : y ≡ x = cc in ap (λ first. first ∷ ys) same
drop-some (y ∷ ys) (suc i) x found =
    drop-some ys i x found ∙ ap (λ n. x ∷ drop n (y ∷ ys)) (let e : suc (i + 1) ≡ suc i + 1 = omega arith in e)

pub drop-none : {X : Type 0} (xs : List X) (i : ℕ) → slice_get xs i ≡ None → drop i xs ≡ []
drop-none [] zero none = refl
drop-none [] (suc i) none = refl
drop-none (y ∷ ys) zero none = cc
drop-none (y ∷ ys) (suc i) none = drop-none ys i none

-- ---- a text of a list's items

pub said-more : {X : Type 0} (text_of : X → List ℕ) (whole before after : List ℕ) (xs : List X) (i : ℕ) (x : X) → slice_get xs i ≡ Some x
    → whole ≡ before ++ flat_map text_of (drop i xs) → after ≡ before ++ text_of x → whole ≡ after ++ flat_map text_of (drop (i + 1) xs)
said-more text_of whole before after xs i x found so_far made =
    so_far ∙ ap (λ left. before ++ flat_map text_of left) (drop-some xs i x found)
    ∙ sym (append_assoc before (text_of x) (flat_map text_of (drop (i + 1) xs))) ∙ ap (λ text. text ++ flat_map text_of (drop (i + 1) xs)) (sym made)

pub said-all : {X : Type 0} (text_of : X → List ℕ) (whole before : List ℕ) (xs : List X) (i : ℕ) → slice_get xs i ≡ None
    → whole ≡ before ++ flat_map text_of (drop i xs) → before ≡ whole
said-all text_of whole before xs i none so_far =
    sym (so_far ∙ ap (λ left. before ++ flat_map text_of left) (drop-none xs i none) ∙ append-nil before)

-- ---- the first line of a message

pub first_line-found : (message : List ℕ) (end : ℕ) → NoneBefore (Passes (is_byte 10) message) 0 (length message) end → Passes (is_byte 10) message end
    → take end message ≡ first_line_of message
first_line-found message end before here =
    let within = before.high in
    ap (λ n. take n message)
    (sym (position_or_len_is (is_byte 10) message end 0 (omega arith)
    (λ k below. false_from_not (is_byte 10 (get_or message k 0)) (before.before k (omega arith) below)) (λ inside. here)))

pub first_line-whole : (message : List ℕ) → Nowhere (Passes (is_byte 10) message) 0 (length message) → message ≡ first_line_of message
first_line-whole message nowhere =
    sym (ap (λ n. take n message)
    (position_or_len_is (is_byte 10) message (length message) 0 (omega arith)
    (λ k below. false_from_not (is_byte 10 (get_or message k 0)) (nowhere k (omega arith) below)) (λ inside. absurd (omega arith)))
    ∙ take_all (length message) message (omega arith))

-- ---- the commits from the last down

abbrev pub message_in : Commit → List ℕ
message_in commit = commit.message

log-step : (history : List Commit) (k number : ℕ) (message : List ℕ) → Some message ≡ option_map message_in (slice_get history k)
    → log_text_from number (drop k history) ≡ log_text_from (number + 1) (drop (suc k) history) ++ log_line number message
log-step [] k number message found = cc
log-step (commit ∷ history) zero number message found =
    let same : message ≡ commit.message = cc in ap (λ text. log_text_from (number + 1) history ++ log_line number text) (sym same)
log-step (commit ∷ history) (suc k) number message found = log-step history k number message found

pub log-none : (history : List Commit) (number : ℕ) → number ≡ length history → log_text_from (number + 1) (drop number history) ≡ []
log-none history number is = ap (log_text_from (number + 1)) (drop_all number history (omega arith))

pub log-positive : (history : List Commit) (number : ℕ) (message : List ℕ) → Some message ≡ option_map message_in (commit_at number history) → 0 < number
log-positive history zero message found = cc
log-positive history (suc k) message found = omega arith

pub log-turn : (history : List Commit) (number : ℕ) (message : List ℕ) → Some message ≡ option_map message_in (commit_at number history)
    → log_text_from (number - 1 + 1) (drop (number - 1) history) ≡ log_text_from (number + 1) (drop number history) ++ log_line number message
log-turn history zero message found = cc
log-turn history (suc k) message found =
    let less : suc k - 1 ≡ k = omega arith in
    let more : k + 1 ≡ suc k = omega arith in
    ap (λ j. log_text_from (j + 1) (drop j history)) less ∙ ap (λ j. log_text_from j (drop k history)) more
    ∙ log-step history k (suc k) message found

nothing_there : (commit : Commit) (found : Option Commit) → found ≡ Some commit → None ≡ option_map message_in found → ⊥
nothing_there commit None is none = cc
nothing_there commit (Some other) is none = cc

abbrev no_commit : Commit
no_commit = record { message = []; tree = [] }

pub log-line-said : (before after line whole rest : List ℕ) → whole ≡ rest ++ line → before ≡ rest → after ≡ before ++ line → after ≡ whole
log-line-said before after line whole rest is so_far made = made ∙ ap (λ text. text ++ line) so_far ∙ sym is

pub log-end : (history : List Commit) (number : ℕ) → number ≤ length history → None ≡ option_map message_in (commit_at number history)
    → log_text_from (number + 1) (drop number history) ≡ log_text history
log-end history zero within none = refl
log-end history (suc k) within none =
    absurd (nothing_there (get_or history k no_commit) (slice_get history k) (slice_get-get_or history k no_commit (omega arith)) none)

-- ---- the message of a commit

cons-if : (b : Bool) (byte : ℕ) (xs ys : List ℕ) → byte ∷ (if b then xs else ys) ≡ (if b then byte ∷ xs else byte ∷ ys)
cons-if true byte xs ys = refl
cons-if false byte xs ys = refl

ended-by : (message : List ℕ) (byte : ℕ) → slice_get message (length message - 1) ≡ Some byte
    → with_line_feed_at_end message ≡ (if byte == 10 then message else message ++ 10 ∷ [])
ended-by [] byte found = cc
ended-by (first ∷ []) byte found =
    let same : first ≡ byte = cc in ap (λ last. if last == 10 then first ∷ [] else first ∷ 10 ∷ []) same
ended-by (first ∷ next ∷ more) byte found =
    let here : suc (suc (length more)) - 1 ≡ suc (length more) = omega arith in
    let there : suc (length more) - 1 ≡ length more = omega arith in
    let found_later : slice_get (next ∷ more) (length (next ∷ more) - 1) ≡ Some byte =
    ap (slice_get (next ∷ more)) there ∙ sym (ap (slice_get (first ∷ next ∷ more)) here) ∙ found in
    ap (λ text. first ∷ text) (ended-by (next ∷ more) byte found_later) ∙ cons-if (byte == 10) first (next ∷ more) ((next ∷ more) ++ 10 ∷ [])

pub ended-line : (message : List ℕ) (byte : ℕ) → slice_get message (length message - 1) ≡ Some byte → byte ≡ 10 → with_line_feed_at_end message ≡ message
ended-line message byte found is = ended-by message byte found ∙ ap (λ b. if b == 10 then message else message ++ 10 ∷ []) is

pub ended-other : (message : List ℕ) (byte : ℕ) → slice_get message (length message - 1) ≡ Some byte → (byte ≡ 10 → ⊥)
    → with_line_feed_at_end message ≡ message ++ 10 ∷ []
ended-other message byte found other = ended-by message byte found ∙ ap (λ b. if b then message else message ++ 10 ∷ []) (ne_eqb byte 10 other)

pub ended-empty : (message : List ℕ) → slice_get message (length message - 1) ≡ None → with_line_feed_at_end message ≡ message
ended-empty [] none = refl
ended-empty (first ∷ more) none =
    let there = slice_get-get_or (first ∷ more) (length (first ∷ more) - 1) 0 (omega arith) in cc

-- ---- results

pub on-ok : {A E P Q : Type 0} (result : Result A E) → (P → Q) → OnOk result P → OnOk result Q
on-ok (Ok answer) change holds = change holds
on-ok (Err error) change holds = tt
