-- A part of a plan that is looked up, and then started or not.
use Rattle.std.proofs.Common.{◌≡◌, ◌≢◌, ◌⊎◌, ◌∙◌, ap, sym, subst, refl, inl, inr, arith, ℕ, ◌+◌, ◌-◌, ◌^◌, Bool, true, false, List, [], ◌∷◌, Option, None, Some, Result, Ok, Err, IfOk, IfErr}
use Rattle.std.specs.Prelude.{MatchBool, not}
use Rattle.std.specs.Bool.{Decides}
use Rattle.hook_base.specs.declared.file.File.{File}
use Rattle.child_port.specs.Outcomes.{faults_in}
use Rattle.child_port.specs.Telling.{SameTells}
use Rattle.child_port.specs.declared.answer.Answer.{Answer}
use Rattle.child_port.specs.declared.answer.Outcome.{Outcome}
use Rattle.child_port.specs.declared.answer.Outcome.TheVariants.{Done, Failed}
use Rattle.child_port.specs.declared.fault.Fault.TheVariants.{NotStarted}
use Rattle.result_book.specs.declared.book_fault.BookFault.{BookFault}
use Rattle.result_book.specs.Calls.{AfterFind}
use Rattle.result_book.specs.CallLemmas.{found_after_find}
use Rattle.result_book.specs.Told.{AddsTold}
use Rattle.result_book.specs.ToldLemmas.{adds-then}
use Rattle.result_book.specs.Contents.{Contents, Finds}
use Rattle.hook_run.specs.declared.need.Need.TheVariants.{Child}
use Rattle.hook_run.specs.declared.part_outcome.PartOutcome.{PartOutcome}
use Rattle.hook_run.specs.declared.reuse.Reuse.{Reuse}
use Rattle.hook_run.specs.declared.run_refusal.RunRefusal.{RunRefusal}
use Rattle.hook_run.specs.declared.run_refusal.RunRefusal.TheVariants.{NoSuchHook, Spent}
use Rattle.hook_run.specs.AnswerLemmas.{answered-none, so-far-back_to, so-far-back_to-cut-off, so-far-back_to-last}
use Rattle.hook_run.specs.Answers.{AreAnswered}
use Rattle.hook_run.specs.Moments.{Moment, moment}
use Rattle.hook_run.specs.Parts.{Part}
use Rattle.hook_run.specs.PlanRuns.{IsPartStarted, IsPartStopped, IsPartUnput, part_of}
use Rattle.hook_run.specs.Plans.{CanComplete, Plan, need_of, part_with, seen_of_plan, words_of_plan}
use Rattle.hook_run.specs.Refusals.{run_refusal_of_book}
use Rattle.hook_run.specs.Reuses.{LacksServing, NeedsStart, serves}
use Rattle.hook_run.specs.Starts.{AfterOutcome, IsUnsteadyMark, IsReplayed, IsStarted, StartsFor}
use Rattle.hook_run.proofs.CompletionLemmas.{can-complete, can-follow}
use Rattle.hook_run.proofs.RunLemmas.{not-asked, not-spent}

-- a child is started where nothing was found, or that doesn't serve
starts-for : (reuse : Reuse) (found : Option Answer) (before after : Contents) (part : Part) → NeedsStart reuse found → IsStarted found before after part
    → StartsFor reuse found before after part (part ∷ [])
starts-for reuse None before after part needs started = (started, refl)
starts-for reuse (Some answer) before after part needs started =
    subst (λ (b : Bool). MatchBool b (IsReplayed answer before after part × (part ∷ [] ≡ [])) (IsStarted (Some answer) before after part × (part ∷ [] ≡ part ∷ []))) (sym needs) (started, refl)

module _ (tells : List (List ℕ) → List File → Outcome → Type 0) (reuse : Reuse) (plan : Plan) where
  pub part-started : (calls calls_after faults faults_after : ℕ) (before between after : Contents) (found : Option Answer) (part : Part)
      → Finds part.words part.seen before found → AfterFind part.words part.seen before between → NeedsStart reuse found
      → IsPartStarted tells found (moment calls faults between) (moment calls_after faults_after after) part
      → AreAnswered tells reuse (moment calls faults before) (moment calls_after faults_after after) (part ∷ [])
  part-started calls calls_after faults faults_after before between after found part finds look_up needs it = record {
    started = part ∷ [];
    starts = record {
      between = after;
      first = part ∷ [];
      others = [];
      one = record { found = found; looked_up = between; finds = finds; look_up = look_up; starts = starts-for reuse found between after part needs it.started };
      more = (refl, refl);
      joined = refl;
    };
    told = (it.told, tt);
    counted = record { called = it.counted.called; faulted = it.counted.faulted };
  }

  pub part-started_if : {E : Type 0} (calls calls_after faults faults_after : ℕ) (before between after : Contents) (found : Option Answer) (result : Result PartOutcome E)
      → Finds (words_of_plan plan) (seen_of_plan plan) before found → AfterFind (words_of_plan plan) (seen_of_plan plan) before between → NeedsStart reuse found
      → IfOk result (λ came. IsPartStarted tells found (moment calls faults between) (moment calls_after faults_after after) (part_of plan came))
      → IfOk result (λ came. AreAnswered tells reuse (moment calls faults before) (moment calls_after faults_after after) (part_of plan came ∷ []))
  part-started_if calls calls_after faults faults_after before between after found (Ok came) finds look_up needs it =
      part-started calls calls_after faults faults_after before between after found (part_of plan came) finds look_up needs it
  part-started_if calls calls_after faults faults_after before between after found (Err refusal) finds look_up needs it = tt

  -- what was found is replayed
  replayed : (calls faults : ℕ) (before after : Contents) (answer : Answer) → serves reuse answer ≡ true → Finds (words_of_plan plan) (seen_of_plan plan) before (Some answer)
      → AfterFind (words_of_plan plan) (seen_of_plan plan) before after → StartsFor reuse (Some answer) after after (part_with plan (Done answer) false) []
  replayed calls faults before after answer served finds look_up =
      let part = part_with plan (Done answer) false in
      subst (λ (b : Bool). MatchBool b (IsReplayed answer after after part × (◌≡◌ {A = List Part} [] [])) (IsStarted (Some answer) after after part × (◌≡◌ {A = List Part} [] (part ∷ []))))
      (sym served)
      (record { outcome = refl; steady = refl; kept = refl }, refl)

  pub part-replayed : (calls faults : ℕ) (before after : Contents) (answer : Answer) → serves reuse answer ≡ true → Finds (words_of_plan plan) (seen_of_plan plan) before (Some answer)
      → AfterFind (words_of_plan plan) (seen_of_plan plan) before after
      → AreAnswered tells reuse (moment calls faults before) (moment calls faults after) (part_with plan (Done answer) false ∷ [])
  part-replayed calls faults before after answer served finds look_up = record {
    started = [];
    starts = record {
      between = after;
      first = [];
      others = [];
      one = record { found = Some answer; looked_up = after; finds = finds; look_up = look_up; starts = replayed calls faults before after answer served finds look_up };
      more = (refl, refl);
      joined = refl;
    };
    told = tt;
    counted = record { called = omega arith; faulted = omega arith };
  }

  -- the look-up is refused
  pub part-unfound : (calls faults : ℕ) (before after : Contents) (refusal : RunRefusal) → after ≡ before → refusal ≢ NoSuchHook → refusal ≢ Spent
      → IsPartStopped tells reuse (moment calls faults before) (moment calls faults after) plan refusal
  part-unfound calls faults before after refusal kept asked countable = record {
    last = [];
    answered = record {
      done = [];
      last = [];
      between = moment calls faults before;
      split = refl;
      answered = answered-none tells reuse (moment calls faults before);
      stopped = inl (refl, ap (moment calls faults) kept);
    };
    begins = can-complete plan;
    cut_off = tt;
    asked = asked;
    needs = λ is. absurd (countable is);
    spent = λ is. absurd (countable is);
  }

  lacks-still : (before after : Contents) (found : Option Answer) → Finds (words_of_plan plan) (seen_of_plan plan) before found → AfterFind (words_of_plan plan) (seen_of_plan plan) before after
      → NeedsStart reuse found → LacksServing reuse (words_of_plan plan) (seen_of_plan plan) after
  lacks-still before after found finds look_up needs = record {
    found = found;
    finds = found_after_find (words_of_plan plan) (seen_of_plan plan) before after (words_of_plan plan) (seen_of_plan plan) found look_up finds;
    needs = needs;
  }

  -- no child told the part, or its answer isn't put
  pub part-unput : (calls calls_after faults faults_after : ℕ) (before between after : Contents) (found : Option Answer) (refusal : RunRefusal) → need_of plan ≡ Child
      → Finds (words_of_plan plan) (seen_of_plan plan) before found → AfterFind (words_of_plan plan) (seen_of_plan plan) before between → NeedsStart reuse found
      → IsPartUnput tells (moment calls faults between) (moment calls_after faults_after after) plan refusal
      → IsPartStopped tells reuse (moment calls faults before) (moment calls_after faults_after after) plan refusal
  part-unput calls calls_after faults faults_after before between after found refusal need finds look_up needs it =
      let looked_up = subst (AfterFind (words_of_plan plan) (seen_of_plan plan) before) (sym it.kept) look_up in
      record {
        last = it.last;
        answered = record {
          done = [];
          last = it.last;
          between = moment calls faults before;
          split = refl;
          answered = answered-none tells reuse (moment calls faults before);
          stopped = inr (
            part_with plan it.outcome it.unsteady,
            record {
              found = found;
              finds = finds;
              needs = needs;
              look_up = looked_up;
              this = it.this;
              told = it.told;
              counted = record { called = it.counted.called; faulted = it.counted.faulted };
            },
          );
        };
        begins = it.begins;
        cut_off = can-follow plan it.outcome it.unsteady need;
        asked = it.asked;
        needs = λ is. ((it.spent is).0, (it.spent is).0, lacks-still before after found finds looked_up needs);
        spent = λ is. (it.spent is).1;
      }

  pub part-unput_if : {T : Type 0} (calls calls_after faults faults_after : ℕ) (before between after : Contents) (found : Option Answer) (result : Result T RunRefusal) → need_of plan ≡ Child
      → Finds (words_of_plan plan) (seen_of_plan plan) before found → AfterFind (words_of_plan plan) (seen_of_plan plan) before between → NeedsStart reuse found
      → IfErr result (IsPartUnput tells (moment calls faults between) (moment calls_after faults_after after) plan)
      → IfErr result (IsPartStopped tells reuse (moment calls faults before) (moment calls_after faults_after after) plan)
  part-unput_if calls calls_after faults faults_after before between after found (Ok came) need finds look_up needs it = tt
  part-unput_if calls calls_after faults faults_after before between after found (Err refusal) need finds look_up needs it =
      part-unput calls calls_after faults faults_after before between after found refusal need finds look_up needs it

-- ---- a child

module _ (tells : List (List ℕ) → List File → Outcome → Type 0) (plan : Plan) where
  -- none told the part
  pub unstarted : (calls faults calls_after faults_after : ℕ) (contents : Contents) (refusal : RunRefusal) → calls_after ≡ calls → faults_after ≡ faults → refusal ≢ NoSuchHook
      → (refusal ≡ Spent → calls_after ≡ 2 ^ 64 - 1) → IsPartUnput tells (moment calls faults contents) (moment calls_after faults_after contents) plan refusal
  unstarted calls faults calls_after faults_after contents refusal call fault asked spent = record {
    last = [];
    outcome = Failed NotStarted;
    unsteady = false;
    this = inl refl;
    begins = can-complete plan;
    told = tt;
    counted = record { called = omega arith; faulted = omega arith };
    kept = refl;
    asked = asked;
    spent = λ is. (refl, spent is);
  }

  -- one told it, and the book refuses
  pub unput : (calls faults calls_after faults_after : ℕ) (before after : Contents) (outcome : Outcome) (fault : BookFault) → need_of plan ≡ Child
      → tells (words_of_plan plan) (seen_of_plan plan) outcome
      → calls_after ≡ calls + 1 → faults_after ≡ faults + faults_in outcome → after ≡ before
      → IsPartUnput tells (moment calls faults before) (moment calls_after faults_after after) plan (run_refusal_of_book fault)
  unput calls faults calls_after faults_after before after outcome fault need told call faulted kept = record {
    last = part_with plan outcome false ∷ [];
    outcome = outcome;
    unsteady = false;
    this = inr refl;
    begins = can-follow plan outcome false need;
    told = (told, tt);
    counted = record { called = omega arith; faulted = omega arith };
    kept = kept;
    asked = not-asked fault;
    spent = λ is. absurd (not-spent fault is);
  }

-- ---- at the words and the seen files that the plan hands out

module _ (words others : List (List ℕ)) (seen theirs : List File) (same_words : words ≡ others) (same_seen : seen ≡ theirs) where
  pub finds-at : (contents : Contents) (found : Option Answer) → Finds words seen contents found → Finds others theirs contents found
  finds-at contents found it = subst (λ (w : List (List ℕ)). Finds w theirs contents found) same_words (subst (λ (s : List File). Finds words s contents found) same_seen it)

  pub look-up-at : (before after : Contents) → AfterFind words seen before after → AfterFind others theirs before after
  look-up-at before after it = subst (λ (w : List (List ℕ)). AfterFind w theirs before after) same_words (subst (λ (s : List File). AfterFind words s before after) same_seen it)

  pub outcome-at : (outcome : Outcome) (before after : Contents) → AfterOutcome words seen outcome before after → AfterOutcome others theirs outcome before after
  outcome-at outcome before after it =
      subst (λ (w : List (List ℕ)). AfterOutcome w theirs outcome before after) same_words (subst (λ (s : List File). AfterOutcome words s outcome before after) same_seen it)

pub none-found : (found : Option Answer) → ((answer : Answer) → found ≡ Some answer → ⊥) → found ≡ None
none-found None never = refl
none-found (Some answer) never = absurd (never answer refl)

-- what is left after a second step, of what was left after a first one
pub left-then : (tells : List (List ℕ) → List File → Outcome → Type 0) (before between left : Contents) (Before Between : Type 0) → AddsTold tells before between
    → (Between → Before ⊎ AddsTold tells before left) → Between ⊎ AddsTold tells between left → Before ⊎ AddsTold tells before left
left-then tells before between left Before Between adds first second = elim second [
  | inl held ↦ first held
  | inr more ↦ inr (adds-then tells before between left adds more)
]

-- a test of two answers that says whether they differ
pub is-marked : (mark same : Bool) (answer found : Answer) → Decides same (answer ≡ found) → mark ≡ not same → IsUnsteadyMark (Some found) (Done answer) mark
is-marked mark true answer found decides is = (λ marked. absurd (let m = is in cc), λ apart. absurd (apart (decides.0 refl)))
is-marked mark false answer found decides is = (λ marked alike. absurd (let no = decides.1 alike in cc), λ apart. is)

-- under relations that tell the same
pub stopped-back_to : (tells others : List (List ℕ) → List File → Outcome → Type 0) → SameTells tells others → (reuse : Reuse) (from to : Moment) (plan : Plan) (refusal : RunRefusal)
    → IsPartStopped others reuse from to plan refusal → IsPartStopped tells reuse from to plan refusal
stopped-back_to tells others same reuse from to plan refusal it = record {
  last = it.last;
  answered = so-far-back_to tells others same reuse from to it.last it.answered;
  begins = it.begins;
  cut_off = so-far-back_to-cut-off tells others same (CanComplete plan) reuse from to it.last it.answered it.cut_off;
  asked = it.asked;
  needs = λ is. ((it.needs is).0, so-far-back_to-last tells others same reuse from to it.last it.answered ∙ (it.needs is).1, (it.needs is).2);
  spent = it.spent;
}

-- ---- two moments that are the same

-- what holds at a moment holds at one with the same counts
pub at-moment : (P : Moment → Type 0) (calls calls' faults faults' : ℕ) (remembered : Contents) → calls ≡ calls' → faults ≡ faults' → P (moment calls faults remembered)
    → P (moment calls' faults' remembered)
at-moment P calls calls' faults faults' remembered same-calls same-faults holds =
    subst (λ count. P (moment count faults' remembered)) same-calls (subst (λ count. P (moment calls count remembered)) same-faults holds)
