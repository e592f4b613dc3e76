-- Lemmas on children that give one answer: a run over them without faults is the only one, and has no
-- unsteady hook.
use Rattle.std.specs.Prelude.{◌≡◌, ◌≢◌, ◌↔◌, ◌+◌, ℕ, Bool, true, false, IsTrue, All, if◌then◌else◌, List, [], ◌∷◌, ◌++◌, length, Option, None, Some, refl}
use Rattle.std.proofs.Common.{ap, ap₂, sym, ◌∙◌, inl, inr, subst, arith}
use Rattle.std.proofs.lemmas.List.{append-nil}
use Rattle.std.proofs.lemmas.List.Elements.{All-cons, All-head, All-nil, All-tail}
use Rattle.std.proofs.lemmas.List.Folds.{list_any_none}
use Rattle.hook_base.specs.declared.file.File.{File}
use Rattle.child_port.specs.declared.answer.Answer.{Answer}
use Rattle.child_port.specs.declared.answer.Outcome.{Outcome}
use Rattle.child_port.specs.declared.answer.Outcome.TheVariants.{Done, Failed}
use Rattle.child_port.specs.Outcomes.{faults_in}
use Rattle.hook_config.specs.declared.configuration.Config.{Config}
use Rattle.hook_config.specs.declared.configuration.Hook.{Hook}
use Rattle.result_book.specs.Contents.{Contents, Finds}
use Rattle.result_book.specs.Told.{IsTold}
use Rattle.result_book.specs.ToldLemmas.{told-adds}
use Rattle.hook_run.specs.declared.reuse.Reuse.{Reuse}
use Rattle.hook_run.specs.declared.run_ask.RunAsk.{RunAsk}
use Rattle.hook_run.specs.declared.run_out.RunOut.{RunOut}
use Rattle.hook_run.specs.AnswerLemmas.{answered-adds, started-or-found, told-back, told-front}
use Rattle.hook_run.specs.Answers.{AreAnswered}
use Rattle.hook_run.specs.Asks.{hooks_of_run}
use Rattle.hook_run.specs.Moments.{Moment, moment}
use Rattle.hook_run.specs.OneAnswer.{AreSameRuns, IsFaultless, OneAnswer}
use Rattle.hook_run.specs.Parts.{AllTold, Part, all_parts, faults_of}
use Rattle.hook_run.specs.RunOuts.{IsRunOut, unsteady_ids}
use Rattle.hook_run.specs.Starts.{IsUnsteadyMark, Starts, StartsFor, StartsOne}
use Rattle.hook_run.specs.AgreeLemmas.{Agree, same-where-agree}

-- ---- parts without marks

abbrev IsUnmarked : Part → Type 0
IsUnmarked part = part.unsteady ≡ false

both-unmarked : (parts more : List Part) → All IsUnmarked (parts ++ more) → All IsUnmarked parts × All IsUnmarked more
both-unmarked [] more all = (All-nil IsUnmarked, all)
both-unmarked (part ∷ parts) more all =
    let rest = both-unmarked parts more (All-tail IsUnmarked part (parts ++ more) all) in
    (All-cons IsUnmarked part parts (All-head IsUnmarked part (parts ++ more) all) rest.0, rest.1)

pub no-ids : (hooks : List Hook) (trace : List (List Part)) → All (λ part. part.unsteady ≡ false) (all_parts trace)
    → unsteady_ids hooks trace ≡ []
no-ids [] trace all = refl
no-ids (hook ∷ hooks) [] all = refl
no-ids (hook ∷ hooks) (parts ∷ trace) all =
    let split = both-unmarked parts (all_parts trace) all in
    ap₂ (λ (here behind : List (List ℕ)). here ++ behind)
    (ap (λ (unsteady : Bool). if unsteady then hook.id ∷ [] else [])
    (list_any_none (λ (part : Part). part.unsteady) parts split.0))
    (no-ids hooks trace split.1)

-- a run without a marked part has no unsteady hook
pub unmarked-steady : (config : Config) (ask : RunAsk) (tree : List File) (trace : List (List Part)) (out : RunOut)
    → IsRunOut config ask tree trace out → All (λ part. part.unsteady ≡ false) (all_parts trace) → out.unsteady ≡ []
unmarked-steady config ask tree trace out run all =
    ap (λ (o : RunOut). o.unsteady) run.is ∙ no-ids (hooks_of_run config ask) trace all

-- ---- over children that give one answer

module _ (tells : List (List ℕ) → List File → Outcome → Type 0) (alone : OneAnswer tells) where
  -- ---- one run

  same-outcome : (words : List (List ℕ)) (seen : List File) (outcome other : Outcome) → tells words seen outcome
      → tells words seen other → faults_in outcome ≡ 0 → faults_in other ≡ 0 → outcome ≡ other
  same-outcome words seen (Done answer) (Done second) told too none also =
      ap Done (alone words seen answer second told too)
  same-outcome words seen (Done answer) (Failed fault) told too none also = absurd (omega arith)
  same-outcome words seen (Failed fault) other told too none also = absurd (omega arith)

  -- the first part may have the outcome of the other one if both have the same words and seen files
  told-here : (part other : Part) → part.words ≡ other.words → part.seen ≡ other.seen
      → tells other.words other.seen other.outcome → tells part.words part.seen other.outcome
  told-here part other words seen told =
      subst (λ (w : List (List ℕ)). tells w part.seen other.outcome) (sym words)
      (subst (λ (s : List File). tells other.words s other.outcome) (sym seen) told)

  told-agree : (parts others : List Part) → AllTold tells parts → AllTold tells others → faults_of parts ≡ 0
      → faults_of others ≡ 0 → Agree parts others
  told-agree [] others told too none also = tt
  told-agree (part ∷ parts) [] told too none also = tt
  told-agree (part ∷ parts) (other ∷ others) told too none also = λ words seen. (
    same-outcome part.words part.seen part.outcome other.outcome told.0 (told-here part other words seen too.0)
        (omega arith) (omega arith),
    told-agree parts others told.1 too.1 (omega arith) (omega arith),
  )

  -- two runs of one configuration, asked the same on one tree, are the same if neither has a fault
  pub one-run : (config : Config) (ask : RunAsk) (tree : List File) (trace others : List (List Part))
      (first second : RunOut) → IsFaultless tells config ask tree trace first
      → IsFaultless tells config ask tree others second → AreSameRuns trace others first second
  one-run config ask tree trace others first second one two =
      same-where-agree config ask tree trace others first second one.run two.run
      (told-agree (all_parts trace) (all_parts others) one.told two.told one.no_fault two.no_fault)

  -- ---- marks

  unmarked-answer : (words : List (List ℕ)) (seen : List File) (found answer : Answer) (mark : Bool)
      → (IsTrue mark ↔ (answer ≢ found)) → tells words seen (Done found) → tells words seen (Done answer) → mark ≡ false
  unmarked-answer words seen found answer true marked was told =
      absurd (marked.0 refl (alone words seen answer found told was))
  unmarked-answer words seen found answer false marked was told = refl

  unmarked-found : (words : List (List ℕ)) (seen : List File) (found : Option Answer) (outcome : Outcome) (mark : Bool)
      (remembered : Contents) → IsTold tells remembered → Finds words seen remembered found
      → IsUnsteadyMark found outcome mark → tells words seen outcome → mark ≡ false
  unmarked-found words seen None outcome mark remembered book finds marked told = marked
  unmarked-found words seen (Some found) (Failed fault) mark remembered book finds marked told = marked
  unmarked-found words seen (Some found) (Done answer) mark remembered book finds marked told =
      unmarked-answer words seen found answer mark marked (book words seen found finds).told told

  unmarked-for : (reuse : Reuse) (found : Option Answer) (before between after : Contents) (part : Part)
      (started : List Part) → IsTold tells before → Finds part.words part.seen before found
      → StartsFor reuse found between after part started → AllTold tells started → part.unsteady ≡ false
  unmarked-for reuse found before between after part started book finds starts told =
      elim (started-or-found reuse found between after part started starts) [
        | inl one ↦ unmarked-found part.words part.seen found part.outcome part.unsteady before book finds one.0.marked
            (subst (AllTold tells) one.1 told).0
        | inr replayed ↦ replayed.2.steady
      ]

  -- what is cached after one part was reported too
  told-behind : (reuse : Reuse) (before after : Contents) (part : Part) (started : List Part) → IsTold tells before
      → StartsOne reuse before after part started → AllTold tells started → IsTold tells after
  told-behind reuse before after part started book one told =
      let starts : Starts reuse before after (part ∷ []) started = record {
        between = after;
        first = started;
        others = [];
        one = one;
        more = (refl, refl);
        joined = sym (append-nil started);
      } in
      told-adds tells before after book
      (answered-adds tells reuse (moment 0 0 before) (moment (0 + length started) (0 + faults_of started) after)
      (part ∷ [])
      (record { started = started; starts = starts; told = told; counted = record { called = refl; faulted = refl } }))

  starts-unmarked : (reuse : Reuse) (before after : Contents) (parts started : List Part) → IsTold tells before
      → Starts reuse before after parts started → AllTold tells started → All (λ part. part.unsteady ≡ false) parts
  starts-unmarked reuse before after [] started book starts told = All-nil (λ (part : Part). part.unsteady ≡ false)
  starts-unmarked reuse before after (part ∷ parts) started book starts told =
      let all = subst (AllTold tells) starts.joined told in
      let front = told-front tells starts.first starts.others all in
      All-cons (λ (one : Part). one.unsteady ≡ false) part parts
      (unmarked-for reuse starts.one.found before starts.one.looked_up starts.between part starts.first book
      starts.one.finds starts.one.starts front)
      (starts-unmarked reuse starts.between after parts starts.others
      (told-behind reuse before starts.between part starts.first book starts.one front) starts.more
      (told-back tells starts.first starts.others all))

  -- if each cached result was reported, no part has another answer than the cached one
  pub answered-unmarked : (reuse : Reuse) (from to : Moment) (parts : List Part) → IsTold tells from.remembered
      → AreAnswered tells reuse from to parts → All (λ part. part.unsteady ≡ false) parts
  answered-unmarked reuse from to parts book answered =
      starts-unmarked reuse from.remembered to.remembered parts answered.started book answered.starts answered.told

  -- so no hook of a run is unsteady
  pub none-unsteady : (config : Config) (ask : RunAsk) (tree : List File) (trace : List (List Part)) (out : RunOut)
      (reuse : Reuse) (from to : Moment) → IsTold tells from.remembered → IsRunOut config ask tree trace out
      → AreAnswered tells reuse from to (all_parts trace) → out.unsteady ≡ []
  none-unsteady config ask tree trace out reuse from to book run answered =
      unmarked-steady config ask tree trace out run (answered-unmarked reuse from to (all_parts trace) book answered)
