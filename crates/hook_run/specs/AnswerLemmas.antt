-- Lemmas on how parts get their outcomes: parts one after another, what is reported, what is cached, and the
-- counts.
use Rattle.std.specs.Prelude.{◌≡◌, ◌+◌, ◌⊎◌, ℕ, Bool, true, false, MatchBool, List, [], ◌∷◌, ◌++◌, Option, None, Some, refl}
use Rattle.std.proofs.Common.{ap, sym, ◌∙◌, inl, inr, subst, arith, append_assoc, length-append}
use Rattle.std.proofs.lemmas.List.{append-nil}
use Rattle.hook_base.specs.declared.file.File.{File}
use Rattle.child_port.specs.declared.answer.Answer.{Answer}
use Rattle.child_port.specs.declared.answer.Outcome.{Outcome}
use Rattle.child_port.specs.declared.answer.Outcome.TheVariants.{Done, Failed}
use Rattle.child_port.specs.Outcomes.{faults_in}
use Rattle.child_port.specs.Seen.{is_stray}
use Rattle.child_port.specs.Telling.{SameTells}
use Rattle.result_book.specs.Calls.{AfterPut}
use Rattle.result_book.specs.Contents.{Contents, Finds}
use Rattle.result_book.specs.Told.{AddsTold, IsTold}
use Rattle.result_book.specs.ToldLemmas.{adds-found, adds-none, adds-put, adds-then, told-adds}
use Rattle.hook_run.specs.declared.reuse.Reuse.{Reuse}
use Rattle.hook_run.specs.Answers.{AreAnswered, AreAnsweredSoFar, HoldsCutOff, IsCounted, IsCutOff}
use Rattle.hook_run.specs.CountLemmas.{Rises, rises, rises-then}
use Rattle.hook_run.specs.Moments.{Moment}
use Rattle.hook_run.specs.Parts.{AllTold, Part, faults_of}
use Rattle.hook_run.specs.Reuses.{serves}
use Rattle.hook_run.specs.Starts.{AfterOutcome, IsReplayed, IsStarted, Starts, StartsFor, StartsOne}

-- ---- one part

-- the part is started, or has the answer that was found
pub started-or-found : (reuse : Reuse) (found : Option Answer) (before after : Contents) (part : Part)
    (started : List Part) → StartsFor reuse found before after part started
    → (IsStarted found before after part × (started ≡ part ∷ []))
    ⊎ ((answer : Answer) × (found ≡ Some answer) × IsReplayed answer before after part × (started ≡ []))
started-or-found reuse None before after part started starts = inl starts
started-or-found reuse (Some answer) before after part started starts =
    (elim (serves reuse answer) as (λ (b : Bool). MatchBool b (IsReplayed answer before after part × (started ≡ []))
    (IsStarted (Some answer) before after part × (started ≡ part ∷ []))
    → (IsStarted (Some answer) before after part × (started ≡ part ∷ []))
    ⊎ ((other : Answer) × (Some answer ≡ Some other) × IsReplayed other before after part × (started ≡ []))) [
      | true ↦ λ replayed. inr (answer, refl, replayed.0, replayed.1)
      | false ↦ λ one. inl one
    ]) starts

-- ---- parts one after another

pub faults-append : (parts more : List Part) → faults_of (parts ++ more) ≡ faults_of parts + faults_of more
faults-append [] more = omega arith
faults-append (part ∷ parts) more = let rest = faults-append parts more in omega arith

pub counted-none : (at : Moment) → IsCounted at at []
counted-none at = record { called = omega arith; faulted = omega arith }

pub counted-then : (first second third : Moment) (started more : List Part) → IsCounted first second started
    → IsCounted second third more → IsCounted first third (started ++ more)
counted-then first second third started more one two =
    let called = one.called in
    let faulted = one.faulted in
    let more_called = two.called in
    let more_faulted = two.faulted in
    let long = length-append started more in
    let many = faults-append started more in
    record { called = omega arith; faulted = omega arith }

module _ (tells : List (List ℕ) → List File → Outcome → Type 0) where
  pub told-append : (parts more : List Part) → AllTold tells parts → AllTold tells more → AllTold tells (parts ++ more)
  told-append [] more first second = second
  told-append (part ∷ parts) more first second = (first.0, told-append parts more first.1 second)

  pub told-front : (parts more : List Part) → AllTold tells (parts ++ more) → AllTold tells parts
  told-front [] more told = tt
  told-front (part ∷ parts) more told = (told.0, told-front parts more told.1)

  pub told-back : (parts more : List Part) → AllTold tells (parts ++ more) → AllTold tells more
  told-back [] more told = told
  told-back (part ∷ parts) more told = told-back parts more told.1

starts-append : (reuse : Reuse) (before between after : Contents) (parts more first others : List Part)
    → Starts reuse before between parts first → Starts reuse between after more others
    → Starts reuse before after (parts ++ more) (first ++ others)
starts-append reuse before between after [] more first others one two =
    subst (λ (all : List Part). Starts reuse before after more (all ++ others)) (sym one.1)
    (subst (λ (from : Contents). Starts reuse from after more others) one.0 two)
starts-append reuse before between after (part ∷ parts) more first others one two = record {
  between = one.between;
  first = one.first;
  others = one.others ++ others;
  one = one.one;
  more = starts-append reuse one.between between after parts more one.others others one.more two;
  joined = ap (λ (all : List Part). all ++ others) one.joined ∙ append_assoc one.first one.others others;
}

module _ (tells : List (List ℕ) → List File → Outcome → Type 0) (reuse : Reuse) where
  pub answered-none : (at : Moment) → AreAnswered tells reuse at at []
  answered-none at = record { started = []; starts = (refl, refl); told = tt; counted = counted-none at }

  pub answered-append : (first second third : Moment) (parts more : List Part)
      → AreAnswered tells reuse first second parts → AreAnswered tells reuse second third more
      → AreAnswered tells reuse first third (parts ++ more)
  answered-append first second third parts more one two = record {
    started = one.started ++ two.started;
    starts =
        starts-append reuse first.remembered second.remembered third.remembered parts more one.started two.started
        one.starts two.starts;
    told = told-append tells one.started two.started one.told two.told;
    counted = counted-then first second third one.started two.started one.counted two.counted;
  }

  -- parts that are answered are also answered so far, as in a run that is stopped after them
  pub so-far : (from to : Moment) (parts : List Part) → AreAnswered tells reuse from to parts
      → AreAnsweredSoFar tells reuse from to parts
  so-far from to parts answered = record {
    done = parts;
    last = [];
    between = to;
    split = sym (append-nil parts);
    answered = answered;
    stopped = inl (refl, refl);
  }

  pub so-far-append : (first second third : Moment) (parts more : List Part)
      → AreAnswered tells reuse first second parts → AreAnsweredSoFar tells reuse second third more
      → AreAnsweredSoFar tells reuse first third (parts ++ more)
  so-far-append first second third parts more one two = record {
    done = parts ++ two.done;
    last = two.last;
    between = two.between;
    split = ap (λ (all : List Part). parts ++ all) two.split ∙ sym (append_assoc parts two.done two.last);
    answered = answered-append first second two.between parts two.done one two.answered;
    stopped = two.stopped;
  }

  -- a run that was stopped after whole parts was stopped at no part
  pub so-far-whole : (P : List Part → Type 0) (from to : Moment) (parts : List Part)
      (answered : AreAnswered tells reuse from to parts)
      → HoldsCutOff P (so-far from to parts answered).done (so-far from to parts answered).stopped
  unfolding so-far
  so-far-whole P from to parts answered = tt

  -- what holds up to the part at which the rest was stopped holds after whole parts too
  cut-off-after : {Whole : Type 0} {Cut : Part → Type 0} (P : List Part → Type 0) (parts done : List Part)
      (stopped : Whole ⊎ ((part : Part) × Cut part)) → HoldsCutOff (λ front. P (parts ++ front)) done stopped
      → HoldsCutOff P (parts ++ done) stopped
  cut-off-after P parts done (inl whole) holds = tt
  cut-off-after P parts done (inr cut) holds = subst P (sym (append_assoc parts done (cut.0 ∷ []))) holds

  pub so-far-cut-off : (P : List Part → Type 0) (first second third : Moment) (parts more : List Part)
      (one : AreAnswered tells reuse first second parts) (two : AreAnsweredSoFar tells reuse second third more)
      → HoldsCutOff (λ front. P (parts ++ front)) two.done two.stopped
      → HoldsCutOff P (so-far-append first second third parts more one two).done
      (so-far-append first second third parts more one two).stopped
  unfolding so-far-append
  so-far-cut-off P first second third parts more one two holds =
      cut-off-after P parts two.done two.stopped holds

  -- a stopped run that goes on after whole parts has the last part of its rest
  pub so-far-last : (first second third : Moment) (parts more : List Part)
      (one : AreAnswered tells reuse first second parts) (two : AreAnsweredSoFar tells reuse second third more)
      → (so-far-append first second third parts more one two).last ≡ two.last
  unfolding so-far-append
  so-far-last first second third parts more one two = refl

-- ---- under relations that report the same

module _ (tells others : List (List ℕ) → List File → Outcome → Type 0) (same : SameTells tells others) where
  pub told-back_to : (parts : List Part) → AllTold others parts → AllTold tells parts
  told-back_to [] told = tt
  told-back_to (part ∷ parts) told = (same.added part.words part.seen part.outcome told.0, told-back_to parts told.1)

  pub answered-back_to : (reuse : Reuse) (from to : Moment) (parts : List Part) → AreAnswered others reuse from to parts
      → AreAnswered tells reuse from to parts
  answered-back_to reuse from to parts answered = record {
    started = answered.started;
    starts = answered.starts;
    told = told-back_to answered.started answered.told;
    counted = answered.counted;
  }

  abbrev IsStopped : (List (List ℕ) → List File → Outcome → Type 0) → Reuse → Moment → Moment → List Part → Type 0
  IsStopped by reuse between to last =
      ((last ≡ []) × (to ≡ between)) ⊎ ((part : Part) × IsCutOff by reuse between to part last)

  stopped-back : (reuse : Reuse) (between to : Moment) (last : List Part) → IsStopped others reuse between to last
      → IsStopped tells reuse between to last
  stopped-back reuse between to last (inl whole) = inl whole
  stopped-back reuse between to last (inr cut) = inr (
    cut.0,
    record {
      found = cut.1.found;
      finds = cut.1.finds;
      needs = cut.1.needs;
      look_up = cut.1.look_up;
      this = cut.1.this;
      told = told-back_to last cut.1.told;
      counted = cut.1.counted;
    },
  )

  stopped-back-cut-off : (P : List Part → Type 0) (done : List Part) (reuse : Reuse) (between to : Moment)
      (last : List Part) (stopped : IsStopped others reuse between to last) → HoldsCutOff P done stopped
      → HoldsCutOff P done (stopped-back reuse between to last stopped)
  unfolding stopped-back
  stopped-back-cut-off P done reuse between to last (inl whole) holds = tt
  stopped-back-cut-off P done reuse between to last (inr cut) holds = holds

  pub so-far-back_to : (reuse : Reuse) (from to : Moment) (parts : List Part)
      → AreAnsweredSoFar others reuse from to parts → AreAnsweredSoFar tells reuse from to parts
  so-far-back_to reuse from to parts it = record {
    done = it.done;
    last = it.last;
    between = it.between;
    split = it.split;
    answered = answered-back_to reuse from it.between it.done it.answered;
    stopped = stopped-back reuse it.between to it.last it.stopped;
  }

  pub so-far-back_to-last : (reuse : Reuse) (from to : Moment) (parts : List Part)
      (it : AreAnsweredSoFar others reuse from to parts) → (so-far-back_to reuse from to parts it).last ≡ it.last
  unfolding so-far-back_to
  so-far-back_to-last reuse from to parts it = refl

  pub so-far-back_to-cut-off : (P : List Part → Type 0) (reuse : Reuse) (from to : Moment) (parts : List Part)
      (it : AreAnsweredSoFar others reuse from to parts) → HoldsCutOff P it.done it.stopped
      → HoldsCutOff P (so-far-back_to reuse from to parts it).done (so-far-back_to reuse from to parts it).stopped
  unfolding so-far-back_to
  so-far-back_to-cut-off P reuse from to parts it holds =
      stopped-back-cut-off P it.done reuse it.between to it.last it.stopped holds

  pub adds-back_to : (before after : Contents) → AddsTold others before after → AddsTold tells before after
  adds-back_to before after adds = λ words seen answer holds. elim (adds words seen answer holds) [
    | inl old ↦ inl old
    | inr told ↦ inr (record { told = same.added words seen (Done answer) told.told; keeps = told.keeps })
  ]

-- ---- what is cached and reported

module _ (tells : List (List ℕ) → List File → Outcome → Type 0) where
  pub adds-same : (before after : Contents) → after ≡ before → AddsTold tells before after
  adds-same before after same =
      subst (λ (all : Contents). AddsTold tells before all) (sym same) (adds-none tells before)

  pub adds-outcome : (words : List (List ℕ)) (seen : List File) (outcome : Outcome) (before after : Contents)
      → AfterOutcome words seen outcome before after → tells words seen outcome → AddsTold tells before after
  adds-outcome words seen (Done answer) before after put told =
      (elim (is_stray answer seen) as (λ (b : Bool). is_stray answer seen ≡ b
      → MatchBool b (after ≡ before) (AfterPut words seen answer before after) → AddsTold tells before after) [
        | true ↦ λ e same. adds-same before after same
        | false ↦ λ e step. adds-put tells words seen answer before after step (record { told = told; keeps = e })
      ]) refl put
  adds-outcome words seen (Failed fault) before after put told = adds-same before after put

  adds-started : (found : Option Answer) (before after : Contents) (part : Part) (started : List Part)
      → IsStarted found before after part × (started ≡ part ∷ []) → AllTold tells started → AddsTold tells before after
  adds-started found before after part started starts told =
      let told_part = subst (AllTold tells) starts.1 told in
      adds-outcome part.words part.seen part.outcome before after starts.0.put told_part.0

  adds-for : (reuse : Reuse) (found : Option Answer) (before after : Contents) (part : Part) (started : List Part)
      → StartsFor reuse found before after part started → AllTold tells started → AddsTold tells before after
  adds-for reuse found before after part started starts told =
      elim (started-or-found reuse found before after part started starts) [
        | inl one ↦ adds-started found before after part started one told
        | inr replayed ↦ adds-same before after replayed.2.kept
      ]

  adds-one : (reuse : Reuse) (before after : Contents) (part : Part) (started : List Part)
      → StartsOne reuse before after part started → AllTold tells started → AddsTold tells before after
  adds-one reuse before after part started one told =
      adds-then tells before one.looked_up after
      (adds-found tells part.words part.seen before one.looked_up one.look_up)
      (adds-for reuse one.found one.looked_up after part started one.starts told)

  adds-starts : (reuse : Reuse) (before after : Contents) (parts started : List Part)
      → Starts reuse before after parts started → AllTold tells started → AddsTold tells before after
  adds-starts reuse before after [] started starts told = adds-same before after starts.0
  adds-starts reuse before after (part ∷ parts) started starts told =
      let all = subst (AllTold tells) starts.joined told in
      adds-then tells before starts.between after
      (adds-one reuse before starts.between part starts.first starts.one
      (told-front tells starts.first starts.others all))
      (adds-starts reuse starts.between after parts starts.others starts.more
      (told-back tells starts.first starts.others all))

  told-started : (part : Part) (started : List Part) → started ≡ part ∷ [] → AllTold tells started
      → tells part.words part.seen part.outcome
  told-started part started is told = (subst (AllTold tells) is told).0

  told-for : (reuse : Reuse) (found : Option Answer) (before between after : Contents) (part : Part)
      (started : List Part) → IsTold tells before → Finds part.words part.seen before found
      → StartsFor reuse found between after part started → AllTold tells started
      → tells part.words part.seen part.outcome
  told-for reuse found before between after part started book finds starts told =
      elim (started-or-found reuse found between after part started starts) [
        | inl one ↦ told-started part started one.1 told
        | inr replayed ↦ subst (tells part.words part.seen) (sym replayed.2.outcome)
            (book part.words part.seen replayed.0 (subst (Finds part.words part.seen before) replayed.1 finds)).told
      ]

  told-starts : (reuse : Reuse) (before after : Contents) (parts started : List Part) → IsTold tells before
      → Starts reuse before after parts started → AllTold tells started → AllTold tells parts
  told-starts reuse before after [] started book starts told = tt
  told-starts reuse before after (part ∷ parts) started book starts told =
      let all = subst (AllTold tells) starts.joined told in
      let front = told-front tells starts.first starts.others all in
      let adds = adds-one reuse before starts.between part starts.first starts.one front in (
        told-for reuse starts.one.found before starts.one.looked_up starts.between part starts.first book
            starts.one.finds starts.one.starts front,
        told-starts reuse starts.between after parts starts.others (told-adds tells before starts.between book adds)
            starts.more (told-back tells starts.first starts.others all),
      )

module _ (tells : List (List ℕ) → List File → Outcome → Type 0) (reuse : Reuse) (from to : Moment)
    (parts : List Part) where
  pub answered-adds : AreAnswered tells reuse from to parts → AddsTold tells from.remembered to.remembered
  answered-adds answered =
      adds-starts tells reuse from.remembered to.remembered parts answered.started answered.starts answered.told

  pub answered-told : AreAnswered tells reuse from to parts → IsTold tells from.remembered → AllTold tells parts
  answered-told answered book =
      told-starts tells reuse from.remembered to.remembered parts answered.started book answered.starts answered.told

  pub so-far-adds : AreAnsweredSoFar tells reuse from to parts → AddsTold tells from.remembered to.remembered
  so-far-adds it = adds-then tells from.remembered it.between.remembered to.remembered
      (adds-starts tells reuse from.remembered it.between.remembered it.done it.answered.started it.answered.starts
      it.answered.told)
      (elim it.stopped [
        | inl whole ↦ adds-same tells it.between.remembered to.remembered (ap (λ (at : Moment). at.remembered) whole.1)
        | inr cut ↦ adds-found tells cut.0.words cut.0.seen it.between.remembered to.remembered cut.1.look_up
      ])

  last-told : (it : AreAnsweredSoFar tells reuse from to parts) → AllTold tells it.last
  last-told it = elim it.stopped [
    | inl whole ↦ subst (AllTold tells) (sym whole.0) tt
    | inr cut ↦ cut.1.told
  ]

  pub so-far-told : AreAnsweredSoFar tells reuse from to parts → IsTold tells from.remembered → AllTold tells parts
  so-far-told it book = subst (AllTold tells) (sym it.split)
      (told-append tells it.done it.last
      (told-starts tells reuse from.remembered it.between.remembered it.done it.answered.started book it.answered.starts
      it.answered.told) (last-told it))

-- ---- the counts

faults-none : (part : Part) (found : Answer) → part.outcome ≡ Done found → faults_in part.outcome ≡ 0
faults-none part found is = ap faults_in is

faults-started : (part : Part) (started : List Part) → started ≡ part ∷ [] → faults_of started ≡ faults_in part.outcome
faults-started part started is = let same = ap faults_of is in omega arith

faults-for : (reuse : Reuse) (found : Option Answer) (before after : Contents) (part : Part) (started : List Part)
    → StartsFor reuse found before after part started → faults_of started ≡ faults_in part.outcome
faults-for reuse found before after part started starts =
    elim (started-or-found reuse found before after part started starts) [
      | inl one ↦ faults-started part started one.1
      | inr replayed ↦ ap faults_of replayed.3 ∙ sym (faults-none part replayed.0 replayed.2.outcome)
    ]

-- each fault is of a part that was started
pub faults-starts : (reuse : Reuse) (before after : Contents) (parts started : List Part)
    → Starts reuse before after parts started → faults_of started ≡ faults_of parts
faults-starts reuse before after [] started starts = ap faults_of starts.1
faults-starts reuse before after (part ∷ parts) started starts =
    let one =
    faults-for reuse starts.one.found starts.one.looked_up starts.between part starts.first starts.one.starts in
    let more = faults-starts reuse starts.between after parts starts.others starts.more in
    let all = ap faults_of starts.joined in
    let split = faults-append starts.first starts.others in
    omega arith

module _ (tells : List (List ℕ) → List File → Outcome → Type 0) (reuse : Reuse) (from to : Moment)
    (parts : List Part) where
  pub answered-faults : AreAnswered tells reuse from to parts → to.faults ≡ from.faults + faults_of parts
  answered-faults answered =
      let faulted = answered.counted.faulted in
      let same = faults-starts reuse from.remembered to.remembered parts answered.started answered.starts in
      omega arith

  none-counted : (between after : Moment) (last : List Part) → last ≡ [] → after ≡ between
      → IsCounted between after last
  none-counted between after last none same =
      subst (λ (at : Moment). IsCounted between at last) (sym same)
      (subst (IsCounted between between) (sym none) (counted-none between))

  last-counted : (it : AreAnsweredSoFar tells reuse from to parts) → IsCounted it.between to it.last
  last-counted it = elim it.stopped [
    | inl whole ↦ none-counted it.between to it.last whole.0 whole.1
    | inr cut ↦ cut.1.counted
  ]

  pub so-far-faults : AreAnsweredSoFar tells reuse from to parts → to.faults ≡ from.faults + faults_of parts
  so-far-faults it =
      let faulted = it.answered.counted.faulted in
      let same =
      faults-starts reuse from.remembered it.between.remembered it.done it.answered.started it.answered.starts in
      let last = (last-counted it).faulted in
      let all = ap faults_of it.split in
      let split = faults-append it.done it.last in
      omega arith

  pub answered-rises : AreAnswered tells reuse from to parts → Rises from to
  answered-rises answered = rises from to answered.started answered.counted

  pub so-far-rises : AreAnsweredSoFar tells reuse from to parts → Rises from to
  so-far-rises it =
      rises-then from it.between to (rises from it.between it.answered.started it.answered.counted)
      (rises it.between to it.last (last-counted it))
