-- A run over children and what is remembered, part by part.
use Rattle.std.proofs.Common.{◌≡◌, ◌≢◌, ◌⊎◌, inl, inr, ◌∙◌, ap, sym, subst, refl, append_assoc, length-append, arith, ℕ, ◌+◌, ◌-◌, ◌^◌, min, length, Bool, false, List, [], ◌∷◌, ◌++◌, Option, None, Some, Result, Ok, Err, IfOk, IfErr, IsErrAnd}
use Rattle.std.proofs.lemmas.List.{append-nil}
use Rattle.hook_base.specs.declared.file.File.{File}
use Rattle.child_port.specs.SeenLemmas.{IsPartOf-seen_of}
use Rattle.child_port.specs.declared.answer.Outcome.{Outcome}
use Rattle.child_port.specs.declared.answer.Outcome.TheVariants.{Failed}
use Rattle.child_port.specs.declared.fault.Fault.TheVariants.{NotStarted}
use Rattle.hook_base.specs.Trees.{IsPartOf}
use Rattle.hook_config.specs.declared.configuration.Config.{Config}
use Rattle.result_book.specs.declared.book_fault.BookFault.{BookFault}
use Rattle.result_book.specs.declared.book_fault.BookFault.TheVariants as book
use Rattle.result_book.specs.Told.{AddsTold}
use Rattle.hook_run.specs.declared.need.Need.TheVariants.{Child, Over}
use Rattle.hook_run.specs.declared.hooks_run.HooksRun.{HooksRun}
use Rattle.hook_run.specs.declared.reuse.Reuse.{Reuse}
use Rattle.hook_run.specs.declared.run_ask.RunAsk.{RunAsk}
use Rattle.hook_run.specs.declared.run_out.RunOut.{RunOut}
use Rattle.hook_run.specs.declared.run_refusal.RunRefusal.{RunRefusal}
use Rattle.hook_run.specs.declared.run_refusal.RunRefusal.TheVariants.{Book, NoSuchHook, OutOfMemory, Spent}
use Rattle.hook_run.specs.AnswerLemmas.{answered-adds, answered-append, answered-none, answered-told, so-far, so-far-adds, so-far-append, so-far-cut-off, so-far-last, so-far-told, so-far-whole}
use Rattle.hook_run.specs.Answers.{AreAnswered, AreReused, HoldsCutOff}
use Rattle.hook_run.specs.HookRun.{further_of, sees_whole}
use Rattle.hook_run.specs.Moments.{Moment}
use Rattle.hook_run.specs.Parts.{AllTold, Part, all_parts}
use Rattle.hook_run.specs.PlanRuns.{IsPartStopped, IsPlanRun, IsPlanStopped, one_if}
use Rattle.hook_run.specs.Plans.{AtPart, CanComplete, Completes, CompletesAt, IsPlanAfter, IsPlanOf, Plan, need_at, need_of, out_of_plan, part_with, seen_at, seen_of_plan, tree_of_plan}
use Rattle.hook_run.specs.Refusals.{IsOfBook, is_of_book, run_refusal_of_book}
use Rattle.hook_run.specs.RunOuts.{IsBegun, IsCountedRun, IsRunOut, IsRunOver, IsStoppedRun}
use Rattle.hook_run.specs.Starts.{Starts}
use Rattle.hook_run.proofs.CompletionLemmas.{begins-at-once, can-follow}

-- ---- a plan, part by part

-- the parts that are answered since the first moment, how many of them were remembered, and the plan that they led to
pub record PlanSoFar (tells : List (List ℕ) → List File → Outcome → Type 0) (reuse : Reuse) (from to : Moment) (reused : ℕ) (first plan : Plan) : Type 0 where
  pub parts : List Part
  pub answered : AreAnswered tells reuse from to parts
  pub count : AreReused parts answered.started reused
  pub leads : (rest : List Part) (out : RunOut) → Completes plan rest out → Completes first (parts ++ rest) out

pub over-at : (plan : Plan) (waiting : Option AtPart) (out : RunOut) → need_at waiting ≡ Over → out ≡ out_of_plan plan → CompletesAt plan waiting [] out
over-at plan None out need is = (refl, is)
over-at plan (Some at) out need is = absurd (cc)

module _ (tells : List (List ℕ) → List File → Outcome → Type 0) (reuse : Reuse) where
  -- the calls say how many parts were started
  reused-by : (from to : Moment) (parts : List Part) (answered : AreAnswered tells reuse from to parts) (unstarted reused : ℕ) → unstarted + to.calls ≡ length parts + from.calls
      → reused ≡ min unstarted (2 ^ 64 - 1) → AreReused parts answered.started reused
  reused-by from to parts answered unstarted reused calls counted =
      let called = answered.counted.called in
      record { unstarted = unstarted; others = omega arith; counted = counted }

  pub plan-none : (at : Moment) (plan : Plan) → PlanSoFar tells reuse at at 0 plan plan
  plan-none at plan = record {
    parts = [];
    answered = answered-none tells reuse at;
    count = reused-by at at [] (answered-none tells reuse at) 0 0 (omega arith) (omega arith);
    leads = λ rest out on. on;
  }

  more-reused : (from now to : Moment) (parts more : List Part) (answered : AreAnswered tells reuse from now parts) (all : AreAnswered tells reuse from to (parts ++ more)) (reused after : ℕ)
      (one : Bool)
      → AreReused parts answered.started reused → length more ≡ 1 → to.calls + one_if one ≡ now.calls + 1 → after ≡ min (reused + one_if one) (2 ^ 64 - 1) → AreReused (parts ++ more) all.started after
  more-reused from now to parts more answered all reused after one count long calls counted =
      let called = answered.counted.called in
      let others = count.others in
      let before = count.counted in
      let both = length-append parts more in
      reused-by from to (parts ++ more) all (count.unstarted + one_if one) after (omega arith) (omega arith)

  pub plan-more : (from now to : Moment) (first plan after : Plan) (outcome : Outcome) (unsteady one : Bool) (reused reused_after : ℕ) → PlanSoFar tells reuse from now reused first plan
      → AreAnswered tells reuse now to (part_with plan outcome unsteady ∷ []) → to.calls + one_if one ≡ now.calls + 1 → reused_after ≡ min (reused + one_if one) (2 ^ 64 - 1)
      → IsPlanAfter plan outcome unsteady after → PlanSoFar tells reuse from to reused_after first after
  plan-more from now to first plan after outcome unsteady one reused reused_after it answered calls counted follows =
      let part = part_with plan outcome unsteady in
      let all = answered-append tells reuse from now to it.parts (part ∷ []) it.answered answered in
      record {
        parts = it.parts ++ part ∷ [];
        answered = all;
        count = more-reused from now to it.parts (part ∷ []) it.answered all reused reused_after one it.count refl calls counted;
        leads = λ rest out on. subst (λ (all : List Part). Completes first all out) (sym (append_assoc it.parts (part ∷ []) rest))
            (it.leads (part ∷ rest) out (follows rest out on));
      }

  pub plan-run : (from to : Moment) (first plan : Plan) (ran : HooksRun) → PlanSoFar tells reuse from to ran.reused first plan → need_of plan ≡ Over → ran.out ≡ out_of_plan plan
      → IsPlanRun tells reuse from to first ran
  plan-run from to first plan ran it over is = record {
    parts = it.parts;
    answered = it.answered;
    reused = it.count;
    completes = subst (λ (all : List Part). Completes first all ran.out) (append-nil it.parts) (it.leads [] ran.out (over-at plan plan.waiting ran.out over is));
  }

  -- what goes on from the plan goes on from the first
  lead-on : (from to : Moment) (reused : ℕ) (first plan : Plan) (front : List Part) → (it : PlanSoFar tells reuse from to reused first plan) → CanComplete plan front
      → CanComplete first (it.parts ++ front)
  lead-on from to reused first plan front it can = record {
    rest = can.rest;
    out = can.out;
    completes = subst (λ (all : List Part). Completes first all can.out) (sym (append_assoc it.parts front can.rest))
        (it.leads (front ++ can.rest) can.out can.completes);
  }

  lead-cut-off : {Whole : Type 0} {Cut : Part → Type 0} (from to : Moment) (reused : ℕ) (first plan : Plan) (it : PlanSoFar tells reuse from to reused first plan) (done : List Part)
      (stopped : Whole ⊎ ((part : Part) × Cut part)) → HoldsCutOff (CanComplete plan) done stopped → HoldsCutOff (λ front. CanComplete first (it.parts ++ front)) done stopped
  lead-cut-off from to reused first plan it done (inl whole) holds = tt
  lead-cut-off from to reused first plan it done (inr cut) holds = lead-on from to reused first plan (done ++ cut.0 ∷ []) it holds

  no-last : (parts last : List Part) (part : Part) → last ≡ [] → (parts ++ last) ++ part ∷ [] ≡ parts ++ part ∷ []
  no-last parts last part none = ap (λ (l : List Part). (parts ++ l) ++ part ∷ []) none ∙ ap (λ (l : List Part). l ++ part ∷ []) (append-nil parts)

  -- the plan is stopped at a part
  pub plan-stopped : (from now to : Moment) (reused : ℕ) (first plan : Plan) (refusal : RunRefusal) → PlanSoFar tells reuse from now reused first plan → need_of plan ≡ Child
      → IsPartStopped tells reuse now to plan refusal → IsPlanStopped tells reuse from to first refusal
  plan-stopped from now to reused first plan refusal it need stop =
      let part = part_with plan (Failed NotStarted) false in
      record {
        parts = it.parts ++ stop.last;
        answered = so-far-append tells reuse from now to it.parts stop.last it.answered stop.answered;
        begins = lead-on from now reused first plan stop.last it stop.begins;
        cut_off = so-far-cut-off tells reuse (CanComplete first) from now to it.parts stop.last it.answered stop.answered
            (lead-cut-off from now reused first plan it stop.answered.done stop.answered.stopped stop.cut_off);
        asked = stop.asked;
        needs = λ is. let why = stop.needs is in record {
          part = part;
          begins = subst (CanComplete first) (sym (no-last it.parts stop.last part why.0)) (lead-on from now reused first plan (part ∷ []) it (can-follow plan (Failed NotStarted) false need));
          lacks = why.2;
        };
        untold = λ is. so-far-last tells reuse from now to it.parts stop.last it.answered stop.answered ∙ (stop.needs is).1;
        spent = stop.spent;
      }

  pub plan-stopped_if : {T U : Type 0} (from now to : Moment) (reused : ℕ) (first plan : Plan) (inner : Result T RunRefusal) (result : Result U RunRefusal)
      → IfErr result (λ refusal. IsErrAnd inner (λ before. refusal ≡ before)) → PlanSoFar tells reuse from now reused first plan → need_of plan ≡ Child
      → IfErr inner (IsPartStopped tells reuse now to plan) → IfErr result (IsPlanStopped tells reuse from to first)
  plan-stopped_if from now to reused first plan inner (Ok out) same it need stop = tt
  plan-stopped_if from now to reused first plan (Ok came) (Err refusal) same it need stop = absurd same
  plan-stopped_if from now to reused first plan (Err before) (Err refusal) same it need stop =
      subst (IsPlanStopped tells reuse from to first) (sym same) (plan-stopped from now to reused first plan before it need stop)

  -- there is no memory for what came of a part
  pub plan-lost : (from now to : Moment) (reused : ℕ) (first plan : Plan) (outcome : Outcome) (unsteady : Bool) (refusal : RunRefusal) → PlanSoFar tells reuse from now reused first plan
      → AreAnswered tells reuse now to (part_with plan outcome unsteady ∷ []) → need_of plan ≡ Child → refusal ≡ OutOfMemory → IsPlanStopped tells reuse from to first refusal
  plan-lost from now to reused first plan outcome unsteady refusal it answered need is =
      let part = part_with plan outcome unsteady in
      record {
        parts = it.parts ++ part ∷ [];
        answered = so-far tells reuse from to (it.parts ++ part ∷ []) (answered-append tells reuse from now to it.parts (part ∷ []) it.answered answered);
        begins = lead-on from now reused first plan (part ∷ []) it (can-follow plan outcome unsteady need);
        cut_off = so-far-whole tells reuse (CanComplete first) from to (it.parts ++ part ∷ []) (answered-append tells reuse from now to it.parts (part ∷ []) it.answered answered);
        asked = λ no_hook. absurd (cc);
        needs = λ spent. absurd (cc);
        untold = λ spent. absurd (cc);
        spent = λ spent. absurd (cc);
      }

  pub plan-lost_if : {T : Type 0} (from now to : Moment) (reused : ℕ) (first plan : Plan) (outcome : Outcome) (unsteady : Bool) (result : Result T RunRefusal)
      → PlanSoFar tells reuse from now reused first plan
      → AreAnswered tells reuse now to (part_with plan outcome unsteady ∷ []) → need_of plan ≡ Child → IsErrAnd result (λ refusal. refusal ≡ OutOfMemory)
      → IfErr result (IsPlanStopped tells reuse from to first)
  plan-lost_if from now to reused first plan outcome unsteady (Ok out) it answered need is = absurd is
  plan-lost_if from now to reused first plan outcome unsteady (Err refusal) it answered need is = plan-lost from now to reused first plan outcome unsteady refusal it answered need is

-- ---- a run of which there is a plan

module _ (tells : List (List ℕ) → List File → Outcome → Type 0) (from to : Moment) (config : Config) (ask : RunAsk) (tree : List File) (plan : Plan) (of : IsPlanOf config ask tree plan) where
  -- parts that are the same are answered, and counted, as these
  counted-run : (ran : HooksRun) (trace : List (List Part)) (parts : List Part) → all_parts trace ≡ parts → IsRunOut config ask tree trace ran.out
      → (answered : AreAnswered tells ask.reuse from to parts)
      → AreReused parts answered.started ran.reused → IsCountedRun tells from to config ask tree ran
  counted-run ran trace parts same run answered count = record {
    over = record {
      trace = trace;
      run = run;
      answered = record {
        started = answered.started;
        starts = subst (λ (all : List Part). Starts ask.reuse from.remembered to.remembered all answered.started) (sym same) answered.starts;
        told = answered.told;
        counted = answered.counted;
      };
      told = λ book. subst (AllTold tells) (sym same) (answered-told tells ask.reuse from to parts answered book);
    };
    reused = subst (λ (all : List Part). AreReused all answered.started ran.reused) (sym same) count;
  }

  run-counted : (ran : HooksRun) → IsPlanRun tells ask.reuse from to plan ran → IsCountedRun tells from to config ask tree ran
  run-counted ran on =
      let run = of on.parts ran.out on.completes in
      counted-run ran run.0 on.parts run.1 run.2 on.answered on.reused

  pub run-counted_if : {E : Type 0} (result : Result HooksRun E) → IfOk result (IsPlanRun tells ask.reuse from to plan) → IfOk result (IsCountedRun tells from to config ask tree)
  run-counted_if (Ok ran) on = run-counted ran on
  run-counted_if (Err refusal) on = tt

  pub run-over_if : {E : Type 0} (result : Result HooksRun E) → IfOk result (IsPlanRun tells ask.reuse from to plan) → IfOk result (λ ran. IsRunOver tells from to config ask tree ran.out)
  run-over_if (Ok ran) on = (run-counted ran on).over
  run-over_if (Err refusal) on = tt

  -- a run begins as what completes its plan
  begun-run : (front : List Part) → CanComplete plan front → IsBegun config ask tree front
  begun-run front can =
      let run = of (front ++ can.rest) can.out can.completes in
      record { trace = run.0; rest = can.rest; out = can.out; joined = run.1; run = run.2 }

  begun-cut-off : {Whole : Type 0} {Cut : Part → Type 0} (done : List Part) (stopped : Whole ⊎ ((part : Part) × Cut part)) → HoldsCutOff (CanComplete plan) done stopped
      → HoldsCutOff (IsBegun config ask tree) done stopped
  begun-cut-off done (inl whole) holds = tt
  begun-cut-off done (inr cut) holds = begun-run (done ++ cut.0 ∷ []) holds

  pub stopped_if : {T : Type 0} (result : Result T RunRefusal) → IfErr result (IsPlanStopped tells ask.reuse from to plan) → IfErr result (IsStoppedRun tells from to config ask tree)
  stopped_if (Ok out) on = tt
  stopped_if (Err refusal) on = record {
    parts = on.parts;
    answered = on.answered;
    told = λ book. so-far-told tells ask.reuse from to on.parts on.answered book;
    no_hook = λ is. absurd (on.asked is);
    begins = λ _. begun-run on.parts on.begins;
    cut_off = begun-cut-off on.answered.done on.answered.stopped on.cut_off;
    needs = λ is. let next = on.needs is in record { part = next.part; begun = begun-run (on.parts ++ next.part ∷ []) next.begins; lacks = next.lacks };
    untold = on.untold;
    spent = on.spent;
  }

  pub adds_if : (result : Result HooksRun RunRefusal) → IfOk result (IsPlanRun tells ask.reuse from to plan) → IfErr result (IsPlanStopped tells ask.reuse from to plan)
      → AddsTold tells from.remembered to.remembered
  adds_if (Ok ran) run stopped = answered-adds tells ask.reuse from to run.parts run.answered
  adds_if (Err refusal) run stopped = so-far-adds tells ask.reuse from to stopped.parts stopped.answered

-- a run of which there is no plan
stopped-at-once : (tells : List (List ℕ) → List File → Outcome → Type 0) (at : Moment) (config : Config) (ask : RunAsk) (tree : List File) (refusal : RunRefusal) → refusal ≢ Spent
    → IsStoppedRun tells at at config ask tree refusal
stopped-at-once tells at config ask tree refusal countable = record {
  parts = [];
  answered = so-far tells ask.reuse at at [] (answered-none tells ask.reuse at);
  told = λ _. tt;
  no_hook = λ is. (refl, refl);
  begins = λ is. begins-at-once config ask tree;
  cut_off = so-far-whole tells ask.reuse (IsBegun config ask tree) at at [] (answered-none tells ask.reuse at);
  needs = λ is. absurd (countable is);
  untold = λ is. absurd (countable is);
  spent = λ is. absurd (countable is);
}

pub stopped-at-once_if : {T : Type 0} (tells : List (List ℕ) → List File → Outcome → Type 0) (at : Moment) (config : Config) (ask : RunAsk) (tree : List File)
    (result : Result T RunRefusal) → IfErr result (λ refusal. refusal ≢ Spent) → IfErr result (IsStoppedRun tells at at config ask tree)
stopped-at-once_if tells at config ask tree (Ok out) countable = tt
stopped-at-once_if tells at config ask tree (Err refusal) countable = stopped-at-once tells at config ask tree refusal countable

-- ---- refusals of the book

pub not-book : (refuses : BookFault → Type 0) (refusal : RunRefusal) → is_of_book refusal ≡ false → IsOfBook refuses refusal
not-book refuses (Book fault) isnt = absurd (cc)
not-book refuses OutOfMemory isnt = tt
not-book refuses NoSuchHook isnt = tt
not-book refuses Spent isnt = tt

pub not-book_if : {T : Type 0} (refuses : BookFault → Type 0) (result : Result T RunRefusal) → IfErr result (λ refusal. is_of_book refusal ≡ false) → IfErr result (IsOfBook refuses)
not-book_if refuses (Ok out) isnt = tt
not-book_if refuses (Err refusal) isnt = not-book refuses refusal isnt

pub not-asked : (fault : BookFault) → run_refusal_of_book fault ≢ NoSuchHook
not-asked book.OutOfMemory = λ is. cc
not-asked (book.Store fault) = λ is. cc

pub not-spent : (fault : BookFault) → run_refusal_of_book fault ≢ Spent
not-spent book.OutOfMemory = λ is. cc
not-spent (book.Store fault) = λ is. cc

pub of-book : (refuses : BookFault → Type 0) (fault : BookFault) → refuses fault → IsOfBook refuses (run_refusal_of_book fault)
of-book refuses book.OutOfMemory refused = tt
of-book refuses (book.Store fault) refused = (refused, refl)

-- ---- what the child of a plan sees is a part of the tree that it runs on

seen-at : (waiting : Option AtPart) (tree : List File) → IsPartOf (seen_at waiting tree) tree
seen-at None tree = record { held = λ path entry found. absurd (cc) }
seen-at (Some at) tree = IsPartOf-seen_of at.command (further_of at.hook tree) (sees_whole at.hook) tree

pub seen-part : (plan : Plan) (seen tree : List File) → seen ≡ seen_of_plan plan → tree ≡ tree_of_plan plan → IsPartOf seen tree
seen-part plan seen tree sees on =
    subst (λ (t : List File). IsPartOf seen t) (sym on) (subst (λ (s : List File). IsPartOf s plan.done.tree) (sym sees) (seen-at plan.waiting plan.done.tree))
