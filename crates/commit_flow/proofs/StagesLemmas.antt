-- What the hooks of a commit were answered, and its stages, one after another.
use Rattle.std.proofs.Common.{◌≡◌, ◌≢◌, ◌∙◌, inl, sym, subst, refl, ap, arith, append_assoc, ℕ, suc, ◌+◌, ◌<◌, drop, drop-cons, get_or, Bool, true, false, MatchBool, List, [], ◌∷◌, ◌++◌, length, Result, Ok, Err, IfErr}
use Rattle.std.proofs.lemmas.List.{append-nil}
use Rattle.hook_base.specs.declared.file.File.{File}
use Rattle.child_port.specs.declared.answer.Outcome.{Outcome}
use Rattle.child_port.specs.Telling.{SameTells}
use Rattle.hook_config.specs.declared.configuration.Config.{Config}
use Rattle.hook_config.specs.declared.stage.Stage.{Stage}
use Rattle.hook_config.specs.declared.stage.Stage.TheVariants.{PreCommit, PrepareCommitMsg, CommitMsg}
use Rattle.result_book.specs.declared.book_fault.BookFault.{BookFault}
use Rattle.result_book.specs.Contents.{Contents}
use Rattle.hook_run.specs.declared.reuse.Reuse.{Reuse}
use Rattle.hook_run.specs.declared.reuse.Reuse.TheVariants as reuse
use Rattle.hook_run.specs.declared.run_ask.RunAsk.{RunAsk}
use Rattle.hook_run.specs.declared.run_out.RunOut.{RunOut}
use Rattle.hook_run.specs.declared.run_refusal.RunRefusal.{RunRefusal}
use Rattle.hook_run.specs.declared.run_refusal.RunRefusal.TheVariants as run
use Rattle.hook_run.specs.Answers.{AreAnswered, AreAnsweredSoFar}
use Rattle.hook_run.specs.Asks.{names_no_hook}
use Rattle.hook_run.specs.AnswerLemmas.{answered-append, answered-back_to, answered-none, so-far, so-far-append, so-far-back_to, so-far-back_to-last, so-far-last}
use Rattle.hook_run.specs.Moments.{Moment}
use Rattle.hook_run.specs.Parts.{Part, all_parts}
use Rattle.hook_run.specs.RunOuts.{IsBegun, IsRunOut, NeedsChild}
use Rattle.hook_run.proofs.CompletionLemmas.{begins-at-once}
use Rattle.commit_flow.specs.declared.commit_stages.StageEnd.{StageEnd}
use Rattle.commit_flow.specs.declared.commit_stages.StagesEnd.TheVariants.{Passed, Failed}
use Rattle.commit_flow.specs.declared.commit_state.CommitState.{CommitState}
use Rattle.commit_flow.specs.declared.host_refusal.HostRefusal.{HostRefusal}
use Rattle.commit_flow.specs.declared.host_refusal.HostRefusal.TheVariants.{OutOfMemory}
use Rattle.commit_flow.specs.CommitCalls.{AreRunOver, IsHalted, IsRunStopped, IsStageOver}
use Rattle.commit_flow.specs.CommitStages.{FailedAt, HaveBegun, HaveComeTo, HaveFurther, HavePassed, IsStageTold, StageTold, ask_in, ask_with, course_after, parts_of_stages, reports_of, stages_before_commit, tree_in}
use Rattle.commit_flow.specs.Preparations.{HaveRun, HaveStopped}
use Rattle.commit_flow.specs.Refusals.{of_run}
use Rattle.commit_flow.proofs.RefusalLemmas.{run_spent}

-- ---- what is answered

module _ (tells next : List (List ℕ) → List File → Outcome → Type 0) (from between to : Moment) (parts more : List Part) (same : SameTells tells next) where
  -- what is answered first, and then by children that tell the same
  pub answered_then : AreAnswered tells reuse.All from between parts → AreAnswered next reuse.All between to more → AreAnswered tells reuse.All from to (parts ++ more)
  answered_then first second = answered-append tells reuse.All from between to parts more first (answered-back_to tells next same reuse.All between to more second)

  -- and then by such children up to where a run is stopped
  pub answered_up_to : AreAnswered tells reuse.All from between parts → AreAnsweredSoFar next reuse.All between to more → AreAnsweredSoFar tells reuse.All from to (parts ++ more)
  answered_up_to first second = so-far-append tells reuse.All from between to parts more first (so-far-back_to tells next same reuse.All between to more second)

  -- the last of them is that of what came then
  pub answered_up_to-last : (first : AreAnswered tells reuse.All from between parts) (second : AreAnsweredSoFar next reuse.All between to more) → (answered_up_to first second).last ≡ second.last
  unfolding answered_up_to
  answered_up_to-last first second =
      so-far-last tells reuse.All from between to parts more first (so-far-back_to tells next same reuse.All between to more second)
      ∙ so-far-back_to-last tells next same reuse.All between to more second

-- parts that are all answered are so as far as a run came, and its last part is among them
pub all_so_far : (tells : List (List ℕ) → List File → Outcome → Type 0) (reuse : Reuse) (from to : Moment) (parts : List Part) → AreAnswered tells reuse from to parts
    → AreAnsweredSoFar tells reuse from to parts
all_so_far tells reuse from to parts answered = record { done = parts; last = []; between = to; split = sym (append-nil parts); answered = answered; stopped = inl (refl, refl) }

pub all_so_far-last : (tells : List (List ℕ) → List File → Outcome → Type 0) (reuse : Reuse) (from to : Moment) (parts : List Part) (answered : AreAnswered tells reuse from to parts)
    → (all_so_far tells reuse from to parts answered).last ≡ []
unfolding all_so_far
all_so_far-last tells reuse from to parts answered = refl

-- ---- how a run begins

module _ (config : Config) (ask : RunAsk) (tree : List File) where
  -- a run begins with all of its parts
  pub begun_all : (trace : List (List Part)) (out : RunOut) → IsRunOut config ask tree trace out → IsBegun config ask tree (all_parts trace)
  begun_all trace out run = record { trace = trace; rest = []; out = out; joined = sym (append-nil (all_parts trace)); run = run }

  -- a run that has a further part after these begins with these
  pub begun_before : (remembered : Contents) (front : List Part) → NeedsChild remembered config ask tree front → IsBegun config ask tree front
  begun_before remembered front needs = record {
    trace = needs.begun.trace;
    rest = needs.part ∷ needs.begun.rest;
    out = needs.begun.out;
    joined = needs.begun.joined ∙ append_assoc front (needs.part ∷ []) needs.begun.rest;
    run = needs.begun.run;
  }

module _ (config : Config) (changed skip : List (List ℕ)) where
  begun_at : (remembered : Contents) (stages : List Stage) (course : CommitState) (told : List StageTold) (own : List Part)
      → HaveComeTo (NeedsChild remembered config) config changed skip stages course told own → HaveComeTo (IsBegun config) config changed skip stages course told own
  begun_at remembered [] course told own come = absurd come
  begun_at remembered (stage ∷ stages) course [] own come = begun_before config (ask_in changed skip stage) (tree_in stage course) remembered own come
  begun_at remembered (stage ∷ stages) course (told ∷ more) own come =
      (come.0, come.1, begun_at remembered stages (course_after stage course told.out.tree) more own come.2)

  -- stages that have a further part after these begin with these
  pub have_begun_before : (remembered : Contents) (stages : List Stage) (course : CommitState) (parts : List Part)
      → HaveFurther remembered config changed skip stages course parts → HaveBegun config changed skip stages course parts
  have_begun_before remembered stages course parts further =
      record { told = further.told; own = further.own; come = begun_at remembered stages course further.told further.own further.come; traced = further.traced }

  -- the first of the stages was run, and begins with all of its parts
  begun_first : (stage : Stage) (stages : List Stage) (course : CommitState) (told : StageTold) → IsStageTold config changed skip stage course told
      → HaveBegun config changed skip (stage ∷ stages) course (all_parts told.trace ++ [])
  begun_first stage stages course told run = record {
    told = [];
    own = all_parts told.trace;
    come = begun_all config (ask_in changed skip stage) (tree_in stage course) told.trace told.out run;
    traced = append-nil (all_parts told.trace);
  }

  -- it passed, and those after it begin with these parts
  begun_then : (stage : Stage) (stages : List Stage) (course : CommitState) (told : StageTold) (parts : List Part) → IsStageTold config changed skip stage course told → told.out.passed ≡ true
      → HaveBegun config changed skip stages (course_after stage course told.out.tree) parts → HaveBegun config changed skip (stage ∷ stages) course (all_parts told.trace ++ parts)
  begun_then stage stages course told parts run passed rest = record {
    told = told ∷ rest.told;
    own = rest.own;
    come = (run, passed, rest.come);
    traced = ap (λ (more : List Part). all_parts told.trace ++ more) rest.traced ∙ sym (append_assoc (all_parts told.trace) (parts_of_stages rest.told) rest.own);
  }

  -- stages of which a hook failed in one begin with all of their parts
  pub begun_failed : (stages : List Stage) (course : CommitState) (told : List StageTold) (failed : Stage) (last : CommitState)
      → FailedAt config changed skip stages course told failed last → HaveBegun config changed skip stages course (parts_of_stages told)
  begun_failed [] course told failed last run = absurd run
  begun_failed (stage ∷ stages) course [] failed last run = absurd run
  begun_failed (stage ∷ stages) course (told ∷ more) failed last run =
      (elim told.out.passed as (λ (b : Bool). told.out.passed ≡ b
      → MatchBool b (FailedAt config changed skip stages (course_after stage course told.out.tree) more failed last) ((more ≡ []) × (failed ≡ stage) × (last ≡ course_after stage course told.out.tree))
      → HaveBegun config changed skip (stage ∷ stages) course (all_parts told.trace ++ parts_of_stages more)) [
        | true ↦ λ passed behind. begun_then stage stages course told (parts_of_stages more) run.0 passed (begun_failed stages (course_after stage course told.out.tree) more failed last behind)
        | false ↦ λ _ ends. subst (λ (rest : List StageTold). HaveBegun config changed skip (stage ∷ stages) course (all_parts told.trace ++ parts_of_stages rest)) (sym ends.0)
            (begun_first stage stages course told run.0)
      ]) refl run.1

  begun_passed : (stage : Stage) (stages : List Stage) (course : CommitState) (told : List StageTold) (last : CommitState)
      → HavePassed config changed skip (stage ∷ stages) course told last → HaveBegun config changed skip (stage ∷ stages) course (parts_of_stages told)
  begun_passed stage stages course [] last passed = absurd passed
  begun_passed stage [] course (told ∷ []) last passed = begun_first stage [] course told passed.0
  begun_passed stage [] course (told ∷ other ∷ more) last passed = absurd passed.2
  begun_passed stage (next ∷ stages) course (told ∷ more) last passed =
      begun_then stage (next ∷ stages) course told (parts_of_stages more) passed.0 passed.1 (begun_passed next stages (course_after stage course told.out.tree) more last passed.2)

  -- and so do those before a commit, of which there is one, where they passed
  pub begun_verified : (no_verify : Bool) (course : CommitState) (told : List StageTold) (last : CommitState)
      → HavePassed config changed skip (stages_before_commit no_verify) course told last → HaveBegun config changed skip (stages_before_commit no_verify) course (parts_of_stages told)
  begun_verified true course told last passed = begun_passed PrepareCommitMsg [] course told last passed
  begun_verified false course told last passed = begun_passed PreCommit (PrepareCommitMsg ∷ CommitMsg ∷ []) course told last passed

-- ---- what stops hooks

-- memory is refused before any part
pub stopped_for_memory : (refuses : BookFault → Type 0) (tells : List (List ℕ) → List File → Outcome → Type 0) (at : Moment) (config : Config) (ask : RunAsk) (tree : List File)
    → IsRunStopped refuses tells at at config ask tree run.OutOfMemory
stopped_for_memory refuses tells at config ask tree = record {
  parts = [];
  answered = so-far tells ask.reuse at at [] (answered-none tells ask.reuse at);
  begun = begins-at-once config ask tree;
  not_named = λ is. cc;
  of_book = tt;
  needs = λ is. absurd (cc);
  put = λ is. absurd (cc);
  spent = λ is. absurd (cc);
}

module _ (refuses : BookFault → Type 0) (tells : List (List ℕ) → List File → Outcome → Type 0) (from to : Moment) where
  -- a run of a stage was stopped
  run_stopped : (config : Config) (reused : Reuse) (changed skip : List (List ℕ)) (stage : Stage) (tree : List File) (refusal : RunRefusal)
      → HaveStopped refuses tells from to config (ask_with reused changed skip stage) tree refusal → IsRunStopped refuses tells from to config (ask_with reused changed skip stage) tree refusal
  run_stopped config reused changed skip stage tree refusal have =
      let known : names_no_hook config (ask_with reused changed skip stage) ≡ false = refl in
      let named : refusal ≢ run.NoSuchHook = λ is. let unknown = have.unknown is in cc in
      record {
        parts = have.over.parts;
        answered = have.over.answered;
        begun = have.over.begins named;
        not_named = named;
        of_book = have.of_book;
        needs = have.over.needs;
        put = have.over.untold;
        spent = have.over.spent;
      }

  pub run_stopped_if : (config : Config) (reused : Reuse) (changed skip : List (List ℕ)) (stage : Stage) (tree : List File) (result : Result RunOut RunRefusal)
      → IfErr result (HaveStopped refuses tells from to config (ask_with reused changed skip stage) tree)
      → IfErr result (IsRunStopped refuses tells from to config (ask_with reused changed skip stage) tree)
  run_stopped_if config reused changed skip stage tree (Ok out) have = tt
  run_stopped_if config reused changed skip stage tree (Err refusal) have = run_stopped config reused changed skip stage tree refusal have

  pub halted_run : (config : Config) (ask : RunAsk) (tree on : List File) (refusal : RunRefusal) → tree ≡ on
      → IsRunStopped refuses tells from to config ask tree refusal → IsHalted refuses tells ask.reuse from to (IsBegun config ask on) (NeedsChild to.remembered config ask on) (of_run refusal)
  halted_run config ask tree on refusal is stopped = record {
    parts = stopped.parts;
    answered = stopped.answered;
    begun = subst (λ (files : List File). IsBegun config ask files stopped.parts) is stopped.begun;
    why = record { inner = refusal; not_named = stopped.not_named; of_book = stopped.of_book; is = refl };
    needs = λ spent. subst (λ (files : List File). NeedsChild to.remembered config ask files stopped.parts) is (stopped.needs (run_spent refusal spent));
    put = λ spent. stopped.put (run_spent refusal spent);
    spent = λ spent. stopped.spent (run_spent refusal spent);
  }

  -- memory is refused after these parts
  unfoldable pub halted_for_memory : (reused : Reuse) (begins further : List Part → Type 0) (parts : List Part) → begins parts → AreAnswered tells reused from to parts
      → IsHalted refuses tells reused from to begins further OutOfMemory
  halted_for_memory reused begins further parts begun answered = record {
    parts = parts;
    answered = so-far tells reused from to parts answered;
    begun = begun;
    why = record { inner = run.OutOfMemory; not_named = λ is. cc; of_book = tt; is = refl };
    needs = λ is. absurd (cc);
    put = λ is. absurd (cc);
    spent = λ is. absurd (cc);
  }

-- ---- one stage

pub stage_over : (tells : List (List ℕ) → List File → Outcome → Type 0) (reused : Reuse) (from to : Moment) (config : Config) (changed skip : List (List ℕ)) (stage : Stage)
    (course begun left : CommitState) (out : RunOut)
    → begun.tree ≡ tree_in stage course → ((tree : List File) → course_after stage begun tree ≡ course_after stage course tree)
    → HaveRun tells from to config (ask_with reused changed skip stage) begun.tree out → left ≡ course_after stage begun out.tree
    → IsStageOver tells reused from to config changed skip stage course (record { passed = out.passed; report = out.report; course = left })
stage_over tells reused from to config changed skip stage course begun left out on same ran is =
    let over = subst (λ (tree : List File). HaveRun tells from to config (ask_with reused changed skip stage) tree out) on ran in
    record {
      told = record { trace = over.over.trace; out = out };
      run = over.over.run;
      answered = over.over.answered;
      passed = refl;
      reported = refl;
      left = is ∙ same out.tree;
    }

-- ---- one after another

-- The stages so far have passed. What the others do on what they pass on, all stages do on what was passed to the first.
pub record AreSoFar (tells : List (List ℕ) → List File → Outcome → Type 0) (from to : Moment) (config : Config) (changed skip : List (List ℕ)) (stages : List Stage) (first : CommitState)
    (rest : List Stage) (course : CommitState) (reports : List (List ℕ)) : Type 0 where
  pub told : List StageTold
  pub answered : AreAnswered tells reuse.All from to (parts_of_stages told)
  pub reported : reports ≡ reports_of told
  pub pass : (more : List StageTold) (last : CommitState) → HavePassed config changed skip rest course more last → HavePassed config changed skip stages first (told ++ more) last
  pub begins : (more : List StageTold) (own : List Part) → HaveComeTo (IsBegun config) config changed skip rest course more own
      → HaveComeTo (IsBegun config) config changed skip stages first (told ++ more) own
  pub stop : (remembered : Contents) (more : List StageTold) (own : List Part)
      → HaveComeTo (NeedsChild remembered config) config changed skip rest course more own → HaveComeTo (NeedsChild remembered config) config changed skip stages first (told ++ more) own
  pub fail : (more : List StageTold) (failed : Stage) (last : CommitState) → FailedAt config changed skip rest course more failed last
      → FailedAt config changed skip stages first (told ++ more) failed last

pub rest_after : (stages : List Stage) (index : ℕ) (other : Stage) → index < length stages → drop index stages ≡ get_or stages index other ∷ drop (index + 1) stages
rest_after stages index other within =
    let next : suc index ≡ index + 1 = omega arith in
    subst (λ (n : ℕ). drop index stages ≡ get_or stages index other ∷ drop n stages) next (drop-cons stages index other within)

parts_of-more : (told : List StageTold) (one : StageTold) → parts_of_stages (told ++ one ∷ []) ≡ parts_of_stages told ++ all_parts one.trace
parts_of-more [] one = append-nil (all_parts one.trace)
parts_of-more (first ∷ told) one =
    ap (λ rest. all_parts first.trace ++ rest) (parts_of-more told one) ∙ sym (append_assoc (all_parts first.trace) (parts_of_stages told) (all_parts one.trace))

reports_of-more : (told : List StageTold) (one : StageTold) → reports_of (told ++ one ∷ []) ≡ reports_of told ++ one.out.report ∷ []
reports_of-more [] one = refl
reports_of-more (first ∷ told) one = ap (λ rest. first.out.report ∷ rest) (reports_of-more told one)

pub none_so_far : (tells : List (List ℕ) → List File → Outcome → Type 0) (at : Moment) (config : Config) (changed skip : List (List ℕ)) (stages : List Stage) (course : CommitState)
    (reports : List (List ℕ))
    → reports ≡ [] → AreSoFar tells at at config changed skip stages course stages course reports
none_so_far tells at config changed skip stages course reports none = record {
  told = [];
  answered = answered-none tells reuse.All at;
  reported = none;
  pass = λ more last passed. passed;
  begins = λ more own come. come;
  stop = λ remembered more own come. come;
  fail = λ more failed last run. run;
}

module _ (tells next : List (List ℕ) → List File → Outcome → Type 0) (from between to : Moment) (config : Config) (changed skip : List (List ℕ)) (stages : List Stage) (first : CommitState)
    (left rest : List Stage) (stage : Stage) (course : CommitState) (reports : List (List ℕ))
    (same : SameTells tells next) (so_far : AreSoFar tells from between config changed skip stages first left course reports) (is : left ≡ stage ∷ rest) where
  -- the next stage begins with these parts of its own
  begun_so_far : (parts own : List Part) → IsBegun config (ask_in changed skip stage) (tree_in stage course) own → parts ≡ parts_of_stages so_far.told ++ own
      → HaveBegun config changed skip stages first parts
  begun_so_far parts own begun traced = record {
    told = so_far.told;
    own = own;
    come = subst (λ (told : List StageTold). HaveComeTo (IsBegun config) config changed skip stages first told own) (append-nil so_far.told)
        (so_far.begins [] own (subst (λ (on : List Stage). HaveComeTo (IsBegun config) config changed skip on course [] own) (sym is) begun));
    traced = traced;
  }

  -- the next stage was run
  module _ (reports_after : List (List ℕ)) (end : StageEnd) (over : IsStageOver next reuse.All between to config changed skip stage course end)
      (added : reports_after ≡ reports ++ end.report ∷ []) where
    abbrev all : List StageTold
    all = so_far.told ++ over.told ∷ []

    answered_now : AreAnswered tells reuse.All from to (parts_of_stages all)
    answered_now = subst (AreAnswered tells reuse.All from to) (sym (parts_of-more so_far.told over.told))
        (answered_then tells next from between to (parts_of_stages so_far.told) (all_parts over.told.trace) same so_far.answered over.answered)

    reported_now : reports_after ≡ reports_of all
    reported_now =
        added ∙ ap (λ (before : List (List ℕ)). before ++ end.report ∷ []) so_far.reported ∙ ap (λ (report : List ℕ). reports_of so_far.told ++ report ∷ []) over.reported
        ∙ sym (reports_of-more so_far.told over.told)

    pub one_more : end.passed ≡ true → AreSoFar tells from to config changed skip stages first rest end.course reports_after
    one_more passed = record {
      told = all;
      answered = answered_now;
      reported = reported_now;
      pass = λ more last passed_then. subst (λ (told : List StageTold). HavePassed config changed skip stages first told last) (sym (append_assoc so_far.told (over.told ∷ []) more))
          (so_far.pass (over.told ∷ more) last (subst (λ (on : List Stage). HavePassed config changed skip on course (over.told ∷ more) last) (sym is)
          (over.run, sym over.passed ∙ passed, subst (λ (on : CommitState). HavePassed config changed skip rest on more last) over.left passed_then)));
      begins = λ more own come. subst (λ (told : List StageTold). HaveComeTo (IsBegun config) config changed skip stages first told own) (sym (append_assoc so_far.told (over.told ∷ []) more))
          (so_far.begins (over.told ∷ more) own (subst (λ (on : List Stage). HaveComeTo (IsBegun config) config changed skip on course (over.told ∷ more) own) (sym is)
          (over.run, sym over.passed ∙ passed, subst (λ (on : CommitState). HaveComeTo (IsBegun config) config changed skip rest on more own) over.left come)));
      stop =
          λ remembered more own come. subst (λ (told : List StageTold). HaveComeTo (NeedsChild remembered config) config changed skip stages first told own)
          (sym (append_assoc so_far.told (over.told ∷ []) more))
          (so_far.stop remembered (over.told ∷ more) own (subst (λ (on : List Stage). HaveComeTo (NeedsChild remembered config) config changed skip on course (over.told ∷ more) own) (sym is)
          (over.run, sym over.passed ∙ passed, subst (λ (on : CommitState). HaveComeTo (NeedsChild remembered config) config changed skip rest on more own) over.left come)));
      fail = λ more failed last failed_then. subst (λ (told : List StageTold). FailedAt config changed skip stages first told failed last) (sym (append_assoc so_far.told (over.told ∷ []) more))
          (so_far.fail (over.told ∷ more) failed last (subst (λ (on : List Stage). FailedAt config changed skip on course (over.told ∷ more) failed last) (sym is)
          (over.run, rw (sym over.passed ∙ passed) (subst (λ (on : CommitState). FailedAt config changed skip rest on more failed last) over.left failed_then))));
    }

    pub one_failed : end.passed ≡ false → AreRunOver tells from to config changed skip stages first (Failed stage reports_after end.course)
    one_failed not_passed = record {
      told = all;
      ran_so = so_far.fail (over.told ∷ []) stage end.course (subst (λ (on : List Stage). FailedAt config changed skip on course (over.told ∷ []) stage end.course) (sym is)
          (over.run, rw (sym over.passed ∙ not_passed) (refl, refl, over.left)));
      answered = answered_now;
      reported = reported_now;
    }

    begun_now : HaveBegun config changed skip stages first (parts_of_stages all)
    begun_now =
        begun_so_far (parts_of_stages all) (all_parts over.told.trace) (begun_all config (ask_in changed skip stage) (tree_in stage course) over.told.trace over.told.out over.run)
        (parts_of-more so_far.told over.told)

    pub one_lost : (refuses : BookFault → Type 0)
        → IsHalted refuses tells reuse.All from to (HaveBegun config changed skip stages first) (HaveFurther to.remembered config changed skip stages first) OutOfMemory
    one_lost refuses =
        halted_for_memory refuses tells from to reuse.All (HaveBegun config changed skip stages first) (HaveFurther to.remembered config changed skip stages first) (parts_of_stages all)
        begun_now answered_now

  -- the next stage is stopped
  pub one_halted : (refuses : BookFault → Type 0) (refusal : HostRefusal)
      → IsHalted refuses next reuse.All between to (IsBegun config (ask_in changed skip stage) (tree_in stage course))
      (NeedsChild to.remembered config (ask_in changed skip stage) (tree_in stage course)) refusal
      → IsHalted refuses tells reuse.All from to (HaveBegun config changed skip stages first) (HaveFurther to.remembered config changed skip stages first) refusal
  one_halted refuses refusal halted = record {
    parts = parts_of_stages so_far.told ++ halted.parts;
    answered = answered_up_to tells next from between to (parts_of_stages so_far.told) halted.parts same so_far.answered halted.answered;
    begun = begun_so_far (parts_of_stages so_far.told ++ halted.parts) halted.parts halted.begun refl;
    why = halted.why;
    needs = λ spent. record {
      told = so_far.told;
      own = halted.parts;
      come = subst (λ (told : List StageTold). HaveComeTo (NeedsChild to.remembered config) config changed skip stages first told halted.parts) (append-nil so_far.told)
          (so_far.stop to.remembered [] halted.parts (subst (λ (on : List Stage). HaveComeTo (NeedsChild to.remembered config) config changed skip on course [] halted.parts) (sym is)
          (halted.needs spent)));
      traced = refl;
    };
    put = λ spent. answered_up_to-last tells next from between to (parts_of_stages so_far.told) halted.parts same so_far.answered halted.answered ∙ halted.put spent;
    spent = halted.spent;
  }

pub all_passed : (tells : List (List ℕ) → List File → Outcome → Type 0) (from to : Moment) (config : Config) (changed skip : List (List ℕ)) (stages : List Stage) (first : CommitState)
    (left : List Stage) (course : CommitState) (reports : List (List ℕ)) → AreSoFar tells from to config changed skip stages first left course reports → left ≡ []
    → AreRunOver tells from to config changed skip stages first (Passed reports course)
all_passed tells from to config changed skip stages first left course reports so_far is = record {
  told = so_far.told;
  ran_so = subst (λ (told : List StageTold). HavePassed config changed skip stages first told course) (append-nil so_far.told)
      (so_far.pass [] course (subst (λ (on : List Stage). HavePassed config changed skip on course [] course) (sym is) refl));
  answered = so_far.answered;
  reported = so_far.reported;
}
