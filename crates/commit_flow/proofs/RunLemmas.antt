-- A run on the staged files, from what is ready for it and what its hooks came to.
use Rattle.std.proofs.Common.{◌≡◌, ◌≢◌, ◌↔◌, ◌∙◌, ap, sym, subst, inl, inr, refl, ℕ, Bool, true, false, List, [], ◌∷◌, Result, Ok, Err, IfOk, IfErr}
use Rattle.std.proofs.lemmas.List.{append-nil}
use Rattle.hook_base.specs.declared.change.Change.{Change}
use Rattle.hook_base.specs.declared.file.File.{File}
use Rattle.hook_base.specs.Trees.{changes_between}
use Rattle.child_port.specs.declared.answer.Outcome.{Outcome}
use Rattle.hook_config.specs.declared.configuration.Config.{Config}
use Rattle.result_book.specs.declared.book_fault.BookFault.{BookFault}
use Rattle.result_book.specs.ToldLemmas.{adds-none}
use Rattle.repo_store.specs.StoreBooks.{RefusesAnswers}
use Rattle.hook_run.specs.declared.hooks_run.HooksRun.{HooksRun}
use Rattle.hook_run.specs.declared.run_ask.RunAsk.{RunAsk}
use Rattle.hook_run.specs.declared.run_out.RunOut.{RunOut}
use Rattle.hook_run.specs.declared.run_refusal.RunRefusal.{RunRefusal}
use Rattle.hook_run.specs.declared.run_refusal.RunRefusal.TheVariants as run
use Rattle.hook_run.specs.Asks.{names_no_hook}
use Rattle.hook_run.specs.Answers.{AreReused}
use Rattle.hook_run.specs.AnswerLemmas.{answered-adds, answered-none, so-far, so-far-adds, so-far-whole}
use Rattle.hook_run.specs.Moments.{Moment}
use Rattle.hook_run.specs.Parts.{Part, all_parts}
use Rattle.hook_run.specs.Refusals.{IsOfBook}
use Rattle.hook_run.specs.RunOuts.{IsBegun, IsCountedRun, IsStoppedRun}
use Rattle.store_faults.specs.declared.fault.StoreFault.{StoreFault}
use Rattle.store_faults.specs.declared.fault.StoreFault.TheVariants as store
use Rattle.store_faults.specs.Faults.{IsRefusal}
use Rattle.repo_store.specs.Kept.{FixCollides, HasLarge, Kept, setting}
use Rattle.repo_store.specs.Repository.{Repository, staged_changes}
use Rattle.commit_flow.specs.declared.command.Command.TheVariants.{Run}
use Rattle.commit_flow.specs.declared.host_ask.HostAsk.{HostAsk}
use Rattle.commit_flow.specs.declared.host_refusal.HostRefusal.{HostRefusal}
use Rattle.commit_flow.specs.declared.host_refusal.HostRefusal.TheVariants.{OutOfMemory, Store, BadPath, NotStaged, TooLarge, TooMany, NoConfig, BadConfig, NoSuchHook, NothingStaged, NoFixes, EmptyMessage, Collision, Spent, Clash}
use Rattle.commit_flow.specs.declared.prepared.Prepared.{Prepared}
use Rattle.commit_flow.specs.declared.staged_run.StagedRun.{StagedRun}
use Rattle.commit_flow.specs.Configured.{HasReadableConfig}
use Rattle.commit_flow.specs.Preparations.{HasRunOnStaged, HasRunReady, HasStoppedReady, HaveRun, HaveRunCounted, HaveStopped, IsConfigRefusal, IsPrepared, IsUnprepared, staged_run_of}
use Rattle.commit_flow.specs.Refusals.{of_run, of_store}
use Rattle.commit_flow.specs.RunRefusals.{IsRunRefusal}
use Rattle.commit_flow.specs.RunSteps.{HasRunBegun, HasRunBut, IsRunStep, IsStoppedAt, IsStoppedStep, IsUnset, StoreStopsRun, reply_of_run}
use Rattle.commit_flow.specs.Stops.{Reaches}
use Rattle.commit_flow.specs.Runs.{IsNameRefusal, IsNamesRefusal, IsRan, IsRunnable, fixing, names_in, reuse_of, run_ask_of}
use Rattle.commit_flow.proofs.FixLemmas.{changes_are_staged, setting_is_fixing}
use Rattle.commit_flow.proofs.RefusalLemmas.{by_stop, run_spent}
use Rattle.commit_flow.proofs.StagesLemmas.{all_so_far, all_so_far-last}

-- ---- a run that isn't made ready

none_of : (repo : Repository) (refusal : HostRefusal) → ((name : List ℕ) → ¬ IsNameRefusal repo name refusal) → (names : List (List ℕ)) → ¬ IsNamesRefusal repo names refusal
none_of repo refusal never [] why = why
none_of repo refusal never (name ∷ names) why = elim why [ inl is ↦ never name is | inr later ↦ none_of repo refusal never names later.1 ]

-- a refusal before any part
abbrev IsEarly : (List (List ℕ) → List File → Outcome → Type 0) → Moment → Repository → HostAsk → List (List ℕ) → HostRefusal → Type 0
IsEarly tells at before ask contents refusal = IsRunRefusal before ask refusal × IsStoppedAt tells at at before ask [] contents refusal

module _ (tells : List (List ℕ) → List File → Outcome → Type 0) (at : Moment) (before : Repository) (ask : HostAsk) (contents : List (List ℕ)) where
  by_config : (refusal : HostRefusal) → IsConfigRefusal before refusal → IsEarly tells at before ask contents refusal
  by_config OutOfMemory why = (tt, inl (refl, refl))
  by_config (Store fault) why = absurd why
  by_config (BadPath fault) why = absurd why
  by_config NotStaged why = absurd why
  by_config TooLarge why = absurd why
  by_config TooMany why = absurd why
  by_config NoConfig why = (why, (refl, refl))
  by_config (BadConfig fault) why = (why, (refl, refl))
  by_config NoSuchHook why = absurd why
  by_config NothingStaged why = absurd why
  by_config NoFixes why = absurd why
  by_config EmptyMessage why = absurd why
  by_config Collision why = absurd why
  by_config Spent why = absurd why
  by_config Clash why = absurd why

  by_names : HasReadableConfig before → (refusal : HostRefusal) → IsNamesRefusal before (names_in ask.which) refusal → IsEarly tells at before ask contents refusal
  by_names readable OutOfMemory why = (tt, inl (refl, refl))
  by_names readable (Store fault) why = absurd (none_of before (Store fault) (λ _ is. is) (names_in ask.which) why)
  by_names readable (BadPath fault) why = ((readable, why), (refl, refl))
  by_names readable NotStaged why = ((readable, why), (refl, refl))
  by_names readable TooLarge why = absurd (none_of before TooLarge (λ _ is. is) (names_in ask.which) why)
  by_names readable TooMany why = absurd (none_of before TooMany (λ _ is. is) (names_in ask.which) why)
  by_names readable NoConfig why = absurd (none_of before NoConfig (λ _ is. is) (names_in ask.which) why)
  by_names readable (BadConfig fault) why = absurd (none_of before (BadConfig fault) (λ _ is. is) (names_in ask.which) why)
  by_names readable NoSuchHook why = absurd (none_of before NoSuchHook (λ _ is. is) (names_in ask.which) why)
  by_names readable NothingStaged why = absurd (none_of before NothingStaged (λ _ is. is) (names_in ask.which) why)
  by_names readable NoFixes why = absurd (none_of before NoFixes (λ _ is. is) (names_in ask.which) why)
  by_names readable EmptyMessage why = absurd (none_of before EmptyMessage (λ _ is. is) (names_in ask.which) why)
  by_names readable Collision why = absurd (none_of before Collision (λ _ is. is) (names_in ask.which) why)
  by_names readable Spent why = absurd (none_of before Spent (λ _ is. is) (names_in ask.which) why)
  by_names readable Clash why = absurd (none_of before Clash (λ _ is. is) (names_in ask.which) why)

  early : (refusal : HostRefusal) → IsUnprepared before ask refusal → IsEarly tells at before ask contents refusal
  early refusal why =
      elim why [
        | inl config ↦ by_config refusal config
        | inr names ↦
            elim names.1 [
              | inl wanting ↦ subst (λ (r : HostRefusal). IsEarly tells at before ask contents r) (sym wanting) (by_config OutOfMemory tt)
              | inr is ↦ by_names names.0 refusal is
            ]
      ]

pub unready : (tells : List (List ℕ) → List File → Outcome → Type 0) (at : Moment) (before : Repository) (ask : HostAsk) (after : Kept) (refusal : HostRefusal) → after.repo ≡ before
    → IsUnprepared before ask refusal
    → IsStoppedStep tells at at before ask after refusal
unready tells at before ask after refusal left why =
    let p = early tells at before ask after.contents refusal why in
    record {
      parts = [];
      step = ((p.0, refl), left);
      answered = all_so_far tells (reuse_of ask) at at [] (answered-none tells (reuse_of ask) at);
      told = λ _. tt;
      adds = adds-none tells at.remembered;
      stopped = p.1;
      put = λ _. all_so_far-last tells (reuse_of ask) at at [] (answered-none tells (reuse_of ask) at);
    }

-- ---- a run of hooks

never_true : (test : Bool) → (test ≢ true) → test ≡ false
never_true true never = absurd (never refl)
never_true false never = refl

pub stopped_if : (refuses : BookFault → Type 0) (tells : List (List ℕ) → List File → Outcome → Type 0) (from to : Moment) (config : Config) (ask : RunAsk) (tree : List File)
    (result : Result HooksRun RunRefusal)
    → IfErr result (IsStoppedRun tells from to config ask tree) → ((result ≡ Err run.NoSuchHook) ↔ (names_no_hook config ask ≡ true)) → IfErr result (IsOfBook refuses)
    → IfErr result (HaveStopped refuses tells from to config ask tree)
stopped_if refuses tells from to config ask tree (Ok ran) stopped no_hook refused = tt
stopped_if refuses tells from to config ask tree (Err refusal) stopped no_hook refused = record {
  unknown = λ is. no_hook.0 (ap Err is);
  known = λ isnt. never_true (names_no_hook config ask) (λ unknown. let is = no_hook.1 unknown in isnt (cc));
  of_book = refused;
  over = stopped;
}

pub counted_if : (tells : List (List ℕ) → List File → Outcome → Type 0) (from to : Moment) (config : Config) (ask : RunAsk) (tree : List File) (result : Result HooksRun RunRefusal)
    → IfOk result (IsCountedRun tells from to config ask tree) → ((result ≡ Err run.NoSuchHook) ↔ (names_no_hook config ask ≡ true))
    → IfOk result (HaveRunCounted tells from to config ask tree)
counted_if tells from to config ask tree (Ok ran) counted no_hook = record {
  run = record { known = never_true (names_no_hook config ask) (λ unknown. let is = no_hook.1 unknown in absurd (cc)); over = counted.over };
  counted = counted.reused;
}
counted_if tells from to config ask tree (Err refusal) counted no_hook = tt

abbrev pub with_changes : List Change → HooksRun → StagedRun
with_changes changes ran = record { passed = ran.out.passed; report = ran.out.report; changes = changes; unsteady = ran.out.unsteady; reused = ran.reused }

-- what is given of it
pub given_so : (staged : List File) (ran : HooksRun) (changes : List Change) → changes ≡ changes_between staged ran.out.tree
    → with_changes changes ran ≡ staged_run_of staged ran
given_so staged ran changes same =
    ap (λ (fixes : List Change). with_changes fixes ran) same

-- it is lost where memory is refused after it
pub lost : (refuses : BookFault → Type 0) (tells : List (List ℕ) → List File → Outcome → Type 0) (from to : Moment) (config : Config) (ask : RunAsk) (tree : List File) (out : RunOut)
    → HaveRun tells from to config ask tree out → HaveStopped refuses tells from to config ask tree run.OutOfMemory
lost refuses tells from to config ask tree out have =
    let parts = all_parts have.over.trace in
    record {
      unknown = λ is. absurd (cc);
      known = λ _. have.known;
      of_book = tt;
      over = record {
        parts = parts;
        answered = so-far tells ask.reuse from to parts have.over.answered;
        told = have.over.told;
        no_hook = λ is. absurd (cc);
        begins = λ _. record { trace = have.over.trace; rest = []; out = out; joined = sym (append-nil parts); run = have.over.run };
        cut_off = so-far-whole tells ask.reuse (IsBegun config ask tree) from to parts have.over.answered;
        needs = λ is. absurd (cc);
        untold = λ is. absurd (cc);
        spent = λ is. absurd (cc);
      };
    }

-- ---- a run that is made ready

abbrev prepared_with : Config → RunAsk → List File → Prepared
prepared_with config ask tree = record { config = config; ask = ask; tree = tree }

same_prepared : (config : Config) (first second : RunAsk) (tree other : List File) → first ≡ second → tree ≡ other → prepared_with config first tree ≡ prepared_with config second other
same_prepared config first second tree other asked same = cc

-- A run is refused after its hooks. Done, it would have made this of the repository.
pub record IsStoppedShort (tells : List (List ℕ) → List File → Outcome → Type 0) (from to : Moment) (before : Repository) (ask : HostAsk) (after : Kept) (refusal : HostRefusal)
    (made : Repository) : Type 0 where
  pub over : IsStoppedStep tells from to before ask after refusal
  pub reaches : Reaches before (Run ask) over.parts made

-- a run that isn't refused reaches what it makes
pub ran_reaches : (tells : List (List ℕ) → List File → Outcome → Type 0) (from to : Moment) (before : Repository) (ask : HostAsk) (ran : StagedRun) (after : Repository)
    (over : IsRunStep tells from to before ask ran after)
    → Reaches before (Run ask) over.parts after
ran_reaches tells from to before ask ran after over = record { first = over.parts; others = []; stretch = sym (append-nil over.parts); reply = reply_of_run ran; done = tt; step = over.step }

module _ (tells : List (List ℕ) → List File → Outcome → Type 0) (from to : Moment) (before : Repository) (ask : HostAsk) (ready : Prepared) (is : IsPrepared before ask ready) where
  abbrev whole : Prepared
  whole = prepared_with ready.config (run_ask_of ask before) before.staged

  ready_is : ready ≡ whole
  ready_is = same_prepared ready.config ready.ask (run_ask_of ask before) ready.tree before.staged is.asked is.tree

  runnable : names_no_hook ready.config (run_ask_of ask before) ≡ false → IsRunnable before ask ready.config
  runnable known = record { configured = is.configured; named = is.named; known = known }

  ran_whole : (ran : StagedRun) → HasRunReady tells from to ready ran → HasRunReady tells from to whole ran
  ran_whole ran has = subst (λ (r : Prepared). HasRunReady tells from to r ran) ready_is has

  changes_of : (ran : StagedRun) (has : HasRunReady tells from to whole ran) → ran.changes ≡ changes_between before.staged has.hooks.out.tree
  changes_of ran has = ap (λ (r : StagedRun). r.changes) has.gives

  staged_fixes : (ran : StagedRun) (has : HasRunReady tells from to whole ran) → staged_changes ran.changes before.staged ≡ changes_between before.staged has.hooks.out.tree
  staged_fixes ran has = ap (λ (l : List Change). staged_changes l before.staged) (changes_of ran has) ∙ changes_are_staged before.staged has.hooks.out.tree

  pub all_staged : (ran : StagedRun) → HasRunReady tells from to ready ran → staged_changes ran.changes before.staged ≡ ran.changes
  all_staged ran has = let w = ran_whole ran has in staged_fixes ran w ∙ sym (changes_of ran w)

  is_ran : (ran : StagedRun) (has : HasRunReady tells from to whole ran) (after : Repository) → after ≡ fixing ran.changes before
      → IsRan before ask ran.passed ran.report ran.changes ran.unsteady (all_parts has.run.over.trace) after
  is_ran ran has after made = record {
    config = ready.config;
    trace = has.run.over.trace;
    out = has.hooks.out;
    runnable = runnable has.run.known;
    run = has.run.over.run;
    traced = refl;
    verdict = ap (λ (r : StagedRun). r.passed) has.gives;
    reported = ap (λ (r : StagedRun). r.report) has.gives;
    marked = ap (λ (r : StagedRun). r.unsteady) has.gives;
    fixed = changes_of ran has;
    made = made;
  }

  -- the fixes are set, of a store that keeps this repository
  pub made_so : (ran : StagedRun) → HasRunReady tells from to ready ran → (between : Kept) → between.repo ≡ before → (setting ran.changes between).repo ≡ fixing ran.changes before
  made_so ran has between same =
      setting_is_fixing between ran.changes (subst (λ (repo : Repository). staged_changes ran.changes repo.staged ≡ ran.changes) (sym same) (all_staged ran has))
      ∙ ap (fixing ran.changes) same

  pub run_step : (ran : StagedRun) → HasRunReady tells from to ready ran → (between : Kept) → between.repo ≡ before → IsRunStep tells from to before ask ran (setting ran.changes between).repo
  run_step ran has between same =
      let w = ran_whole ran has in
      record {
        parts = all_parts w.run.over.trace;
        step = is_ran ran w (setting ran.changes between).repo (made_so ran has between same);
        answered = w.run.over.answered;
        told = w.run.over.told;
        adds = answered-adds tells (reuse_of ask) from to (all_parts w.run.over.trace) w.run.over.answered;
        reused = subst (AreReused (all_parts w.run.over.trace) w.run.over.answered.started) (sym (ap (λ (r : StagedRun). r.reused) w.gives)) w.counted;
      }

  begun_all : (ran : StagedRun) (has : HasRunReady tells from to whole ran) → HasRunBegun before ask (all_parts has.run.over.trace)
  begun_all ran has =
      let over = has.run.over in
      record {
        config = ready.config;
        runnable = runnable has.run.known;
        begun = record { trace = over.trace; rest = []; out = has.hooks.out; joined = sym (append-nil (all_parts over.trace)); run = over.run };
      }

  run_but : (ran : StagedRun) (has : HasRunReady tells from to whole ran) (reason : List Change → Type 0) → reason (staged_changes ran.changes before.staged)
      → HasRunBut before ask (all_parts has.run.over.trace) reason
  run_but ran has reason why = record {
    config = ready.config;
    trace = has.run.over.trace;
    out = has.hooks.out;
    runnable = runnable has.run.known;
    run = has.run.over.run;
    traced = refl;
    why = subst reason (staged_fixes ran has) why;
  }

  by_store : (ran : StagedRun) (has : HasRunReady tells from to whole ran) (reason : List Change → Type 0) → reason (staged_changes ran.changes before.staged)
      → StoreStopsRun tells from to before ask (all_parts has.run.over.trace) reason
  by_store ran has reason why = inl (run_but ran has reason why, has.run.over.answered)

  at_store : (ran : StagedRun) (has : HasRunReady tells from to whole ran) (contents : List (List ℕ)) (fault : StoreFault)
      → IsRefusal (HasLarge (staged_changes ran.changes before.staged)) ⊥ (FixCollides (staged_changes ran.changes before.staged) contents) fault
      → IsRunRefusal before ask (of_store fault) × IsStoppedAt tells from to before ask (all_parts has.run.over.trace) contents (of_store fault)
  at_store ran has contents store.NotAStore why = absurd why
  at_store ran has contents store.Damaged why = absurd why
  at_store ran has contents (store.Sql error) why = (((ready.config, runnable has.run.known), tt), by_store ran has (IsUnset (store.Sql error)) tt)
  at_store ran has contents store.OutOfMemory why = (tt, inr (begun_all ran has))
  at_store ran has contents store.Collision why = (((ready.config, runnable has.run.known), tt), by_store ran has (λ (fixes : List Change). FixCollides fixes contents) why)
  at_store ran has contents store.TooLarge why = (((ready.config, runnable has.run.known), tt), by_store ran has (IsUnset store.TooLarge) why)
  at_store ran has contents store.TooMany why = absurd why

  pub set_refused : (ran : StagedRun) → HasRunReady tells from to ready ran → (after : Kept) → after.repo ≡ before → (fault : StoreFault)
      → IsRefusal (HasLarge (staged_changes ran.changes after.repo.staged)) ⊥ (FixCollides (staged_changes ran.changes after.repo.staged) after.contents) fault
      → IsStoppedShort tells from to before ask after (of_store fault) (setting ran.changes after).repo
  set_refused ran has after left fault why =
      let w = ran_whole ran has in
      let p = at_store ran w after.contents fault
      (subst (λ (repo : Repository). IsRefusal (HasLarge (staged_changes ran.changes repo.staged)) ⊥ (FixCollides (staged_changes ran.changes repo.staged) after.contents) fault) left why) in
      record {
        over = record {
          parts = all_parts w.run.over.trace;
          step = ((p.0, refl), left);
          answered = all_so_far tells (reuse_of ask) from to (all_parts w.run.over.trace) w.run.over.answered;
          told = w.run.over.told;
          adds = answered-adds tells (reuse_of ask) from to (all_parts w.run.over.trace) w.run.over.answered;
          stopped = p.1;
          put = λ _. all_so_far-last tells (reuse_of ask) from to (all_parts w.run.over.trace) w.run.over.answered;
        };
        reaches = record {
          first = all_parts w.run.over.trace;
          others = [];
          stretch = sym (append-nil (all_parts w.run.over.trace));
          reply = reply_of_run ran;
          done = tt;
          step = is_ran ran w (setting ran.changes after).repo (made_so ran has after left);
        };
      }

  -- so their run may be refused that were stopped
  abbrev IsInner : List (List ℕ) → List Part → HostRefusal → Type 0
  IsInner contents parts refusal = IsRunRefusal before ask refusal × IsStoppedAt tells from to before ask parts contents refusal

  by_known : (contents : List (List ℕ)) (inner : RunRefusal) (have : HaveStopped RefusesAnswers tells from to ready.config (run_ask_of ask before) before.staged inner) → inner ≢ run.NoSuchHook
      → IsInner contents have.over.parts (of_run inner)
  by_known contents inner have named =
      let able = runnable (have.known named) in
      let begun : HasRunBegun before ask have.over.parts = record { config = ready.config; runnable = able; begun = have.over.begins named } in
      by_stop (IsInner contents have.over.parts) inner named have.of_book
      (tt, inr begun)
      (((ready.config, able), tt), inr begun)
      (λ fault of_fixes. (((ready.config, able), of_fixes), inr begun))
      (λ spent. (((ready.config, able), tt), (record { config = ready.config; runnable = able; needs = have.over.needs spent }, have.over.spent spent)))

  by_inner : (contents : List (List ℕ)) (inner : RunRefusal) (have : HaveStopped RefusesAnswers tells from to ready.config (run_ask_of ask before) before.staged inner)
      → IsInner contents have.over.parts (of_run inner)
  by_inner contents run.NoSuchHook have = (record { config = ready.config; configured = is.configured; named = is.named; unknown = have.unknown refl }, have.over.no_hook refl)
  by_inner contents inner have = by_known contents inner have (λ is. cc)

  module _ (after : Kept) (left : after.repo ≡ before) where
    by_whole : (refusal : HostRefusal) → HasStoppedReady RefusesAnswers tells from to whole refusal → IsStoppedStep tells from to before ask after refusal
    by_whole refusal has =
        let over = has.stopped.over in
        let p = by_inner after.contents has.inner has.stopped in
        subst (λ (r : HostRefusal). IsStoppedStep tells from to before ask after r) (sym has.is)
        (record {
          parts = over.parts;
          step = ((p.0, refl), left);
          answered = over.answered;
          told = over.told;
          adds = so-far-adds tells (reuse_of ask) from to over.parts over.answered;
          stopped = p.1;
          put = λ is. over.untold (run_spent has.inner is);
        })

    pub run_refused : (refusal : HostRefusal) → HasStoppedReady RefusesAnswers tells from to ready refusal → IsStoppedStep tells from to before ask after refusal
    run_refused refusal has = by_whole refusal (subst (λ (r : Prepared). HasStoppedReady RefusesAnswers tells from to r refusal) ready_is has)

    pub run_refused_if : (result : Result StagedRun HostRefusal) → IfErr result (HasStoppedReady RefusesAnswers tells from to ready)
        → IfErr result (IsStoppedStep tells from to before ask after)
    run_refused_if (Ok ran) has = tt
    run_refused_if (Err refusal) has = run_refused refusal has

  -- what hooks that are ready may give
  pub staged_if : (result : Result StagedRun HostRefusal) → IfOk result (HasRunReady tells from to ready)
      → IfOk result (HasRunOnStaged tells from to before ask)
  staged_if (Ok ran) has = record { prepared = ready; ready = is; run = has }
  staged_if (Err refusal) has = tt

-- ---- the fixes are set

pub settled : (kept after : Kept) (changes fixes : List Change) → after ≡ setting changes kept → changes ≡ fixes → after ≡ setting fixes kept
settled kept after changes fixes made same = made ∙ ap (λ (l : List Change). setting l kept) same
