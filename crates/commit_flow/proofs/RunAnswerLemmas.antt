-- Over children that give one answer a run on the staged files has one answer.
use Rattle.std.proofs.Common.{◌≡◌, ◌⊎◌, ◌∙◌, ap, inl, inr, sym, subst, refl, ℕ, Bool, true, false, List, [], ◌∷◌, Some}
use Rattle.hook_base.specs.declared.change.Change.{Change}
use Rattle.hook_base.specs.declared.file.File.{File}
use Rattle.hook_base.specs.declared.path_fault.PathFault.{PathFault}
use Rattle.hook_base.specs.Paths.{path_fault}
use Rattle.hook_base.specs.Trees.{changes_between}
use Rattle.child_port.specs.declared.answer.Outcome.{Outcome}
use Rattle.hook_config.specs.declared.configuration.Config.{Config}
use Rattle.hook_run.specs.declared.run_out.RunOut.{RunOut}
use Rattle.hook_run.specs.Asks.{names_no_hook}
use Rattle.hook_run.specs.OneAnswer.{OneAnswer}
use Rattle.hook_run.specs.Parts.{Part, all_parts}
use Rattle.hook_run.specs.RunOuts.{IsRunOut}
use Rattle.hook_run.specs.SameRuns.{GiveSame}
use Rattle.repo_store.specs.Repository.{Repository}
use Rattle.run_options.specs.Options.{with_options}
use Rattle.commit_flow.specs.declared.command.Command.TheVariants.{Run}
use Rattle.commit_flow.specs.declared.host_ask.HostAsk.{HostAsk}
use Rattle.commit_flow.specs.declared.host_refusal.HostRefusal.{HostRefusal}
use Rattle.commit_flow.specs.declared.host_refusal.HostRefusal.TheVariants.{OutOfMemory, Store, BadPath, NotStaged, NoConfig, BadConfig, NoSuchHook, Collision, Spent}
use Rattle.commit_flow.specs.declared.reply.Reply.{Reply}
use Rattle.commit_flow.specs.declared.reply.Reply.TheVariants.{Ran, Refused}
use Rattle.commit_flow.specs.Configured.{IsConfiguredFor, LacksConfig}
use Rattle.commit_flow.specs.Runs.{AreStagedPaths, IsNameRefusal, IsNamesRefusal, IsStagedPath, fixing, names_in, run_ask_of}
use Rattle.commit_flow.specs.StagedPaths.{IsLegal, IsStaged}
use Rattle.commit_flow.specs.Steps.{Step}
use Rattle.commit_flow.specs.TwoHosts.{IsUnhindered, without_memory}
use Rattle.commit_flow.proofs.StageAnswerLemmas.{AreClear, clear_as, configured_for, not_lacking, same_config_for, same_out}

-- the two are the same, but for what they say of what is remembered
abbrev pub AreAlike : Reply → Reply → Repository → Repository → Type 0
AreAlike reply second after other = (without_memory reply ≡ without_memory second) × (after ≡ other)

-- the reply is this refusal, which leaves the repository
pub record IsRefusedSo (before : Repository) (refusal : HostRefusal) (reply : Reply) (after : Repository) : Type 0 where
  pub is : reply ≡ Refused refusal
  pub left : after ≡ before

pub refused_alike : (before after other : Repository) (refusal also : HostRefusal) (reply second : Reply) → refusal ≡ also
    → IsRefusedSo before refusal reply after → IsRefusedSo before also second other → AreAlike reply second after other
refused_alike before after other refusal also reply second same one two =
    (ap without_memory (one.is ∙ ap Refused same ∙ sym two.is), one.left ∙ sym two.left)

-- ---- the first name that is none of a staged file

module _ (repo : Repository) where
  abbrev NameWay : List ℕ → HostRefusal → Type 0
  NameWay name r = ((fault : PathFault) × (path_fault name ≡ Some fault) × (r ≡ BadPath fault)) ⊎ (IsLegal name × (¬ IsStaged name repo) × (r ≡ NotStaged))

  name_way : (name : List ℕ) (r : HostRefusal) → IsNameRefusal repo name r → NameWay name r
  name_way name (BadPath fault) why = inl (fault, why, refl)
  name_way name NotStaged why = inr (why.0, why.1, refl)
  name_way name r why = absurd why

  same_fault : (name : List ℕ) (r s : HostRefusal) (a b : PathFault) → path_fault name ≡ Some a → r ≡ BadPath a → path_fault name ≡ Some b → s ≡ BadPath b → r ≡ s
  same_fault name r s a b is first was second = cc

  not_legal : (name : List ℕ) (fault : PathFault) → path_fault name ≡ Some fault → IsLegal name → ⊥
  not_legal name fault is legal = cc

  same_name : (name : List ℕ) (r s : HostRefusal) → NameWay name r → NameWay name s → r ≡ s
  same_name name r s (inl p) (inl q) = same_fault name r s p.0 q.0 p.1 p.2 q.1 q.2
  same_name name r s (inl p) (inr q) = absurd (not_legal name p.0 p.1 q.0)
  same_name name r s (inr p) (inl q) = absurd (not_legal name q.0 q.1 p.0)
  same_name name r s (inr p) (inr q) = p.2 ∙ sym q.2

  staged_name : (name : List ℕ) (r : HostRefusal) → NameWay name r → IsStagedPath repo name → ⊥
  staged_name name r (inl p) staged = not_legal name p.0 p.1 staged.0
  staged_name name r (inr p) staged = p.1 staged.1

  same_names : (names : List (List ℕ)) (r s : HostRefusal) → IsNamesRefusal repo names r → IsNamesRefusal repo names s → r ≡ s
  same_names [] r s p q = absurd p
  same_names (name ∷ names) r s (inl p) (inl q) = same_name name r s (name_way name r p) (name_way name s q)
  same_names (name ∷ names) r s (inl p) (inr q) = absurd (staged_name name r (name_way name r p) q.0)
  same_names (name ∷ names) r s (inr p) (inl q) = absurd (staged_name name s (name_way name s q) p.0)
  same_names (name ∷ names) r s (inr p) (inr q) = same_names names r s p.1 q.1

  staged_names : (names : List (List ℕ)) (r : HostRefusal) → IsNamesRefusal repo names r → AreStagedPaths repo names → ⊥
  staged_names [] r p staged = p
  staged_names (name ∷ names) r (inl p) staged = staged_name name r (name_way name r p) staged.0
  staged_names (name ∷ names) r (inr p) staged = staged_names names r p.1 staged.1

-- ---- a run on the staged files

not_true_false : (b : Bool) → b ≡ true → b ≡ false → ⊥
not_true_false b is other = cc

ran_as : (passed verdict : Bool) (report text : List ℕ) (changes fixes : List Change) (unsteady ids : List (List ℕ)) → passed ≡ verdict → report ≡ text → changes ≡ fixes → unsteady ≡ ids
    → Ran passed report changes unsteady ≡ Ran verdict text fixes ids
ran_as passed verdict report text changes fixes unsteady ids p r c u = cc

module _ (before : Repository) (ask : HostAsk) where
  -- the hooks were run, and the reply tells what they gave
  record AreRun (config : Config) (reply : Reply) (parts : List Part) (after : Repository) : Type 0 where
    known : names_no_hook config (run_ask_of ask before) ≡ false
    trace : List (List Part)
    out : RunOut
    run : IsRunOut config (run_ask_of ask before) before.staged trace out
    traced : parts ≡ all_parts trace
    is : reply ≡ Ran out.passed out.report (changes_between before.staged out.tree) out.unsteady
    made : after ≡ fixing (changes_between before.staged out.tree) before

  -- what may be answered, in order
  abbrev HookWay : Config → Reply → List Part → Repository → Type 0
  HookWay config reply parts after =
      ((names_no_hook config (run_ask_of ask before) ≡ true) × IsRefusedSo before NoSuchHook reply after) ⊎ AreRun config reply parts after

  abbrev NamesWay : Config → Reply → List Part → Repository → Type 0
  NamesWay config reply parts after =
      ((refusal : HostRefusal) × IsNamesRefusal before (names_in ask.which) refusal × IsRefusedSo before refusal reply after)
      ⊎ (AreStagedPaths before (names_in ask.which) × HookWay config reply parts after)

  abbrev RunWay : Reply → List Part → Repository → Type 0
  RunWay reply parts after =
      (LacksConfig before × IsRefusedSo before NoConfig reply after) ⊎ ((config : Config) × IsConfiguredFor ask.options before config × NamesWay config reply parts after)

  run_way : (reply : Reply) (parts : List Part) (after : Repository) → Step before (Run ask) reply parts after → IsUnhindered reply → RunWay reply parts after
  run_way (Ran passed report changes unsteady) parts after step unhindered = inr (
    step.config,
    step.runnable.configured,
    inr (
      step.runnable.named,
      inr (record {
        known = step.runnable.known;
        trace = step.trace;
        out = step.out;
        run = step.run;
        traced = step.traced;
        is = ran_as passed step.out.passed report step.out.report changes (changes_between before.staged step.out.tree) unsteady step.out.unsteady step.verdict step.reported step.fixed step.marked;
        made = step.made ∙ ap (λ (fixes : List Change). fixing fixes before) step.fixed;
      }),
    ),
  )
  run_way (Refused NoConfig) parts after step unhindered = inl (step.0.0, record { is = refl; left = step.1 })
  run_way (Refused (BadPath fault)) parts after step unhindered =
      inr (with_options ask.options step.0.0.0.0, configured_for ask.options before step.0.0.0.0 step.0.0.0.1, inl (BadPath fault, step.0.0.1, record { is = refl; left = step.1 }))
  run_way (Refused NotStaged) parts after step unhindered =
      inr (with_options ask.options step.0.0.0.0, configured_for ask.options before step.0.0.0.0 step.0.0.0.1, inl (NotStaged, step.0.0.1, record { is = refl; left = step.1 }))
  run_way (Refused NoSuchHook) parts after step unhindered =
      let none = step.0.0 in inr (none.config, none.configured, inr (none.named, inl (none.unknown, record { is = refl; left = step.1 })))
  run_way (Refused OutOfMemory) parts after step unhindered = absurd unhindered
  run_way (Refused (Store fault)) parts after step unhindered = absurd unhindered
  run_way (Refused (BadConfig fault)) parts after step unhindered = absurd unhindered
  run_way (Refused Collision) parts after step unhindered = absurd unhindered
  run_way (Refused Spent) parts after step unhindered = absurd unhindered
  run_way (Refused refusal) parts after step unhindered = absurd step.0.0.1
  run_way reply parts after step unhindered = absurd step

  module _ (tells : List (List ℕ) → List File → Outcome → Type 0) (alone : OneAnswer tells) (reply second : Reply) (parts more : List Part) (after other : Repository)
      (clear : AreClear tells parts) (also : AreClear tells more) where
    same_hooks : (config : Config) → HookWay config reply parts after → HookWay config second more other → AreAlike reply second after other
    same_hooks config (inl p) (inl q) = refused_alike before after other NoSuchHook NoSuchHook reply second refl p.1 q.1
    same_hooks config (inl p) (inr q) = absurd (not_true_false (names_no_hook config (run_ask_of ask before)) p.0 q.known)
    same_hooks config (inr p) (inl q) = absurd (not_true_false (names_no_hook config (run_ask_of ask before)) q.0 p.known)
    same_hooks config (inr p) (inr q) =
        let same : GiveSame p.out q.out = same_out tells alone config (run_ask_of ask before) before.staged p.trace q.trace p.out q.out p.run q.run
        (clear_as tells parts (all_parts p.trace) p.traced clear) (clear_as tells more (all_parts q.trace) q.traced also) in
        let fixes = ap (changes_between before.staged) same.tree in (
          ap without_memory p.is
              ∙ ran_as p.out.passed q.out.passed p.out.report q.out.report (changes_between before.staged p.out.tree) (changes_between before.staged q.out.tree) [] [] same.passed same.report fixes
              refl
              ∙ sym (ap without_memory q.is),
          p.made ∙ ap (λ (changes : List Change). fixing changes before) fixes ∙ sym q.made,
        )

    same_named : (config : Config) → NamesWay config reply parts after → NamesWay config second more other → AreAlike reply second after other
    same_named config (inl p) (inl q) = refused_alike before after other p.0 q.0 reply second (same_names before (names_in ask.which) p.0 q.0 p.1 q.1) p.2 q.2
    same_named config (inl p) (inr q) = absurd (staged_names before (names_in ask.which) p.0 p.1 q.0)
    same_named config (inr p) (inl q) = absurd (staged_names before (names_in ask.which) q.0 q.1 p.0)
    same_named config (inr p) (inr q) = same_hooks config p.1 q.1

    same_run_way : RunWay reply parts after → RunWay second more other → AreAlike reply second after other
    same_run_way (inl p) (inl q) = refused_alike before after other NoConfig NoConfig reply second refl p.1 q.1
    same_run_way (inl p) (inr q) = absurd (not_lacking before q.1.read p.0 q.1.configured)
    same_run_way (inr p) (inl q) = absurd (not_lacking before p.1.read q.0 p.1.configured)
    same_run_way (inr p) (inr q) =
        same_named p.0 p.2 (subst (λ (config : Config). NamesWay config second more other) (same_config_for ask.options before q.0 p.0 q.1 p.1) q.2)

  pub same_run : (tells : List (List ℕ) → List File → Outcome → Type 0) (alone : OneAnswer tells) (reply second : Reply) (parts more : List Part) (after other : Repository)
      → Step before (Run ask) reply parts after → Step before (Run ask) second more other → IsUnhindered reply → IsUnhindered second
      → AreClear tells parts → AreClear tells more → AreAlike reply second after other
  same_run tells alone reply second parts more after other step then unhindered both clear also =
      same_run_way tells alone reply second parts more after other clear also (run_way reply parts after step unhindered) (run_way second more other then both)
