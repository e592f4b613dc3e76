-- Children that give one answer decide what the stages of a commit come to.
use Rattle.std.proofs.Common.{◌≡◌, ◌∙◌, ap, ap₂, arith, sym, subst, refl, ℕ, Bool, true, false, List, [], ◌∷◌, ◌++◌, None, Some}
use Rattle.std.specs.Prelude.{MatchBool}
use Rattle.hook_base.specs.declared.file.File.{File}
use Rattle.hook_base.specs.declared.file.FileEntry.{FileEntry}
use Rattle.child_port.specs.declared.answer.Outcome.{Outcome}
use Rattle.hook_config.specs.declared.configuration.Config.{Config}
use Rattle.hook_config.specs.declared.stage.Stage.{Stage}
use Rattle.hook_config.specs.declared.stage.Stage.TheVariants as stage
use Rattle.hook_config.specs.Configuration.{configuration_of}
use Rattle.hook_run.specs.declared.run_ask.RunAsk.{RunAsk}
use Rattle.hook_run.specs.declared.run_out.RunOut.{RunOut}
use Rattle.hook_run.specs.AnswerLemmas.{faults-append, told-back, told-front}
use Rattle.hook_run.specs.OneAnswer.{OneAnswer}
use Rattle.hook_run.specs.OneAnswerLemmas.{one-run}
use Rattle.hook_run.specs.Parts.{AllTold, Part, all_parts, faults_of}
use Rattle.hook_run.specs.RunOuts.{IsRunOut}
use Rattle.hook_run.specs.SameRuns.{GiveSame}
use Rattle.repo_store.specs.Repository.{Repository}
use Rattle.run_options.specs.declared.options.RunOptions.{RunOptions}
use Rattle.run_options.specs.Options.{with_options}
use Rattle.commit_flow.specs.declared.commit_state.CommitState.{CommitState}
use Rattle.commit_flow.specs.declared.reply.PostCommit.TheVariants.{Told}
use Rattle.commit_flow.specs.CommitStages.{FailedAt, HavePassed, IsStageTold, StageTold, ask_in, course_after, parts_of_stages, reports_of, tree_in}
use Rattle.commit_flow.specs.Commits.{IsPost}
use Rattle.commit_flow.specs.Configured.{IsConfigured, IsConfiguredFor, LacksConfig}
use Rattle.commit_flow.specs.Runs.{changed_paths}

-- ---- one configuration is staged

same_some : {A : Type 0} (x y : A) → Some x ≡ Some y → x ≡ y
same_some x y same = cc

none_some : {A : Type 0} (x : A) → None ≡ Some x → ⊥
none_some x same = cc

pub same_config : (repo : Repository) (config other : Config) → IsConfigured repo config → IsConfigured repo other → config ≡ other
same_config repo config other one two =
    let entries = same_some one.staged.entry two.staged.entry (sym one.staged.staged ∙ two.staged.staged) in
    let bytes = sym one.staged.are ∙ ap (λ (entry : FileEntry). entry.bytes) entries ∙ two.staged.are in
    same_some config other (sym one.meant ∙ ap configuration_of bytes ∙ two.meant)

-- and the same options make one of it
pub same_config_for : (options : RunOptions) (repo : Repository) (config other : Config) → IsConfiguredFor options repo config → IsConfiguredFor options repo other → config ≡ other
same_config_for options repo config other one two = one.made ∙ ap (with_options options) (same_config repo one.read two.read one.configured two.configured) ∙ sym two.made

pub configured_for : (options : RunOptions) (repo : Repository) (config : Config) → IsConfigured repo config → IsConfiguredFor options repo (with_options options config)
configured_for options repo config configured = record { read = config; configured = configured; made = refl }

pub not_lacking : (repo : Repository) (config : Config) → LacksConfig repo → IsConfigured repo config → ⊥
not_lacking repo config lacks configured = none_some configured.staged.entry (sym lacks ∙ configured.staged.staged)

-- ---- parts that children may tell, without faults

pub record AreClear (tells : List (List ℕ) → List File → Outcome → Type 0) (parts : List Part) : Type 0 where
  pub told : AllTold tells parts
  pub no_fault : faults_of parts ≡ 0

module _ (tells : List (List ℕ) → List File → Outcome → Type 0) (parts more : List Part) where
  pub clear_front : AreClear tells (parts ++ more) → AreClear tells parts
  clear_front clear =
      let all = faults-append parts more in
      let none = clear.no_fault in
      record { told = told-front tells parts more clear.told; no_fault = omega arith }

  pub clear_back : AreClear tells (parts ++ more) → AreClear tells more
  clear_back clear =
      let all = faults-append parts more in
      let none = clear.no_fault in
      record { told = told-back tells parts more clear.told; no_fault = omega arith }

  pub clear_as : parts ≡ more → AreClear tells parts → AreClear tells more
  clear_as same clear = subst (AreClear tells) same clear

-- two runs of one configuration, ask and tree, with such parts give the same
pub same_out : (tells : List (List ℕ) → List File → Outcome → Type 0) → OneAnswer tells → (config : Config) (ask : RunAsk) (tree : List File) (trace others : List (List Part)) (first second : RunOut)
    → IsRunOut config ask tree trace first → IsRunOut config ask tree others second → AreClear tells (all_parts trace) → AreClear tells (all_parts others) → GiveSame first second
same_out tells alone config ask tree trace others first second one two clear also =
    (one-run tells alone config ask tree trace others first second
    (record { run = one; told = clear.told; no_fault = clear.no_fault }) (record { run = two; told = also.told; no_fault = also.no_fault })).given

-- ---- the stages

in_both : {A B C D P : Type 0} (b : Bool) → (A → C → P) → (B → D → P) → MatchBool b A B → MatchBool b C D → P
in_both true first second one two = first one two
in_both false first second one two = second one two

module _ (tells : List (List ℕ) → List File → Outcome → Type 0) (alone : OneAnswer tells) (config : Config) (changed skip : List (List ℕ)) where
  same_stage : (stage : Stage) (course : CommitState) (one two : StageTold)
      → IsStageTold config changed skip stage course one → IsStageTold config changed skip stage course two
      → AreClear tells (all_parts one.trace) → AreClear tells (all_parts two.trace) → GiveSame one.out two.out
  same_stage stage course one two run second clear also = same_out tells alone config (ask_in changed skip stage) (tree_in stage course) one.trace two.trace one.out two.out run second clear also

  -- the same is reported and passed on
  pub same_passed : (stages : List Stage) (course : CommitState) (told others : List StageTold) (left last : CommitState)
      → HavePassed config changed skip stages course told left → HavePassed config changed skip stages course others last
      → AreClear tells (parts_of_stages told) → AreClear tells (parts_of_stages others) → (reports_of told ≡ reports_of others) × (left ≡ last)
  same_passed [] course [] [] left last passed second clear also = (refl, passed ∙ sym second)
  same_passed [] course [] (two ∷ more) left last passed second clear also = absurd second
  same_passed [] course (one ∷ rest) others left last passed second clear also = absurd passed
  same_passed (stage ∷ stages) course [] others left last passed second clear also = absurd passed
  same_passed (stage ∷ stages) course (one ∷ rest) [] left last passed second clear also = absurd second
  same_passed (stage ∷ stages) course (one ∷ rest) (two ∷ more) left last passed second clear also =
      let same = same_stage stage course one two passed.0 second.0
      (clear_front tells (all_parts one.trace) (parts_of_stages rest) clear) (clear_front tells (all_parts two.trace) (parts_of_stages more) also) in
      let on = subst (λ (tree : List File). HavePassed config changed skip stages (course_after stage course tree) more last) (sym same.tree) second.2 in
      let behind = same_passed stages (course_after stage course one.out.tree) rest more left last passed.2 on
      (clear_back tells (all_parts one.trace) (parts_of_stages rest) clear) (clear_back tells (all_parts two.trace) (parts_of_stages more) also) in
      (ap₂ (λ (report : List ℕ) (reports : List (List ℕ)). report ∷ reports) same.report behind.0, behind.1)

  pub not_both : (stages : List Stage) (course : CommitState) (told others : List StageTold) (left last : CommitState) (failed : Stage)
      → HavePassed config changed skip stages course told left → FailedAt config changed skip stages course others failed last
      → AreClear tells (parts_of_stages told) → AreClear tells (parts_of_stages others) → ⊥
  not_both [] course told others left last failed passed second clear also = second
  not_both (stage ∷ stages) course [] others left last failed passed second clear also = passed
  not_both (stage ∷ stages) course (one ∷ rest) [] left last failed passed second clear also = second
  not_both (stage ∷ stages) course (one ∷ rest) (two ∷ more) left last failed passed second clear also =
      let same = same_stage stage course one two passed.0 second.0
      (clear_front tells (all_parts one.trace) (parts_of_stages rest) clear) (clear_front tells (all_parts two.trace) (parts_of_stages more) also) in
      let further = subst (λ (b : Bool). MatchBool b
      (FailedAt config changed skip stages (course_after stage course two.out.tree) more failed last)
      ((more ≡ []) × (failed ≡ stage) × (last ≡ course_after stage course two.out.tree))) (sym same.passed ∙ passed.1) second.1 in
      let on = subst (λ (tree : List File). FailedAt config changed skip stages (course_after stage course tree) more failed last) (sym same.tree) further in
      not_both stages (course_after stage course one.out.tree) rest more left last failed passed.2 on
      (clear_back tells (all_parts one.trace) (parts_of_stages rest) clear) (clear_back tells (all_parts two.trace) (parts_of_stages more) also)

  -- what follows a stage with this tree, where it passed or not
  abbrev Follows : Stage → List Stage → CommitState → Bool → List File → List StageTold → Stage → CommitState → Type 0
  Follows stage stages course passed tree more failed last = MatchBool passed
      (FailedAt config changed skip stages (course_after stage course tree) more failed last)
      ((more ≡ []) × (failed ≡ stage) × (last ≡ course_after stage course tree))

  pub same_failed : (stages : List Stage) (course : CommitState) (told others : List StageTold) (left last : CommitState) (failed other : Stage)
      → FailedAt config changed skip stages course told failed left → FailedAt config changed skip stages course others other last
      → AreClear tells (parts_of_stages told) → AreClear tells (parts_of_stages others) → (reports_of told ≡ reports_of others) × (failed ≡ other) × (left ≡ last)
  same_failed [] course told others left last failed other run second clear also = absurd run
  same_failed (stage ∷ stages) course [] others left last failed other run second clear also = absurd run
  same_failed (stage ∷ stages) course (one ∷ rest) [] left last failed other run second clear also = absurd second
  same_failed (stage ∷ stages) course (one ∷ rest) (two ∷ more) left last failed other run second clear also =
      let same = same_stage stage course one two run.0 second.0
      (clear_front tells (all_parts one.trace) (parts_of_stages rest) clear) (clear_front tells (all_parts two.trace) (parts_of_stages more) also) in
      let on = subst (λ (b : Bool). Follows stage stages course b one.out.tree more other last) (sym same.passed)
      (subst (λ (tree : List File). Follows stage stages course two.out.passed tree more other last) (sym same.tree) second.1) in
      let reported = λ (behind : reports_of rest ≡ reports_of more). ap₂ (λ (report : List ℕ) (reports : List (List ℕ)). report ∷ reports) same.report behind in
      in_both one.out.passed
      (λ (p : FailedAt config changed skip stages (course_after stage course one.out.tree) rest failed left)
      (q : FailedAt config changed skip stages (course_after stage course one.out.tree) more other last).
      let behind = same_failed stages (course_after stage course one.out.tree) rest more left last failed other p q
      (clear_back tells (all_parts one.trace) (parts_of_stages rest) clear) (clear_back tells (all_parts two.trace) (parts_of_stages more) also) in
      (reported behind.0, behind.1, behind.2))
      (λ (p : (rest ≡ []) × (failed ≡ stage) × (left ≡ course_after stage course one.out.tree)) (q : (more ≡ []) × (other ≡ stage) × (last ≡ course_after stage course one.out.tree)).
      (reported (ap reports_of (p.0 ∙ sym q.0)), p.1 ∙ sym q.1, p.2 ∙ sym q.2))
      run.1 on

-- the same is reported of the hooks after a commit
pub same_post : (tells : List (List ℕ) → List File → Outcome → Type 0) (alone : OneAnswer tells) (config : Config) (before : Repository) (skip : List (List ℕ)) (report other : List ℕ)
    (parts more : List Part)
    → IsPost config before skip (Told report) parts → IsPost config before skip (Told other) more → AreClear tells parts → AreClear tells more → report ≡ other
same_post tells alone config before skip report other parts more one two clear also =
    let same = same_stage tells alone config (changed_paths before) skip stage.PostCommit (record { tree = before.staged; message = [] }) one.0 two.0 one.1 two.1
    (clear_as tells parts (all_parts one.0.trace) one.3 clear) (clear_as tells more (all_parts two.0.trace) two.3 also) in
    one.2 ∙ same.report ∙ sym two.2
