-- What a list of commands makes of what is remembered, and for which parts children were started.
use Rattle.std.proofs.Common.{◌≡◌, ◌∙◌, sym, subst, refl, ap, arith, ℕ, List, [], ◌∷◌, ◌++◌, length}
use Rattle.std.specs.Prelude.{All}
use Rattle.std.proofs.lemmas.List.Elements.{All-head, All-tail}
use Rattle.hook_base.specs.declared.file.File.{File}
use Rattle.child_port.specs.declared.answer.Outcome.{Outcome}
use Rattle.result_book.specs.Contents.{Contents}
use Rattle.hook_run.specs.declared.reuse.Reuse.{Reuse}
use Rattle.hook_run.specs.Answers.{AreAnswered, IsCounted}
use Rattle.hook_run.specs.AnswerLemmas.{counted-none, counted-then}
use Rattle.hook_run.specs.Moments.{Moment, moment}
use Rattle.hook_run.specs.Parts.{Part, faults_of}
use Rattle.repo_store.specs.Repository.{Repository}
use Rattle.commit_flow.specs.declared.command.Command.{Command}
use Rattle.commit_flow.specs.declared.command.Command.TheVariants.{Run, Message, Commit, Forget, Limit}
use Rattle.commit_flow.specs.declared.reply.Reply.{Reply}
use Rattle.commit_flow.specs.CommitSteps.{StandsOnAll}
use Rattle.commit_flow.specs.Plays.{ArePlayed, IsPlayed, Makes, RunsHooks, reuse_in}
use Rattle.commit_flow.specs.PlayLaws.{CommandStarts, PlayStarts}
use Rattle.commit_flow.specs.StepLaws.{IsRunless}
use Rattle.commit_flow.proofs.PlayLawLemmas.{one_unrun, runless_parts}

-- ---- commands that neither run hooks nor forget

same_moment : (calls others faults more : ℕ) (book other : Contents) → calls ≡ others → faults ≡ more → book ≡ other → moment calls faults book ≡ moment others more other
same_moment calls others faults more book other called faulted same = cc

runs_none : (command : Command) → IsRunless command → RunsHooks command → ⊥
runs_none (Run ask) runless runs = runless
runs_none (Message ask message) runless runs = runless
runs_none (Commit message no_verify skip) runless runs = runless
runs_none command runless runs = runs

module _ (tells : List (List ℕ) → List File → Outcome → Type 0) (from to : Moment) where
  unchanged : (reuse : Reuse) (parts : List Part) → AreAnswered tells reuse from to parts → parts ≡ [] → to ≡ from
  unchanged reuse parts answered no_parts =
      let none = subst (AreAnswered tells reuse from to) no_parts answered in
      let called = none.counted.called in
      let faulted = none.counted.faulted in
      let no_calls = ap (λ (all : List Part). length all) none.starts.1 in
      let no_faults = ap faults_of none.starts.1 in
      let same_calls : to.calls ≡ from.calls = omega arith in
      let same_faults : to.faults ≡ from.faults = omega arith in
      same_moment to.calls from.calls to.faults from.faults to.remembered from.remembered same_calls same_faults none.starts.0

  made_unchanged : (command : Command) (reply : Reply) (parts : List Part) → Makes tells from to command reply parts → IsRunless command → parts ≡ [] → to ≡ from
  made_unchanged (Run ask) reply parts makes runless no_parts = absurd runless
  made_unchanged (Message ask message) reply parts makes runless no_parts = absurd runless
  made_unchanged (Commit message no_verify skip) reply parts makes runless no_parts = absurd runless
  made_unchanged Forget reply parts makes runless no_parts = absurd runless
  made_unchanged (Limit most) reply parts makes runless no_parts = absurd runless
  made_unchanged command reply parts makes runless no_parts = unchanged (reuse_in command) parts makes no_parts

one_unchanged : (tells : List (List ℕ) → List File → Outcome → Type 0) (from to : Moment) (before : Repository) (command : Command) (reply : Reply) (after : Repository)
    → IsPlayed tells from to before command reply after → IsRunless command → to ≡ from
one_unchanged tells from to before command reply after one runless =
    let runs = runs_none command runless in
    (one_unrun tells from to before command reply after one runs).1
    ∙ made_unchanged tells from one.between command reply one.parts one.makes runless (runless_parts before after command reply one.parts one.step runs)

pub all_unchanged : (tells : List (List ℕ) → List File → Outcome → Type 0) (to : Moment) (after : Repository) (from : Moment) (before : Repository) (commands : List Command) (replies : List Reply)
    (parts : List Part)
    → ArePlayed tells from to before commands replies parts after → All IsRunless commands → to ≡ from
all_unchanged tells to after from before [] [] parts played runless = played.unmade
all_unchanged tells to after from before (command ∷ commands) (reply ∷ replies) parts played runless =
    all_unchanged tells to after played.between played.repo_between commands replies played.further played.rest (All-tail IsRunless command commands runless)
    ∙ one_unchanged tells from played.between before command reply played.repo_between played.first (All-head IsRunless command commands runless)
all_unchanged tells to after from before commands replies parts played runless = absurd played

-- ---- which parts were started

record HasStarted (from to : Moment) (command : Command) (reply : Reply) (parts : List Part) : Type 0 where
  started : List Part
  starts : CommandStarts command reply from.remembered to.remembered parts started
  counted : IsCounted from to started

made_starts : (tells : List (List ℕ) → List File → Outcome → Type 0) (from to : Moment) (command : Command) (reply : Reply) (parts : List Part) → Makes tells from to command reply parts
    → HasStarted from to command reply parts
made_starts tells from to Forget reply parts makes =
    let called = makes.1.called in
    let faulted = makes.1.faulted in
    record { started = []; starts = (makes.1.forgotten, makes.0, refl); counted = record { called = omega arith; faulted = omega arith } }
made_starts tells from to (Limit most) reply parts makes =
    let called = makes.1.called in
    let faulted = makes.1.faulted in
    record { started = []; starts = (makes.1.limited, makes.0, refl); counted = record { called = omega arith; faulted = omega arith } }
made_starts tells from to command reply parts makes = record { started = makes.started; starts = makes.starts; counted = makes.counted }

one_starts : (tells : List (List ℕ) → List File → Outcome → Type 0) (from to : Moment) (before : Repository) (command : Command) (reply : Reply) (after : Repository)
    → (one : IsPlayed tells from to before command reply after) → StandsOnAll reply → HasStarted from to command reply one.parts
one_starts tells from to before command reply after one stands =
    subst (λ (at : Moment). HasStarted from at command reply one.parts) (sym (one.none stands).1) (made_starts tells from one.between command reply one.parts one.makes)

pub all_started : (tells : List (List ℕ) → List File → Outcome → Type 0) (to : Moment) (after : Repository) (from : Moment) (before : Repository) (commands : List Command) (replies : List Reply)
    (parts : List Part)
    → ArePlayed tells from to before commands replies parts after → All StandsOnAll replies
    → (started : List Part) × PlayStarts before from.remembered commands replies parts started to.remembered after × IsCounted from to started
all_started tells to after from before [] [] parts played stand = (
  [],
  (played.same, ap (λ (at : Moment). at.remembered) played.unmade, played.no_parts, refl),
  subst (λ (at : Moment). IsCounted from at []) (sym played.unmade) (counted-none from),
)
all_started tells to after from before (command ∷ commands) (reply ∷ replies) parts played stand =
    let one = one_starts tells from played.between before command reply played.repo_between played.first (All-head StandsOnAll reply replies stand) in
    let rest = all_started tells to after played.between played.repo_between commands replies played.further played.rest (All-tail StandsOnAll reply replies stand) in (
      one.started ++ rest.0,
      record {
        repo_between = played.repo_between;
        between = played.between.remembered;
        own = played.first.parts;
        own_started = one.started;
        further = played.further;
        further_started = rest.0;
        step = played.first.step;
        starts = one.starts;
        rest = rest.1;
        joined = played.joined;
        joined_started = refl;
      },
      counted-then from played.between to one.started rest.0 one.counted rest.2,
    )
all_started tells to after from before commands replies parts played stand = absurd played
