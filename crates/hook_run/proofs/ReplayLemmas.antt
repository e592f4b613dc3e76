-- A run for whose parts answers are remembered has these answers, and starts no child.
use Rattle.std.proofs.Common.{◌≡◌, ◌∙◌, ap, ap₂, sym, subst, ℕ, List, [], ◌∷◌, ◌++◌, length, Option, None, Some, arith}
use Rattle.std.specs.List.{AllByRecursion as Each}
use Rattle.std.proofs.lemmas.List.Elements.{recursion_from_All}
use Rattle.hook_base.specs.declared.file.File.{File}
use Rattle.child_port.specs.declared.answer.Answer.{Answer}
use Rattle.child_port.specs.declared.answer.Outcome.{Outcome}
use Rattle.child_port.specs.declared.answer.Outcome.TheVariants.{Done, Failed}
use Rattle.hook_config.specs.declared.configuration.Config.{Config}
use Rattle.hook_config.specs.declared.configuration.Hook.{Hook}
use Rattle.report_text.specs.declared.hook_result.HookResult.{HookResult}
use Rattle.result_book.specs.Calls.{AfterFind}
use Rattle.result_book.specs.Contents.{Contents, Finds}
use Rattle.result_book.specs.KeyLemmas.{HaveRow-one}
use Rattle.hook_run.specs.declared.reuse.Reuse.TheVariants as reuse
use Rattle.hook_run.specs.declared.run_ask.RunAsk.{RunAsk}
use Rattle.hook_run.specs.declared.run_out.RunOut.{RunOut}
use Rattle.hook_run.specs.Asks.{hooks_of_run}
use Rattle.hook_run.specs.Moments.{Moment}
use Rattle.hook_run.specs.OneAnswer.{AreSameRuns}
use Rattle.hook_run.specs.Parts.{Part, after_parts, all_parts}
use Rattle.hook_run.specs.RunOuts.{IsRunOut, IsRunOver}
use Rattle.hook_run.specs.SameRuns.{GiveSame, without_unsteady_mark, without_marks}
use Rattle.hook_run.specs.StageRun.{IsRun, is_last}
use Rattle.hook_run.specs.Starts.{Starts, StartsFor, StartsOne}
use Rattle.hook_run.specs.UnseenEdits.{DifferOnlyIn, EndAlike, HasRunAlike, HoldAlike, HoldsAll, HoldsOutcome, IsUnseenEdit, reusing_all}
use Rattle.hook_run.specs.AgreeLemmas.{Agree, same-where-agree}
use Rattle.hook_run.proofs.EditedRunLemmas.{second-way}
use Rattle.hook_run.proofs.UnseenEditLemmas.{run-alike}

-- the answer of the part is remembered
abbrev Held : Contents → Part → Type 0
Held remembered part = HoldsOutcome part.words part.seen part.outcome remembered

each-held : (before after : Contents) → ((part : Part) → Held before part → Held after part) → (parts : List Part) → Each (Held before) parts → Each (Held after) parts
each-held before after kept [] held = tt
each-held before after kept (part ∷ parts) held = (kept part held.0, each-held before after kept parts held.1)

-- ---- one part

-- a part whose answer is remembered isn't started, and has that answer
record IsFound (before after : Contents) (outcome : Outcome) (part : Part) (started : List Part) : Type 0 where
  same : outcome ≡ part.outcome
  unstarted : started ≡ []
  kept : (one : Part) → Held before one → Held after one

held-found : (words : List (List ℕ)) (seen : List File) (outcome : Outcome) (before after : Contents) → AfterFind words seen before after → (others : List (List ℕ)) (theirs : List File)
    → HoldsOutcome others theirs outcome before → HoldsOutcome others theirs outcome after
held-found words seen (Done answer) before after found others theirs held = found.kept others theirs answer held
held-found words seen (Failed fault) before after found others theirs held = held

found-for : (outcome : Outcome) (found : Option Answer) (before between after : Contents) (part : Part) (started : List Part) → HoldsOutcome part.words part.seen outcome before
    → Finds part.words part.seen before found
    → AfterFind part.words part.seen before between → StartsFor reuse.All found between after part started → IsFound before after outcome part started
found-for (Failed fault) found before between after part started held finds looked starts = absurd held
found-for (Done answer) None before between after part started held finds looked starts = absurd (finds answer held)
found-for (Done answer) (Some found) before between after part started held finds looked starts =
    let same : answer ≡ found =
    HaveRow-one part.words part.seen answer found between.rows looked.distinct (looked.kept part.words part.seen answer held) (looked.kept part.words part.seen found finds) in
    record {
      same = ap Done same ∙ sym starts.0.outcome;
      unstarted = starts.1;
      kept = λ one held_before. subst (λ (at : Contents). Held at one) (sym starts.0.kept) (held-found part.words part.seen one.outcome before between looked one.words one.seen held_before);
    }

found-one : (outcome : Outcome) (before after : Contents) (part : Part) (started : List Part) → HoldsOutcome part.words part.seen outcome before → StartsOne reuse.All before after part started
    → IsFound before after outcome part started
found-one outcome before after part started held one = found-for outcome one.found before one.looked_up after part started held one.finds one.look_up one.starts

-- ---- all parts

held-as : (part other : Part) (before : Contents) → part.words ≡ other.words → part.seen ≡ other.seen → Held before part → HoldsOutcome other.words other.seen part.outcome before
held-as part other before words seen held =
    subst (λ (w : List (List ℕ)). HoldsOutcome w other.seen part.outcome before) words (subst (λ (s : List File). HoldsOutcome part.words s part.outcome before) seen held)

held-agree : (before after : Contents) (parts others started : List Part) → Each (Held before) parts → Starts reuse.All before after others started → Agree parts others
held-agree before after [] others started held starts = tt
held-agree before after (part ∷ parts) [] started held starts = tt
held-agree before after (part ∷ parts) (other ∷ others) started held starts = λ words seen.
    let one = found-one part.outcome before starts.between other starts.first (held-as part other before words seen held.0) starts.one in
    (one.same, held-agree starts.between after parts others starts.others (each-held before starts.between one.kept parts held.1) starts.more)

none-started : (before after : Contents) (parts started : List Part) → Each (Held before) parts → Starts reuse.All before after parts started → started ≡ []
none-started before after [] started held starts = starts.1
none-started before after (part ∷ parts) started held starts =
    let one = found-one part.outcome before starts.between part starts.first held.0 starts.one in
    let rest = none-started starts.between after parts starts.others (each-held before starts.between one.kept parts held.1) starts.more in
    starts.joined ∙ ap₂ (λ (first others : List Part). first ++ others) one.unstarted rest

same-held : (before : Contents) (part other : Part) → without_unsteady_mark part ≡ without_unsteady_mark other → Held before part → Held before other
same-held before part other same held = subst (Held before) same held

held-unmarked : (before : Contents) (parts others : List Part) → without_marks parts ≡ without_marks others → Each (Held before) parts → Each (Held before) others
held-unmarked before [] [] same held = tt
held-unmarked before [] (other ∷ others) same held = absurd (cc)
held-unmarked before (part ∷ parts) [] same held = absurd (cc)
held-unmarked before (part ∷ parts) (other ∷ others) same held =
    let first : without_unsteady_mark part ≡ without_unsteady_mark other = cc in
    let rest : without_marks parts ≡ without_marks others = cc in
    (same-held before part other first held.0, held-unmarked before parts others rest held.1)

-- ---- which remembered answers serve a run doesn't matter to its parts and results

run-reusing : (config : Config) (ask : RunAsk) (tree : List File) (hooks : List Hook) (trace : List (List Part)) (results : List HookResult) → IsRun config ask tree hooks trace results
    → IsRun config (reusing_all ask) tree hooks trace results
run-reusing config ask tree [] [] [] run = tt
run-reusing config ask tree [] [] (result ∷ results) run = absurd run
run-reusing config ask tree [] (parts ∷ trace) results run = absurd run
run-reusing config ask tree (hook ∷ hooks) [] results run = absurd run
run-reusing config ask tree (hook ∷ hooks) (parts ∷ trace) [] run = absurd run
run-reusing config ask tree (hook ∷ hooks) (parts ∷ trace) (result ∷ results) run = (
  record { name = run.0.name; id = run.0.id; verbose = run.0.verbose; ending = run.0.ending },
  second-way ((trace ≡ []) × (results ≡ [])) (is_last config hook result.ending) (run-reusing config ask (after_parts tree parts) hooks trace results) run.1,
)

out-reusing : (config : Config) (ask : RunAsk) (tree : List File) (trace : List (List Part)) (out : RunOut) → IsRunOut config ask tree trace out → IsRunOut config (reusing_all ask) tree trace out
out-reusing config ask tree trace out run =
    record { results = run.results; run = run-reusing config ask tree (hooks_of_run config ask) trace run.results run.run; is = run.is }

-- ---- a run after an unseen edit

end-same : (paths : List (List ℕ)) (tree other : List File) (out there second : RunOut) → EndAlike paths tree other out there → GiveSame there second → EndAlike paths tree other out second
end-same paths tree other out there second alike given = record {
  same = record { passed = alike.same.passed ∙ given.passed; report = alike.same.report ∙ given.report; results = alike.same.results ∙ given.results };
  differ = subst (λ (t : List File). DifferOnlyIn paths out.tree t) given.tree alike.differ;
  left = alike.left;
  left_there = subst (λ (t : List File). HoldAlike paths other t) given.tree alike.left_there;
}

module _ (tells : List (List ℕ) → List File → Outcome → Type 0) (config : Config) (ask : RunAsk) (paths : List (List ℕ)) (tree other : List File) (trace : List (List Part)) (out there : RunOut)
    (from to : Moment)
    (it : IsUnseenEdit config ask paths tree other trace out) (held : HoldsAll (all_parts trace) from.remembered) (over : IsRunOver tells from to config (reusing_all ask) other there) where
  each-part : Each (Held from.remembered) (all_parts trace)
  each-part = recursion_from_All (Held from.remembered) (all_parts trace) held

  alike : HasRunAlike config ask paths tree other trace out
  alike = run-alike config ask paths tree other trace out it

  same-run : AreSameRuns trace over.trace alike.there there
  same-run =
      same-where-agree config (reusing_all ask) other trace over.trace alike.there there (out-reusing config ask other trace alike.there alike.run) over.run
      (held-agree from.remembered to.remembered (all_parts trace) (all_parts over.trace) over.answered.started each-part over.answered.starts)

  pub replayed-alike : EndAlike paths tree other out there
  replayed-alike = end-same paths tree other out alike.there there alike.alike same-run.given

  unstarted : over.answered.started ≡ []
  unstarted =
      none-started from.remembered to.remembered (all_parts over.trace) over.answered.started
      (held-unmarked from.remembered (all_parts trace) (all_parts over.trace) same-run.parts each-part) over.answered.starts

  pub replayed-unstarted : (over.answered.started ≡ []) × (to.calls ≡ from.calls)
  replayed-unstarted =
      let none = ap length unstarted in
      let called = over.answered.counted.called in
      (unstarted, omega arith)
