-- Each part of a run has an answer that serves, or a child was started for it.
use Rattle.std.proofs.Common.{◌≡◌, ◌⊎◌, inl, inr, sym, subst, refl, Bool, true, false, List, [], ◌∷◌, ◌++◌, Option, None, Some}
use Rattle.std.specs.Prelude.{MatchBool}
use Rattle.std.specs.List.{AllByRecursion as Each, Contains}
use Rattle.std.proofs.lemmas.List.Elements.{All-from_recursion, Contains-append_left, Contains-append_right, Contains-push}
use Rattle.child_port.specs.declared.answer.Answer.{Answer}
use Rattle.result_book.specs.Contents.{Contents}
use Rattle.hook_run.specs.declared.reuse.Reuse.{Reuse}
use Rattle.hook_run.specs.Parts.{Part}
use Rattle.hook_run.specs.ReusedRuns.{AreServedOrStarted, IsServing}
use Rattle.hook_run.specs.Reuses.{serves}
use Rattle.hook_run.specs.Starts.{IsReplayed, IsStarted, Starts, StartsFor}

abbrev Came : Reuse → List Part → Part → Type 0
Came reuse started part = IsServing reuse part.outcome ⊎ Contains started part

alone : (part : Part) (started : List Part) → started ≡ part ∷ [] → Contains started part
alone part started is = subst (λ (all : List Part). Contains all part) (sym is) (Contains-push [] part)

came-for : (reuse : Reuse) (found : Option Answer) (before after : Contents) (part : Part) (started : List Part) → StartsFor reuse found before after part started → Came reuse started part
came-for reuse None before after part started starts = inr (alone part started starts.1)
came-for reuse (Some answer) before after part started starts =
    (elim (serves reuse answer) as (λ (b : Bool). serves reuse answer ≡ b
    → MatchBool b (IsReplayed answer before after part × (started ≡ [])) (IsStarted (Some answer) before after part × (started ≡ part ∷ []))
    → Came reuse started part) [
      | true ↦ λ served replayed. inl (subst (IsServing reuse) (sym replayed.0.outcome) served)
      | false ↦ λ unserved one. inr (alone part started one.1)
    ]) refl starts

-- a part came so among more that were started too
more-came : (reuse : Reuse) (first others started : List Part) (part : Part) → started ≡ first ++ others → Came reuse first part ⊎ Came reuse others part → Came reuse started part
more-came reuse first others started part joined came =
    let among : Contains (first ++ others) part → Contains started part = λ it. subst (λ (all : List Part). Contains all part) (sym joined) it in
    elim came [
      | inl early ↦ elim early [
        | inl serving ↦ inl serving
        | inr it ↦ inr (among (Contains-append_left first others part it))
      ]
      | inr late ↦ elim late [
        | inl serving ↦ inl serving
        | inr it ↦ inr (among (Contains-append_right first others part it))
      ]
    ]

all-came : (reuse : Reuse) (first others started parts : List Part) → started ≡ first ++ others → Each (Came reuse others) parts → Each (Came reuse started) parts
all-came reuse first others started [] joined came = tt
all-came reuse first others started (part ∷ parts) joined came = (more-came reuse first others started part joined (inr came.0), all-came reuse first others started parts joined came.1)

came-starts : (reuse : Reuse) (before after : Contents) (parts started : List Part) → Starts reuse before after parts started → Each (Came reuse started) parts
came-starts reuse before after [] started starts = tt
came-starts reuse before after (part ∷ parts) started starts = (
  more-came reuse starts.first starts.others started part starts.joined
      (inl (came-for reuse starts.one.found starts.one.looked_up starts.between part starts.first starts.one.starts)),
  all-came reuse starts.first starts.others started parts starts.joined (came-starts reuse starts.between after parts starts.others starts.more),
)

pub served-or-started : (reuse : Reuse) (before after : Contents) (parts started : List Part) → Starts reuse before after parts started → AreServedOrStarted reuse parts started
served-or-started reuse before after parts started starts = All-from_recursion (Came reuse started) parts (came-starts reuse before after parts started starts)
