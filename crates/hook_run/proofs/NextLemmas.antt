-- A plan is what comes next in a run.
use Rattle.std.proofs.Common.{◌≡◌, ◌∙◌, ap, sym, subst, refl, append_assoc, Bool, false, List, [], ◌∷◌, ◌++◌, All, Option, None, Some}
use Rattle.std.proofs.lemmas.List.{append-nil}
use Rattle.hook_base.specs.declared.file.File.{File}
use Rattle.child_port.specs.Outcomes.{after_outcome}
use Rattle.child_port.specs.declared.answer.Outcome.{Outcome}
use Rattle.child_port.specs.declared.answer.Outcome.TheVariants.{Failed}
use Rattle.child_port.specs.declared.fault.Fault.TheVariants.{NotStarted}
use Rattle.hook_config.specs.declared.configuration.Config.{Config}
use Rattle.hook_run.specs.declared.need.Need.{Need}
use Rattle.hook_run.specs.declared.need.Need.TheVariants.{Child, Over}
use Rattle.hook_run.specs.declared.run_ask.RunAsk.{RunAsk}
use Rattle.hook_run.specs.declared.run_out.RunOut.{RunOut}
use Rattle.hook_run.specs.Asks.{hooks_of_run}
use Rattle.hook_run.specs.OneAnswerLemmas.{no-ids}
use Rattle.hook_run.specs.OneRunLemmas.{next-of}
use Rattle.hook_run.specs.Parts.{Part, after_parts, all_parts}
use Rattle.hook_run.specs.PlanLaws.{HasTold, IsNextBy, IsPlanBehind, IsWhatComesNext, IsWhole}
use Rattle.hook_run.specs.Plans.{AtPart, Completes, CompletesAt, IsPlanAfter, IsPlanOf, Plan, need_of, out_of_plan, part_with, seen_of_plan, tree_of_plan, words_of_plan}
use Rattle.hook_run.specs.RunOuts.{IsBegun, IsRunOut}
use Rattle.hook_run.specs.SameRuns.{IsNextOf}
use Rattle.hook_run.proofs.CompletionLemmas.{AllFailed, can-fail, can-follow}
use Rattle.hook_run.proofs.PlanLemmas.{after_parts-append}
use Rattle.hook_run.proofs.RunLemmas.{over-at}

-- ---- the tree

tree-kept : (tree : List File) (parts : List Part) → AllFailed parts → after_parts tree parts ≡ tree
tree-kept tree [] failed = refl
tree-kept tree (part ∷ parts) failed = ap (λ (outcome : Outcome). after_parts (after_outcome tree outcome) parts) failed.0 ∙ tree-kept tree parts failed.1

tree-completed : (plan : Plan) (waiting : Option AtPart) (rest : List Part) (out : RunOut) → CompletesAt plan waiting rest out → out.tree ≡ after_parts plan.done.tree rest
tree-completed plan None rest out on = ap (λ (o : RunOut). o.tree) on.1 ∙ sym (ap (after_parts plan.done.tree) on.0)
tree-completed plan (Some at) rest out on =
    ap (λ (o : RunOut). o.tree) on.more.is
    ∙ sym (after_parts-append plan.done.tree on.here (all_parts on.more.trace))
    ∙ ap (λ (parts : List Part). after_parts plan.done.tree (on.here ++ parts)) (sym on.more.joined)
    ∙ ap (after_parts plan.done.tree) (sym on.joined)

-- ---- what is left of another run

child-next : (plan : Plan) (out other : RunOut) (part : Part) (rest more : List Part) → part.words ≡ words_of_plan plan → part.seen ≡ seen_of_plan plan
    → IsNextOf out other rest (part ∷ more) → IsNextBy plan Child rest out
child-next plan out other part [] more words seen next = absurd next
child-next plan out other part (one ∷ rest) more words seen next = (next.0 ∙ words, next.1 ∙ seen)

over-next : (plan : Plan) (out : RunOut) (rest : List Part) → IsNextOf out (out_of_plan plan) rest [] → IsNextBy plan Over rest out
over-next plan out [] next = next
over-next plan out (one ∷ rest) next = absurd next

-- ---- a plan after parts

module _ (config : Config) (ask : RunAsk) (tree : List File) where
  module _ (parts : List Part) (plan : Plan) (behind : IsPlanBehind config ask tree parts plan) where
    on-tree : tree_of_plan plan ≡ after_parts tree parts
    on-tree =
        let some = can-fail plan in
        let run = behind some.rest some.out some.completes in
        let left : after_parts tree (all_parts run.0) ≡ some.out.tree = sym (ap (λ (o : RunOut). o.tree) run.2.is) in
        sym (tree-kept plan.done.tree some.rest some.failed)
        ∙ sym (tree-completed plan plan.waiting some.rest some.out some.completes)
        ∙ sym left
        ∙ ap (after_parts tree) run.1
        ∙ after_parts-append tree parts some.rest
        ∙ tree-kept (after_parts tree parts) some.rest some.failed

    next-begun : need_of plan ≡ Child → (outcome : Outcome) (unsteady : Bool) → IsBegun config ask tree (parts ++ part_with plan outcome unsteady ∷ [])
    next-begun need outcome unsteady =
        let some = can-follow plan outcome unsteady need in
        let run = behind (part_with plan outcome unsteady ∷ some.rest) some.out some.completes in
        record {
          trace = run.0;
          rest = some.rest;
          out = some.out;
          joined = run.1 ∙ sym (append_assoc parts (part_with plan outcome unsteady ∷ []) some.rest);
          run = run.2;
        }

    whole : need_of plan ≡ Over → IsWhole config ask tree parts (out_of_plan plan)
    whole need =
        let run = behind [] (out_of_plan plan) (over-at plan plan.waiting (out_of_plan plan) need refl) in
        record { trace = run.0; joined = run.1 ∙ append-nil parts; run = run.2 }

    none-unsteady : need_of plan ≡ Over → All (λ part. part.unsteady ≡ false) parts → (out_of_plan plan).unsteady ≡ []
    none-unsteady need all =
        let run = whole need in
        ap (λ (o : RunOut). o.unsteady) run.run.is
        ∙ no-ids (hooks_of_run config ask) run.trace (subst (All (λ (part : Part). part.unsteady ≡ false)) (sym run.joined) all)

    only-behind : (need : Need) → need_of plan ≡ need → (trace : List (List Part)) (out : RunOut) (rest : List Part) → IsRunOut config ask tree trace out → all_parts trace ≡ parts ++ rest
        → IsNextBy plan need rest out
    only-behind Child need trace out rest run joined =
        let begun = next-begun need (Failed NotStarted) false in
        let next = next-of config ask tree trace begun.trace out begun.out parts parts rest (part_with plan (Failed NotStarted) false ∷ begun.rest)
        run begun.run joined (begun.joined ∙ append_assoc parts (part_with plan (Failed NotStarted) false ∷ []) begun.rest) refl in
        child-next plan out begun.out (part_with plan (Failed NotStarted) false) rest begun.rest refl refl next.1
    only-behind Over need trace out rest run joined =
        let all = whole need in
        let next = next-of config ask tree trace all.trace out (out_of_plan plan) parts parts rest [] run all.run joined (all.joined ∙ sym (append-nil parts)) refl in
        over-next plan out rest next.1

    pub comes-next : IsWhatComesNext config ask tree parts plan
    comes-next = record { on_tree = on-tree; next = next-begun; over = whole; steady = none-unsteady; only = only-behind (need_of plan) refl }

  -- ---- outcomes that were told

  told-behind : (first after : Plan) (front : List Part) (part : Part) → IsPlanBehind config ask tree front first → part ≡ part_with first part.outcome part.unsteady
      → IsPlanAfter first part.outcome part.unsteady after → IsPlanBehind config ask tree (front ++ part ∷ []) after
  told-behind first after front part behind is follows = λ (rest : List Part) (out : RunOut) (on : Completes after rest out).
      let run = behind (part ∷ rest) out (subst (λ (one : Part). Completes first (one ∷ rest) out) (sym is) (follows rest out on)) in
      (run.0, run.1 ∙ sym (append_assoc front (part ∷ []) rest), run.2)

  all-behind : (first last : Plan) (front parts : List Part) → IsPlanBehind config ask tree front first → HasTold first parts last → IsPlanBehind config ask tree (front ++ parts) last
  all-behind first last front [] behind told =
      subst (λ (parts : List Part). IsPlanBehind config ask tree parts last) (sym (append-nil front))
      (subst (λ (plan : Plan). IsPlanBehind config ask tree front plan) (sym told) behind)
  all-behind first last front (part ∷ parts) behind told =
      subst (λ (all : List Part). IsPlanBehind config ask tree all last) (append_assoc front (part ∷ []) parts)
      (all-behind told.0 last (front ++ part ∷ []) parts (told-behind first told.0 front part behind told.2 told.3) told.4)

  pub told-next : (first last : Plan) (parts : List Part) → IsPlanOf config ask tree first → HasTold first parts last → IsWhatComesNext config ask tree parts last
  told-next first last parts of told = comes-next parts last (all-behind first last [] parts of told)
