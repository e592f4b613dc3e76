-- Runs whose parts have the same outcomes wherever they have the same words and seen files are the same.
use Rattle.std.proofs.Common.{◌≡◌, ◌∙◌, ap, ap₂, sym, refl, append_assoc, List, [], ◌∷◌, ◌++◌}
use Rattle.std.proofs.lemmas.List.{append-nil, map-append}
use Rattle.hook_base.specs.declared.file.File.{File}
use Rattle.child_port.specs.declared.answer.Outcome.{Outcome}
use Rattle.hook_config.specs.declared.configuration.Config.{Config}
use Rattle.hook_run.specs.declared.run_ask.RunAsk.{RunAsk}
use Rattle.hook_run.specs.declared.run_out.RunOut.{RunOut}
use Rattle.hook_run.specs.OneAnswer.{AreSameRuns}
use Rattle.hook_run.specs.Parts.{Part, all_parts}
use Rattle.hook_run.specs.RunOuts.{IsRunOut}
use Rattle.hook_run.specs.SameRuns.{outcomes_of, without_marks}
use Rattle.hook_run.specs.OneRunLemmas.{next-of}

-- The parts of two lists, taken in order, have the same outcome as long as they have the same words and seen
-- files.
abbrev pub Agree : List Part → List Part → Type 0
Agree [] more = Unit {0}
Agree (part ∷ rest) [] = Unit {0}
Agree (part ∷ rest) (other ∷ more) =
    part.words ≡ other.words → part.seen ≡ other.seen → (part.outcome ≡ other.outcome) × Agree rest more

outcomes-more : (front begun : List Part) (part other : Part) → outcomes_of front ≡ outcomes_of begun
    → part.outcome ≡ other.outcome → outcomes_of (front ++ part ∷ []) ≡ outcomes_of (begun ++ other ∷ [])
outcomes-more front begun part other same outcome =
    map-append (λ (p : Part). p.outcome) front (part ∷ [])
    ∙ ap₂ (λ (so_far last : List Outcome). so_far ++ last) same (ap (λ (o : Outcome). o ∷ []) outcome)
    ∙ sym (map-append (λ (p : Part). p.outcome) begun (other ∷ []))

module _ (config : Config) (ask : RunAsk) (tree : List File) (trace others : List (List Part)) (first second : RunOut)
    (one : IsRunOut config ask tree trace first) (two : IsRunOut config ask tree others second) where
  same-behind : (front begun rest more : List Part) → all_parts trace ≡ front ++ rest → all_parts others ≡ begun ++ more
      → outcomes_of front ≡ outcomes_of begun → Agree rest more → AreSameRuns trace others first second
  same-behind front begun [] [] before behind same agree =
      let next = next-of config ask tree trace others first second front begun [] [] one two before behind same in
      record {
        parts =
            ap without_marks (before ∙ append-nil front) ∙ next.0 ∙ sym (ap without_marks (behind ∙ append-nil begun));
        given = next.1;
      }
  same-behind front begun [] (other ∷ more) before behind same agree =
      absurd (next-of config ask tree trace others first second front begun [] (other ∷ more) one two before behind
      same).1
  same-behind front begun (part ∷ rest) [] before behind same agree =
      absurd (next-of config ask tree trace others first second front begun (part ∷ rest) [] one two before behind
      same).1
  same-behind front begun (part ∷ rest) (other ∷ more) before behind same agree =
      let next =
      next-of config ask tree trace others first second front begun (part ∷ rest) (other ∷ more) one two before
      behind same in
      let on = agree next.1.0 next.1.1 in
      same-behind (front ++ part ∷ []) (begun ++ other ∷ []) rest more
      (before ∙ sym (append_assoc front (part ∷ []) rest)) (behind ∙ sym (append_assoc begun (other ∷ []) more))
      (outcomes-more front begun part other same on.0) on.1

  pub same-where-agree : Agree (all_parts trace) (all_parts others) → AreSameRuns trace others first second
  same-where-agree agree = same-behind [] [] (all_parts trace) (all_parts others) refl refl refl agree
