-- A refusal of several changes that is told by two lines.
use Rattle.std.proofs.Common.{◌≡◌, ◌≢◌, ◌⊎◌, ◌∙◌, sym, ℕ, List, ◌++◌, Option, inl, inr}
use Rattle.hook_cli.specs.declared.command_ending.CommandEnding.{CommandEnding}
use Rattle.hook_cli.specs.declared.command_ending.CommandEnding.TheVariants.{Refused, Untold}
use Rattle.text_output.specs.OutputLemmas.{appends-more, begun-before, begun-behind}
use Rattle.text_output.specs.Outputs.{Output}
use Rattle.hook_cli.specs.Printing.{IsPrintedOnStandardError}

abbrev at : Option (List ℕ) → Option (List ℕ) → Output
at held holds = record { held = held; holds = holds }

-- the first text stands, and the second is told after it
pub told-both : (held mid holds : Option (List ℕ)) (first next : List ℕ) (one two : CommandEnding) → IsPrintedOnStandardError Refused (at held mid) first one → one ≡ Refused
    → IsPrintedOnStandardError Refused (at mid holds) next two → IsPrintedOnStandardError Refused (at held holds) (first ++ next) two
told-both held mid holds first next one two (inl whole) is (inl more) = inl (appends-more held mid holds first next whole.0 more.0, more.1)
told-both held mid holds first next one two (inl whole) is (inr part) = inr (begun-behind held mid holds first next whole.0 part.0, part.1)
told-both held mid holds first next one two (inr part) is told = let wrong : Untold ≡ Refused = sym part.1 ∙ is in cc

-- the first text doesn't stand whole
pub told-first : (held holds : Option (List ℕ)) (first next : List ℕ) (ending : CommandEnding) → IsPrintedOnStandardError Refused (at held holds) first ending
    → ending ≢ Refused → IsPrintedOnStandardError Refused (at held holds) (first ++ next) ending
told-first held holds first next ending (inl whole) other = absurd (other whole.1)
told-first held holds first next ending (inr part) other = inr (begun-before held holds first next part.0, part.1)

pub told-or-untold : (err : Output) (text : List ℕ) (ending : CommandEnding) → IsPrintedOnStandardError Refused err text ending → (ending ≡ Refused) ⊎ (ending ≡ Untold)
told-or-untold err text ending (inl whole) = inl whole.1
told-or-untold err text ending (inr part) = inr part.1
