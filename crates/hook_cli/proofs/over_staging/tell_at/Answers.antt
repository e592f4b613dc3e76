use Rattle.std.proofs.Common.{◌∙◌, ap, subst, sym, ℕ, List, Option, option_map}
use Rattle.hook_cli.specs.declared.command_ending.CommandEnding.TheVariants as ends
use Rattle.hook_cli.specs.Printing.{IsPrintedOnStandardError}
use Rattle.hook_cli.specs.StagingOver.{at_text}
use Rattle.hook_cli.proofs.over_staging.tell_at.Goals as goal

pub returns-in-Some-clause-told : goal.returns-in-Some-clause-told
returns-in-Some-clause-told g c =
    subst (λ (found : Option (List ℕ)). IsPrintedOnStandardError ends.Refused (record { held = g.E.Write.contents c.args.err.now; holds = g.E.Write.contents c.tell_at_path.new.err }) (at_text found)
    c.tell_at_path.result)
    (sym (ap (option_map (λ s. s.now)) c.in-Some.is) ∙ c.path_at.ensures) c.tell_at_path.ensures.told
