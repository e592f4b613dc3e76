use Rattle.hook_cli.specs.RefusalText.{refusal_text}
use Rattle.hook_cli.specs.StagingOver.{at_text, path_at}
use Rattle.hook_cli.proofs.StagingLemmas.{told-both, told-first, told-or-untold}
use Rattle.hook_cli.proofs.over_staging.tell_stop.Goals as goal

pub returns-in-Refused-clause-told : goal.returns-in-Refused-clause-told
returns-in-Refused-clause-told g c =
    told-both (g.E.Write.contents c.args.err.now) (g.E.Write.contents c.tell.new.err) (g.E.Write.contents c.tell_at.new.err)
    (refusal_text c.args.stop.now.refusal) (at_text (path_at c.args.edits.now c.args.stop.now.at)) c.tell.result c.tell_at.result
    c.tell.ensures c.in-Refused.is c.tell_at.ensures.told

pub returns-in_default : goal.returns-in_default
returns-in_default g c = record {
  told = told-first (g.E.Write.contents c.args.err.now) (g.E.Write.contents c.tell.new.err)
      (refusal_text c.args.stop.now.refusal) (at_text (path_at c.args.edits.now c.args.stop.now.at)) c.tell.result c.tell.ensures c.in_default.not-Refused;
  one_of = told-or-untold _ (refusal_text c.args.stop.now.refusal) c.tell.result c.tell.ensures;
}
