use Rattle.hook_run.specs.OneAnswerLemmas.{none-unsteady}
use Rattle.hook_run.proofs.laws.one_answer_leaves_no_hook_unsteady.Goals as goal

pub returns : goal.returns
returns g c = λ alone from to config ask tree out book over.
    none-unsteady (g.C.Children.tells c.args.children.now) alone config ask tree over.trace out ask.reuse from to book over.run over.answered
