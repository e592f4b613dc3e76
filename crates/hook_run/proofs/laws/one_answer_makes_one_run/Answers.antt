use Rattle.hook_run.specs.AnswerLemmas.{told-back_to}
use Rattle.hook_run.specs.OneAnswerLemmas.{one-run}
use Rattle.hook_run.specs.Parts.{all_parts}
use Rattle.hook_run.proofs.laws.one_answer_makes_one_run.Goals as goal

pub returns : goal.returns
returns g c = λ same alone config ask tree trace theirs first second one two.
    one-run (g.C.Children.tells c.args.children.now) alone config ask tree trace theirs first second one (record {
      run = two.run;
      told = told-back_to (g.C.Children.tells c.args.children.now) (g.D.Children.tells c.args.others.now) same (all_parts theirs) two.told;
      no_fault = two.no_fault;
    })
