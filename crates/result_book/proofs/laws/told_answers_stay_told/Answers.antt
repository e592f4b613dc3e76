use Rattle.result_book.specs.ToldLemmas.{adds-found, adds-put, told-adds, told-limited}
use Rattle.result_book.proofs.laws.told_answers_stay_told.Goals as goal

pub returns-clause-found : goal.returns-clause-found
returns-clause-found g c = λ words seen before after told step.
    told-adds (g.C.Children.tells c.args.children.now) before after told (adds-found (g.C.Children.tells c.args.children.now) words seen before after step)

pub returns-clause-put : goal.returns-clause-put
returns-clause-put g c = λ words seen answer before after told one step.
    told-adds (g.C.Children.tells c.args.children.now) before after told (adds-put (g.C.Children.tells c.args.children.now) words seen answer before after step one)

pub returns-clause-limited : goal.returns-clause-limited
returns-clause-limited g c = λ limit before after told is. told-limited (g.C.Children.tells c.args.children.now) limit before after told is

pub returns-clause-nothing : goal.returns-clause-nothing
returns-clause-nothing g c = λ limit words seen answer holds. absurd holds
