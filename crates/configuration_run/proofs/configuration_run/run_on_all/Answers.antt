use Rattle.hook_run.specs.AnswerLemmas.{answered-rises, so-far-rises}
use Rattle.hook_run.specs.Moments.{moment}
use Rattle.hook_run.specs.Parts.{all_parts}
use Rattle.configuration_run.proofs.configuration_run.run_on_all.Goals as goal

pub returns-in-Ok-clause-faults_are_calls : goal.returns-in-Ok-clause-faults_are_calls
returns-in-Ok-clause-faults_are_calls g c =
    let children = g.C.Children in
    (answered-rises (children.tells c.args.children.now) c.in_ok-ask.ask.reuse (moment (children.call_count c.args.children.now) (children.fault_count c.args.children.now) c.new-book.result)
    (moment (children.call_count c.run_hooks.new.children) (children.fault_count c.run_hooks.new.children) c.run_hooks.new.book)
    (all_parts c.in-Ok.ensures.run.trace) c.in-Ok.ensures.run.answered).faults_are_calls

pub returns-in-Err-OutOfMemory-clause-faults_are_calls : goal.returns-in-Err-OutOfMemory-clause-faults_are_calls
returns-in-Err-OutOfMemory-clause-faults_are_calls g c =
    let children = g.C.Children in
    (so-far-rises (children.tells c.args.children.now) c.in_ok-ask.ask.reuse (moment (children.call_count c.args.children.now) (children.fault_count c.args.children.now) c.new-book.result)
    (moment (children.call_count c.run_hooks.new.children) (children.fault_count c.run_hooks.new.children) c.run_hooks.new.book)
    c.in-Err-OutOfMemory.ensures.stopped.parts c.in-Err-OutOfMemory.ensures.stopped.answered).faults_are_calls

pub returns-in-Err-Spent-clause-faults_are_calls : goal.returns-in-Err-Spent-clause-faults_are_calls
returns-in-Err-Spent-clause-faults_are_calls g c =
    let children = g.C.Children in
    (so-far-rises (children.tells c.args.children.now) c.in_ok-ask.ask.reuse (moment (children.call_count c.args.children.now) (children.fault_count c.args.children.now) c.new-book.result)
    (moment (children.call_count c.run_hooks.new.children) (children.fault_count c.run_hooks.new.children) c.run_hooks.new.book)
    c.in-Err-Spent.ensures.stopped.parts c.in-Err-Spent.ensures.stopped.answered).faults_are_calls
