use Rattle.hook_run.specs.Moments.{moment}
use Rattle.commit_flow.proofs.RunLemmas.{counted_if, stopped_if}
use Rattle.commit_flow.proofs.hooks.run_counted.Goals as goal

pub returns-clause-run : goal.returns-clause-run
returns-clause-run g c =
    let children = g.C.Children in
    let book = g.B.Book in
    counted_if (children.tells c.args.children.now) (moment (children.call_count c.args.children.now) (children.fault_count c.args.children.now) (book.contents c.args.book.now))
    (moment (children.call_count c.run_hooks.new.children) (children.fault_count c.run_hooks.new.children) (book.contents c.run_hooks.new.book))
    c.args.config.now c.args.ask.now c.args.tree.now c.run_hooks.result c.run_hooks.ensures.reused c.run_hooks.ensures.no_hook

pub returns-clause-stopped : goal.returns-clause-stopped
returns-clause-stopped g c =
    let children = g.C.Children in
    let book = g.B.Book in
    stopped_if book.refuses (children.tells c.args.children.now) (moment (children.call_count c.args.children.now) (children.fault_count c.args.children.now) (book.contents c.args.book.now))
    (moment (children.call_count c.run_hooks.new.children) (children.fault_count c.run_hooks.new.children) (book.contents c.run_hooks.new.book))
    c.args.config.now c.args.ask.now c.args.tree.now c.run_hooks.result c.run_hooks.ensures.stopped c.run_hooks.ensures.no_hook c.run_hooks.ensures.refused
