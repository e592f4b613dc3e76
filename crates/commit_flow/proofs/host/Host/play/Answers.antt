use Rattle.std.proofs.Common.{◌≡◌, ◌∙◌, ◌+◌, ◌<◌, ◌∷◌, ◌++◌, [], refl, sym, ap, arith, length, rules, take}
use Rattle.std.proofs.lemmas.List.{take_all, take_more}
use Rattle.child_port.specs.TellingLemmas.{SameTells-trans}
use Rattle.repo_store.specs.StoreBooks.{remembered_by}
use Rattle.hook_run.specs.Moments.{moment}
use Rattle.commit_flow.specs.declared.command.Command.{Command}
use Rattle.commit_flow.proofs.SafeLemmas.{none_safely, one_more_safely, play_of_safe, safe_stands}
use Rattle.commit_flow.proofs.host.Host.play.Goals as goal

pub commands-init : goal.commands-init
commands-init g c =
    let children = g.C.Children in
    let at = moment (children.call_count c.args.children.now) (children.fault_count c.args.children.now) (remembered_by c.args.self.now.store.kept) in
    record {
      safe = rw c.in_ok-replies.ensures.items (none_safely g.S.Store (children.tells c.args.children.now) at c.args.self.now.store);
      same = search rules;
      count = search rules;
      room = search rules;
    }

pub commands-preserved : goal.commands-preserved
commands-preserved g c =
    let children = g.C.Children in
    let so_far = c.commands.invariant in
    let commands = c.args.commands.now in
    let index = c.commands.command-index in
    let from = moment (children.call_count c.args.children.now) (children.fault_count c.args.children.now) (remembered_by c.args.self.now.store.kept) in
    let at = moment (children.call_count c.commands.children) (children.fault_count c.commands.children) (remembered_by c.commands.self.store.kept) in
    let to = moment (children.call_count c.played-reply.new.children) (children.fault_count c.played-reply.new.children) (remembered_by c.played-reply.new.self.store.kept) in
    let within : index < length commands = omega (arith, c.commands-test.true) in
    let taken : take (index + 1) commands ≡ take index commands ++ c.command-item.result ∷ [] =
    take_more commands index c.command-item.result within ∙ ap (λ (command : Command). take index commands ++ command ∷ []) (sym c.command-item.is) in
    record {
      safe = rw (taken, c.push_reserved.ensures.items) (one_more_safely g.S.Store (children.tells c.args.children.now) (children.tells c.commands.children) so_far.same from at to
          c.args.self.now.store c.commands.self.store c.played-reply.new.self.store
          (take index commands) c.commands.replies.items c.command-item.result c.played-reply.result so_far.safe c.played-reply.ensures.played);
      same = SameTells-trans (children.tells c.args.children.now) (children.tells c.commands.children) (children.tells c.played-reply.new.children) so_far.same c.played-reply.ensures.same;
      count = rw (c.push_reserved.ensures.len, so_far.count) refl;
      room = rw c.push_reserved.ensures.capacity so_far.room;
    }

pub returns-clause-run : goal.returns-clause-run
returns-clause-run g c =
    let children = g.C.Children in
    let from = moment (children.call_count c.args.children.now) (children.fault_count c.args.children.now) (remembered_by c.args.self.now.store.kept) in
    let to = moment (children.call_count c.commands.children) (children.fault_count c.commands.children) (remembered_by c.commands.self.store.kept) in
    play_of_safe g.S.Store (children.tells c.args.children.now) from to c.args.self.now.store c.commands.self.store c.args.commands.now c.commands.replies.items
    (rw (take_all c.commands.command-index c.args.commands.now (omega (arith, c.commands-test.false))) at c.commands.invariant.safe)

pub returns-clause-stands : goal.returns-clause-stands
returns-clause-stands g c =
    let children = g.C.Children in
    let from = moment (children.call_count c.args.children.now) (children.fault_count c.args.children.now) (remembered_by c.args.self.now.store.kept) in
    let to = moment (children.call_count c.commands.children) (children.fault_count c.commands.children) (remembered_by c.commands.self.store.kept) in
    safe_stands g.S.Store (children.tells c.args.children.now) from to c.args.self.now.store c.commands.self.store c.args.commands.now c.commands.replies.items
    (rw (take_all c.commands.command-index c.args.commands.now (omega (arith, c.commands-test.false))) at c.commands.invariant.safe)
