use Rattle.std.proofs.Common.{ℕ, List, ap}
use Rattle.std.proofs.lemmas.Result.{err_from_is_err_and}
use Rattle.repo_store.specs.Kept.{unstaging}
use Rattle.commit_flow.specs.declared.command.Command.TheVariants.{Remove}
use Rattle.commit_flow.specs.declared.reply.Reply.TheVariants.{Removed}
use Rattle.commit_flow.proofs.CommandLemmas.{done_command, refused_command, remove_reached}
use Rattle.commit_flow.proofs.host.Host.remove.Goals as goal

pub returns-in_err-unstage-clause-command : goal.returns-in_err-unstage-clause-command
returns-in_err-unstage-clause-command g c =
    let store = c.args.self.now.store in
    let kept = store.kept in
    let path = c.args.path.now in
    let same = ap (λ (taken : List ℕ). unstaging taken kept) c.in_ok-path.ensures.same in
    let p = err_from_is_err_and c.from_residual-in_err-unstage.result c.from_residual-in_err-unstage.ensures.1 in
    rw p.1 (refused_command g.S.Store store c.unstage.new.self (Remove path) (unstaging c.in_ok-path.path kept) (unstaging path kept) same
    (remove_reached kept path c.in_ok-path.ensures.removable.0 c.in_ok-path.ensures.removable.1) c.in_err-unstage.field-0.0 p.0 c.in_err-unstage.ensures.transaction)

pub returns-clause-command : goal.returns-clause-command
returns-clause-command g c =
    let store = c.args.self.now.store in
    let kept = store.kept in
    let path = c.args.path.now in
    let same = ap (λ (taken : List ℕ). unstaging taken kept) c.in_ok-path.ensures.same in
    done_command g.S.Store store c.unstage.new.self (Remove path) (unstaging c.in_ok-path.path kept) (unstaging path kept) same
    (remove_reached kept path c.in_ok-path.ensures.removable.0 c.in_ok-path.ensures.removable.1) tt Removed c.in_ok-unstage.ensures.change.done c.in_ok-unstage.ensures.transaction
