use Rattle.std.proofs.Common.{◌∙◌, sym}
use Rattle.std.proofs.lemmas.Result.{err_from_is_err_and}
use Rattle.hook_base.specs.declared.file.FileEntry.{FileEntry}
use Rattle.repo_store.specs.Kept.{staging}
use Rattle.commit_flow.specs.declared.command.Command.TheVariants.{Add}
use Rattle.commit_flow.specs.declared.reply.Reply.TheVariants.{Added}
use Rattle.commit_flow.specs.Steps.{entry_to_add}
use Rattle.commit_flow.proofs.CommandLemmas.{add_collides, add_reached, done_command, refused_command, same_staging}
use Rattle.commit_flow.proofs.PathLemmas.{legal_isnt_message}
use Rattle.commit_flow.proofs.host.Host.add.Goals as goal

pub stage-requires : goal.stage-requires
stage-requires g c = λ is. legal_isnt_message c.args.path.now c.in_ok-path.ensures.addable.legal (sym c.in_ok-path.ensures.same ∙ is)

pub returns-in_err-stage-clause-command : goal.returns-in_err-stage-clause-command
returns-in_err-stage-clause-command g c =
    let store = c.args.self.now.store in
    let kept = store.kept in
    let path = c.args.path.now in
    let bytes = c.args.bytes.now in
    let asked = c.args.mode in
    let entry : FileEntry = record { mode = c.mode_to_add-mode.result; bytes = bytes } in
    let same = same_staging kept path bytes asked c.in_ok-path.path c.mode_to_add-mode.result c.in_ok-path.ensures.same c.mode_to_add-mode.ensures in
    let p = err_from_is_err_and c.from_residual-in_err-stage.result c.from_residual-in_err-stage.ensures.1 in
    rw p.1 (refused_command g.S.Store store c.stage.new.self (Add path bytes asked) (staging c.in_ok-path.path entry kept) (staging path (entry_to_add kept.repo path bytes asked) kept) same
    (add_reached kept path bytes asked c.in_ok-path.ensures.addable) c.in_err-stage.field-0.0 p.0 c.in_err-stage.ensures.transaction)

pub returns-clause-command : goal.returns-clause-command
returns-clause-command g c =
    let store = c.args.self.now.store in
    let kept = store.kept in
    let path = c.args.path.now in
    let bytes = c.args.bytes.now in
    let asked = c.args.mode in
    let entry : FileEntry = record { mode = c.mode_to_add-mode.result; bytes = bytes } in
    let same = same_staging kept path bytes asked c.in_ok-path.path c.mode_to_add-mode.result c.in_ok-path.ensures.same c.mode_to_add-mode.ensures in
    done_command g.S.Store store c.stage.new.self (Add path bytes asked) (staging c.in_ok-path.path entry kept) (staging path (entry_to_add kept.repo path bytes asked) kept) same
    (add_reached kept path bytes asked c.in_ok-path.ensures.addable) tt Added c.in_ok-stage.ensures.change.done c.in_ok-stage.ensures.transaction

pub returns-in_err-stage-clause-collides : goal.returns-in_err-stage-clause-collides
returns-in_err-stage-clause-collides g c =
    let p = err_from_is_err_and c.from_residual-in_err-stage.result c.from_residual-in_err-stage.ensures.1 in
    rw (p.1, p.2) (add_collides c.in_ok-path.path c.args.bytes.now c.mode_to_add-mode.result c.args.self.now.store.kept c.in_err-stage.field-0.0 c.in_err-stage.ensures.why)
