use Rattle.std.proofs.Common.{◌∙◌, sym, refl, inl, inr}
use Rattle.repo_store.specs.Repository.{commit_at}
use Rattle.commit_flow.specs.declared.host_refusal.HostRefusal.TheVariants.{OutOfMemory}
use Rattle.command_line.specs.declared.line.LookUp.TheVariants.{Show}
use Rattle.hook_cli.specs.RefusalText.{no_commit_text, refusal_text}
use Rattle.repository_text.specs.ShowText.{show_text}
use Rattle.hook_cli.proofs.OverHostLemmas.{look-up-refused, none-mapped, silent-itself}
use Rattle.hook_cli.proofs.look_up.show.Goals as goal

pub returns-in-Ok-None : goal.returns-in-Ok-None
returns-in-Ok-None g c =
    look-up-refused c.args.store.now.kept (Show c.args.number)
    (record { held = g.O.Write.contents c.args.out.now; holds = g.O.Write.contents c.args.out.now })
    (record { held = g.E.Write.contents c.args.err.now; holds = g.E.Write.contents c.tell_no_commit.new.err })
    c.tell_no_commit.result (no_commit_text c.args.number)
    (inl (none-mapped show_text (commit_at c.args.number c.args.store.now.kept.repo.history) (sym c.in-Ok-None.field-0-is ∙ c.in-Ok-None.ensures.text), refl))
    c.tell_no_commit.ensures (silent-itself (g.O.Write.contents c.args.out.now))

pub returns-in-Err : goal.returns-in-Err
returns-in-Err g c =
    look-up-refused c.args.store.now.kept (Show c.args.number)
    (record { held = g.O.Write.contents c.args.out.now; holds = g.O.Write.contents c.args.out.now })
    (record { held = g.E.Write.contents c.args.err.now; holds = g.E.Write.contents c.tell.new.err })
    c.tell.result (refusal_text OutOfMemory) (inr (c.in-Err.ensures.refused, refl)) c.tell.ensures (silent-itself (g.O.Write.contents c.args.out.now))
