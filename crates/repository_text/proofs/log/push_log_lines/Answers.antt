use Rattle.std.proofs.Common.{◌∙◌, ◌++◌, ap, sym, append_assoc, arith}
use Rattle.repository_text.specs.LogText.{log_line}
use Rattle.repository_text.proofs.TextLemmas.{log-end, log-turn}
use Rattle.repository_text.proofs.log.push_log_lines.Goals as goal

pub commits-preserved : goal.commits-preserved
commits-preserved g c =
    let history = c.args.store.now.kept.repo.history in
    record {
      within = let h = c.commits.invariant.within in omega arith;
      written = c.in_ok-push_log_line.ensures ∙ ap (λ text. text ++ log_line c.commits.number c.in-Some.message.now) c.commits.invariant.written
          ∙ append_assoc c.args.text.now.items _ (log_line c.commits.number c.in-Some.message.now)
          ∙ ap (λ text. c.args.text.now.items ++ text) (sym (log-turn history c.commits.number c.in-Some.message.now c.in-Some.ensures));
    }

pub returns : goal.returns
returns g c =
    c.commits.invariant.written
    ∙ ap (λ text. c.args.text.now.items ++ text)
    (log-end c.args.store.now.kept.repo.history c.commits.number c.commits.invariant.within c.in_default.ensures)
