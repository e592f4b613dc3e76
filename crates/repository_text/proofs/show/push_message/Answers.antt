use Rattle.std.proofs.Common.{◌≡◌, ◌++◌, List, ℕ, sym, subst}
use Rattle.std.specs.Prelude.{OnOk}
use Rattle.repository_text.proofs.TextLemmas.{ended-empty, ended-line, ended-other}
use Rattle.repository_text.proofs.show.push_message.Goals as goal

pub returns-in_default : goal.returns-in_default
returns-in_default c =
    subst (λ (text : List ℕ). OnOk c.push.result (c.push.new.report.items ≡ c.args.text.now.items ++ text))
    (sym (ended-empty c.args.message.now (sym c.in_default.ensures.value))) c.push.ensures.put

pub returns-then-last-eq10 : goal.returns-then-last-eq10
returns-then-last-eq10 c =
    subst (λ (text : List ℕ). OnOk c.push-then-last-eq10.result (c.push-then-last-eq10.new.report.items ≡ c.args.text.now.items ++ text))
    (sym (ended-line c.args.message.now c.in-Some.last.now (sym c.in-Some.ensures.value) c.if-last-eq10.true)) c.push-then-last-eq10.ensures.put

pub returns : goal.returns
returns c =
    subst (λ (text : List ℕ). OnOk c.push_line.result (c.push_line.new.report.items ≡ c.args.text.now.items ++ text))
    (sym (ended-other c.args.message.now c.in-Some.last.now (sym c.in-Some.ensures.value) c.if-last-eq10.false)) c.push_line.ensures.put
