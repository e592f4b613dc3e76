use Rattle.std.proofs.Common.{◌≡◌, ◌∙◌, sym, ap, Some, Option, true, false, is_some, option_map, List, ℕ}
use Rattle.yaml_lines.specs.Meaning.{Meaning, text}
use Rattle.yaml_lines.specs.Plain.{begins_plain}
use Rattle.yaml_lines.specs.ViewLemmas.{view-Text}
use Rattle.yaml_lines.proofs.Contents.{plain_of-not_plain, plain_of-colon, plain_of-plain}
use Rattle.yaml_lines.proofs.FaultLines.{refusal_line}
use Rattle.yaml_lines.proofs.text_scalar.plain_scalar.Goals as goal
use Rattle.yaml_lines.proofs.text_scalar.plain_scalar.Goals.{then-not-begins_plain-via-then-not-begins_plain, then-not-begins_plain-via-else-not-begins_plain+then-is_some}

abbrev plain_text : Option (List ℕ) → Option Meaning
plain_text o = option_map (λ bytes. text bytes false) o

pub returns-then-not-begins_plain-clause-meant : goal.returns-then-not-begins_plain-clause-meant
returns-then-not-begins_plain-clause-meant c =
    let t = c.args.content.now in
    elim c.then-not-begins_plain.branch [
      | then-not-begins_plain-via-then-not-begins_plain w ↦ (λ _. ap plain_text (plain_of-not_plain t (let h : begins_plain t ≡ false = cc in h)))
      | then-not-begins_plain-via-else-not-begins_plain+then-is_some w ↦ (λ _. ap plain_text (plain_of-colon t w.colon.result w.colon.ensures (let h : is_some w.colon.result ≡ true = cc in h)))
    ]

pub returns-then-not-begins_plain-clause-place : goal.returns-then-not-begins_plain-clause-place
returns-then-not-begins_plain-clause-place c = refusal_line c.refusal.result c.args.number c.refusal.ensures.place c.refusal.ensures.kind

pub returns-clause-meant : goal.returns-clause-meant
returns-clause-meant c =
    let t = c.args.content.now in
    let plain : begins_plain t ≡ true = cc in
    let none : is_some c.colon.result ≡ false = cc in
    ap plain_text (plain_of-plain t c.uncommented.result.now c.trim_end.result.now c.colon.result plain c.colon.ensures none c.uncommented.ensures.value c.trim_end.ensures.value)
    ∙ (ap (λ (bytes : List ℕ). Some (text bytes false)) (sym c.in_ok-text.ensures) ∙ ap Some (sym (view-Text c.in_ok-text.text false)))
