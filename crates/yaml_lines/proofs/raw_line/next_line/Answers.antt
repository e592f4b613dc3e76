use Rattle.std.proofs.Common.{◌∙◌, ◌∷◌, ◌+◌, sym, ap, ℕ, List, drop, true, false, arith, length}
use Rattle.yaml_lines.specs.BlockTexts.{LineText}
use Rattle.yaml_lines.specs.Lines.{line_texts, without_return}
use Rattle.yaml_lines.proofs.RawLines.{line_texts-at, line_texts-all}
use Rattle.yaml_lines.proofs.raw_line.next_line.Goals as goal

pub returns-in-Some-clause-first : goal.returns-in-Some-clause-first
returns-in-Some-clause-first c =
    let t = c.args.text.now in
    let line : List ℕ → List ℕ → List LineText = λ cs rest. record { text = cs; ended = true } ∷ line_texts rest in
    line_texts-at t c.in-Some.at c.in-Some.ensures.0 c.in-Some.ensures.1 c.in-Some.ensures.2
    ∙ (ap (λ (cs : List ℕ). line (without_return cs) (drop (c.in-Some.at + 1) t)) (sym c.front.ensures)
    ∙ (ap (λ (cs : List ℕ). line cs (drop (c.in-Some.at + 1) t)) (sym c.without_return.ensures.value)
    ∙ ap (line c.without_return.result.now) (sym c.skip.ensures)))

pub returns-in-None-clause-first : goal.returns-in-None-clause-first
returns-in-None-clause-first c =
    let t = c.args.text.now in
    line_texts-all t (length t) c.requires.some c.in-None.ensures (omega arith)
    ∙ ap (λ (rest : List ℕ). record { text = t; ended = false } ∷ line_texts rest) (sym c.skip-in-None.ensures)
