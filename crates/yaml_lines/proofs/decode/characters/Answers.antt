use Rattle.std.proofs.Common.{◌∙◌, sym, ap, inr, List, ℕ, Some}
use Rattle.std.specs.Str.{chars}
use Rattle.yaml_lines.specs.Characters.{without_mark}
use Rattle.yaml_lines.specs.Faults.{line_behind}
use Rattle.yaml_lines.proofs.Decoded.{characters_of-large, characters_of-bad, characters_of-good, Front, fault_of_bytes-bad}
use Rattle.yaml_lines.proofs.decode.characters.Goals as goal

pub returns-then-bytes-gt-MOST_BYTES-clause-meant :
    goal.returns-then-bytes-gt-MOST_BYTES-clause-meant
returns-then-bytes-gt-MOST_BYTES-clause-meant c = λ _. characters_of-large c.args.bytes.now c.if-bytes-gt-MOST_BYTES.true

pub returns-in-Err-clause-meant : goal.returns-in-Err-clause-meant
returns-in-Err-clause-meant c = λ _. characters_of-bad c.args.bytes.now c.in-Err.ensures.cases.0

pub returns-clause-meant : goal.returns-clause-meant
returns-clause-meant c =
    characters_of-good c.args.bytes.now c.if-bytes-gt-MOST_BYTES.false c.in-Ok.ensures.cases.1
    ∙ ap Some (ap (λ (bs : List ℕ). without_mark (chars bs)) (sym c.in-Ok.ensures.cases.0) ∙ (ap without_mark (sym c.in_ok-all_characters.ensures.value) ∙ sym c.without_mark.ensures.value))

pub returns-in-Err-clause-refused : goal.returns-in-Err-clause-refused
returns-in-Err-clause-refused c =
    let bytes = c.args.bytes.now in
    let front : Front bytes c.valid_up_to.result c.line_behind.result = record {
      longest = c.valid_up_to.ensures ∙ c.in-Err.ensures.valid_len;
      behind = c.line_behind.ensures ∙ ap line_behind c.before-in-Err.ensures;
    } in
    inr (fault_of_bytes-bad bytes c.valid_up_to.result c.line_behind.result c.if-bytes-gt-MOST_BYTES.false c.in-Err.ensures.cases.0 front)
