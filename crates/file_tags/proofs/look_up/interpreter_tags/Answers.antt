use Rattle.std.proofs.Common.{◌∙◌, sym, ap, refl, length}
use Rattle.std.proofs.lemmas.Bool.{eqb-true, eqb-false}
use Rattle.file_tags.specs.Cuts.{before_dots}
use Rattle.file_tags.specs.TagTables.{interpreter_rows, tags_of_first}
use Rattle.file_tags.proofs.CutLemmas.{before_dots_of_cut, before_dots_of_whole, before_is_shorter, before_of_text}
use Rattle.file_tags.proofs.TagLemmas.{name_alone, name_found, name_unknown}
use Rattle.file_tags.proofs.look_up.interpreter_tags.Goals as goal

pub dots-init : goal.dots-init
dots-init c = (c.utf8.interpreter, refl)

pub returns-then-not-is_empty : goal.returns-then-not-is_empty
returns-then-not-is_empty c =
    name_found interpreter_rows c.dots.name.now (before_dots c.dots.name.now) c.row_of_interpreter-tags.result.now c.row_of_interpreter-tags.ensures
    (eqb-false (length c.row_of_interpreter-tags.result.now) 0 (sym c.is_empty.ensures ∙ c.if-not-is_empty.true))
    ∙ c.dots.invariant.1

pub dots-smaller : goal.dots-smaller
dots-smaller c = before_is_shorter c.dots.name.now _ _ c.in-Some.ensures

pub dots-preserved : goal.dots-preserved
dots-preserved c =
    let unknown =
    name_unknown interpreter_rows c.dots.name.now (before_dots c.dots.name.now) c.row_of_interpreter-tags.result.now c.row_of_interpreter-tags.ensures
    (eqb-true (length c.row_of_interpreter-tags.result.now) 0 (sym c.is_empty.ensures ∙ c.if-not-is_empty.false)) in (
      before_of_text c.dots.name.now _ _ c.in-Some.ensures c.dots.invariant.0,
      sym (ap (λ names. tags_of_first interpreter_rows names) (before_dots_of_cut c.dots.name.now _ _ c.in-Some.ensures)) ∙ (sym unknown ∙ c.dots.invariant.1),
    )

pub returns : goal.returns
returns c =
    name_alone interpreter_rows c.dots.name.now (before_dots c.dots.name.now) _ c.row_of_interpreter.ensures (before_dots_of_whole c.dots.name.now c.in_default.ensures)
    ∙ c.dots.invariant.1
