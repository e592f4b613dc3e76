use Rattle.std.proofs.Common.{◌∙◌, [], sym, refl, lit<, length}
use Rattle.std.proofs.lemmas.Bool.{eqb-true, eqb-false}
use Rattle.std.proofs.lemmas.Iterator.Consumers.{YieldsList-end}
use Rattle.std.proofs.lemmas.Iterator.Splits.{YieldsList-from_str_split}
use Rattle.file_tags.specs.TagTables.{texts_of, name_rows}
use Rattle.file_tags.proofs.TagLemmas.{name_alone, piece_looked_up, piece_passed, names_all}
use Rattle.file_tags.proofs.look_up.name_tags.Goals as goal

pub pieces-init : goal.pieces-init
pieces-init c = name_alone name_rows c.args.name.now [] _ c.row_of_name-tags.ensures refl

pub pieces-preserved-then-is_empty : goal.pieces-preserved-then-is_empty
pieces-preserved-then-is_empty c =
    piece_looked_up name_rows c.args.name.now c.pieces.yielded c.in-Some.piece c.pieces.tags.now _ c.pieces.invariant
    (eqb-true (length c.pieces.tags.now) 0 (sym c.is_empty.ensures ∙ c.if-is_empty.true)) c.row_of_name-tags-then-is_empty.ensures

pub pieces-preserved : goal.pieces-preserved
pieces-preserved c =
    piece_passed name_rows c.args.name.now c.pieces.yielded c.in-Some.piece c.pieces.tags.now c.pieces.invariant
    (eqb-false (length c.pieces.tags.now) 0 (sym c.is_empty.ensures ∙ c.if-is_empty.false))

pub returns : goal.returns
returns c =
    let all = YieldsList-end (YieldsList-from_str_split 46 c.args.name.now (lit< tt) (cc) (cc) (cc)) c.pieces.yielded _ c.pieces.yielded_by _ _ c.in-None.is c.next.ensures.steps in
    names_all name_rows c.args.name.now (texts_of c.pieces.yielded) _ (texts_of c.pieces.tags.now) c.pieces.invariant all.0
