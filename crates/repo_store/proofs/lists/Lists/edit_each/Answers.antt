use Rattle.std.proofs.Common.{List, map, take, ap, sym, subst, ◌∙◌, arith}
use Rattle.std.proofs.lemmas.List.{take_all}
use Rattle.repo_store.specs.declared.staging_edit.StagingEdit.{StagingEdit}
use Rattle.repo_store.specs.Edits.{AreEditable, all_edited}
use Rattle.repo_store.specs.SharedEdits.{IsLonger, edit_of, made_edits}
use Rattle.repo_store.proofs.EditLemmas.{all_longer, edited_next, editable_next, longer_then, made_next, refused_here}
use Rattle.repo_store.proofs.lists.Lists.edit_each.Goals as goal

pub returns-in-Err-clause-longer : goal.returns-in-Err-clause-longer
returns-in-Err-clause-longer c =
    let kept = c.args.self.now.kept in
    longer_then kept c.edits.self.kept c.edit_onto.new.self.kept (subst (IsLonger kept) (sym c.edits.invariant.edited) (all_longer (take c.edits.at c.args.edits.now) kept)) (c.in-Err.ensures).longer

pub returns-in-Err-clause-refused : goal.returns-in-Err-clause-refused
returns-in-Err-clause-refused c =
    refused_here c.args.edits.now c.args.self.now.kept c.edits.at c.index-edits-at.result c.edits-test.true c.index-edits-at.is c.edits.self.kept c.in-Err.fault c.edits.invariant.edited
    c.edits.invariant.editable (c.in-Err.ensures).refused

pub edits-preserved : goal.edits-preserved
edits-preserved c =
    let all = c.args.edits.now in
    let kept = c.args.self.now.kept in
    let at = c.edits.at in
    let edit = c.index-edits-at.result in
    let before = c.edits.invariant in
    let one = c.in_default.ensures in
    record {
      edited = edited_next all kept at edit c.edits-test.true c.index-edits-at.is c.edits.self.kept c.edit_onto.new.self.kept before.edited one.edited;
      made =
          made_next all kept at edit c.edits-test.true c.index-edits-at.is c.edits.self.kept (map edit_of c.edits.made.items) (map edit_of c.edit_onto.new.made.items) before.edited before.made
          one.made;
      editable = editable_next all kept at edit c.edits-test.true c.index-edits-at.is c.edits.self.kept before.edited before.editable one.editable;
    }

pub returns-clause-edited : goal.returns-clause-edited
returns-clause-edited c = c.edits.invariant.edited ∙ ap (λ (l : List StagingEdit). all_edited l c.args.self.now.kept) (take_all c.edits.at c.args.edits.now (omega (arith, c.edits-test.false)))

pub returns-clause-made : goal.returns-clause-made
returns-clause-made c = c.edits.invariant.made ∙ ap (λ (l : List StagingEdit). made_edits l c.args.self.now.kept) (take_all c.edits.at c.args.edits.now (omega (arith, c.edits-test.false)))

pub returns-clause-editable : goal.returns-clause-editable
returns-clause-editable c = subst (λ (l : List StagingEdit). AreEditable l c.args.self.now.kept) (take_all c.edits.at c.args.edits.now (omega (arith, c.edits-test.false))) c.edits.invariant.editable

pub returns-clause-longer : goal.returns-clause-longer
returns-clause-longer c =
    let kept = c.args.self.now.kept in
    subst (IsLonger kept) (sym c.edits.invariant.edited) (all_longer (take c.edits.at c.args.edits.now) kept)
