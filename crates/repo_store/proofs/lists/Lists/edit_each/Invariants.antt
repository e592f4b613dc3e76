use Rattle.std.proofs.Common.{◌≡◌, map, take}
use Rattle.repo_store.specs.Edits.{AreEditable, all_edited}
use Rattle.repo_store.specs.SharedEdits.{edit_of, made_edits}
use Rattle.repo_store.proofs.lists.Lists.edit_each.Given as goal

abbrev pub invariant-edits : goal.invariant-edits
invariant-edits l = record {
  edited : l.self.kept ≡ all_edited (take l.at l.edits) l.fn.self.kept;
  made : map edit_of l.made.items ≡ made_edits (take l.at l.edits) l.fn.self.kept;
  editable : AreEditable (take l.at l.edits) l.fn.self.kept;
}
