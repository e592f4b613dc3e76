use Rattle.std.proofs.Common.{sym}
use Rattle.file_tags.proofs.CutLemmas.{extension_of_cut, no_extension_of_cut, no_extension_of_whole}
use Rattle.file_tags.proofs.cuts.extension_of.Goals as goal
use Rattle.file_tags.proofs.cuts.extension_of.Goals.{in_default-via-in-Some+else-has_other_than_dots, in_default-via-in_default}

pub returns-in-Some : goal.returns-in-Some
returns-in-Some c = sym (extension_of_cut c.args.name.now _ _ c.in-Some.ensures (cc))

pub returns-in_default : goal.returns-in_default
returns-in_default c =
    elim c.in_default.branch [
      | in_default-via-in-Some+else-has_other_than_dots w ↦ sym (no_extension_of_cut c.args.name.now _ _ w.in-Some.ensures (cc))
      | in_default-via-in_default w ↦ sym (no_extension_of_whole c.args.name.now w.in_default.ensures)
    ]
