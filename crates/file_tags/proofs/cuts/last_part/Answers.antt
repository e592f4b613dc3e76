use Rattle.std.proofs.Common.{sym}
use Rattle.file_tags.proofs.CutLemmas.{last_part_of_cut, last_part_of_whole}
use Rattle.file_tags.proofs.cuts.last_part.Goals as goal

pub returns-in-Some : goal.returns-in-Some
returns-in-Some c = sym (last_part_of_cut 47 c.args.text.now _ _ c.in-Some.ensures)

pub returns-in-None : goal.returns-in-None
returns-in-None c = sym (last_part_of_whole 47 c.args.text.now c.in-None.ensures)
