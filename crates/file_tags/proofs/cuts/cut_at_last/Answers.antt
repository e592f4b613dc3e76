use Rattle.file_tags.proofs.CutLemmas.{cut_at_last_is}
use Rattle.file_tags.proofs.cuts.cut_at_last.Goals as goal

pub returns : goal.returns
returns c = cut_at_last_is c.args.mark c.args.text.now _ c.rsplit_once.ensures.cases c.requires
