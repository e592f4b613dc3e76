use Rattle.std.proofs.Common.{◌∙◌, lit<}
use Rattle.std.proofs.lemmas.Iterator.Consumers.{YieldsList-end}
use Rattle.std.proofs.lemmas.Iterator.Splits.{YieldsList-from_str_split}
use Rattle.file_tags.specs.TagTables.{texts_of}
use Rattle.file_tags.proofs.WordLemmas.{words_more, words_all}
use Rattle.file_tags.proofs.first_line.words_of.Goals as goal

pub parts-preserved : goal.parts-preserved
parts-preserved c = words_more c.parts.yielded c.in-Some.part c.parts.words.items _ c.parts.invariant c.in_ok-push_words.ensures

pub returns : goal.returns
returns c =
    let all = YieldsList-end (YieldsList-from_str_split 32 c.args.line.now (lit< tt) (cc) (cc) (cc)) c.parts.yielded _ c.parts.yielded_by _ _ c.in-None.is c.next.ensures.steps in
    c.from.ensures ∙ words_all c.args.line.now (texts_of c.parts.yielded) c.parts.words.items c.parts.invariant all.0
