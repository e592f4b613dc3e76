use Rattle.std.proofs.Common.{◌∷◌, [], ◌++◌, ◌∙◌, ap, sym, lit<}
use Rattle.std.specs.List.{filter}
use Rattle.std.proofs.lemmas.List.{append-nil}
use Rattle.std.proofs.lemmas.Iterator.Consumers.{YieldsList-end}
use Rattle.std.proofs.lemmas.Iterator.Splits.{YieldsList-from_str_split}
use Rattle.file_tags.specs.Shebangs.{is_shebang_word}
use Rattle.file_tags.proofs.WordLemmas.{word_more, no_word_more, word_is, no_word_is}
use Rattle.file_tags.proofs.first_line.push_words.Goals as goal

pub words-init : goal.words-init
words-init c = sym (append-nil c.args.words.now.items)

pub words-preserved-in_ok-push : goal.words-preserved-in_ok-push
words-preserved-in_ok-push c =
    word_more c.words.yielded c.in-Some.word c.args.words.now.items c.words.words.items _ c.words.invariant (word_is c.in-Some.word.now c.is_empty.result c.is_empty.ensures (cc))
    (c.in_ok-push.ensures.items ∙ ap (λ text. c.words.words.items ++ text ∷ []) c.in_ok-copy_of.ensures)

pub words-preserved : goal.words-preserved
words-preserved c =
    no_word_more c.words.yielded c.in-Some.word c.args.words.now.items c.words.words.items c.words.invariant (no_word_is c.in-Some.word.now c.is_empty.result c.is_empty.ensures (cc))

pub returns : goal.returns
returns c =
    let all = YieldsList-end (YieldsList-from_str_split 9 c.args.part.now (lit< tt) (cc) (cc) (cc)) c.words.yielded _ c.words.yielded_by _ _ c.in-None.is c.next.ensures.steps in
    c.words.invariant ∙ ap (λ parts. c.args.words.now.items ++ filter is_shebang_word parts) all.0
