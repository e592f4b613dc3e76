use Rattle.std.proofs.Common.{string_bytes}
use Rattle.std.proofs.lemmas.List.{append-nil}
use Rattle.arg_partition.specs.WordsLaws.{words_end}
use Rattle.arg_partition.proofs.WordLemmas.{last_word_ends}
use Rattle.arg_partition.proofs.entry_words.Begun.ended.Goals as goal

pub returns-in-Between : goal.returns-in-Between
returns-in-Between c = rw (c.in-Between.is, words_end) (cc (append-nil c.args.self.words.items))

pub returns-in_ok-push-in-Bare : goal.returns-in_ok-push-in-Bare
returns-in_ok-push-in-Bare c =
    rw (c.in-Bare.is, last_word_ends) (cc (append-nil (string_bytes c.args.self.word), c.in_ok-push-in-Bare.ensures.items))
