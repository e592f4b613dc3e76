use Rattle.std.proofs.Common.{◌||◌, ◌∙◌, ◌+◌, ap, take}
use Rattle.std.specs.Str.{bytes_eq}
use Rattle.child_port.specs.Seen.{is_seen_path, plain_word}
use Rattle.child_port.proofs.IndexLemmas.{indexes_as, more_marks}
use Rattle.child_port.proofs.seen_indexes.seen_indexes.Goals as goal

pub words-preserved : goal.words-preserved
words-preserved c =
    let i = c.words.word-index in
    let path = c.plain_word.result.now in
    let plain = c.plain_word.ensures ∙ ap plain_word (c.as_str.ensures ∙ c.word-item.is) in
    let more = more_marks c.args.words.now c.args.extra.now i c.word-item.result path c.args.tree.now c.words-test.true plain in
    let held = c.in_ok-near.ensures (is_seen_path (take i c.args.words.now) c.args.extra.now) c.words.invariant in
    indexes_as (λ other. is_seen_path (take i c.args.words.now) c.args.extra.now other || bytes_eq path other) (is_seen_path (take (i + 1) c.args.words.now) c.args.extra.now) c.args.tree.now
    c.push_index.new.indexes.items more held
