use Rattle.std.proofs.Common.{◌∙◌, ap}
use Rattle.named_files.specs.NamedPaths.{with_paths}
use Rattle.hookhost.specs.UnstagedWords.{unstaged_by_word}
use Rattle.hookhost.proofs.UnstagedWordLemmas.{named-more}
use Rattle.hookhost.proofs.unstaged_words.unstaged_paths.Goals as goal

pub words-preserved : goal.words-preserved
words-preserved g c =
    let staged = c.args.store.now.kept.repo.staged in
    c.in_ok-named.ensures
    ∙ ap (λ named. with_paths named (unstaged_by_word staged c.as_str.result.now)) c.words.invariant
    ∙ named-more (unstaged_by_word staged) c.args.words.now c.words.word-index _ c.as_str.result.now c.words-test.true
    (c.as_str.ensures ∙ c.word-item.is)
