use Rattle.std.proofs.Common.{◌∙◌, ap, add-one, sym, suc, drop}
use Rattle.named_files.specs.NamedPaths.{with_paths}
use Rattle.hookhost.specs.UnstagedWords.{staged_beginning}
use Rattle.hookhost.proofs.UnstagedWordLemmas.{from-next, none-from, one-from}
use Rattle.hookhost.proofs.unstaged_words.with_below.Goals as goal

pub returns-in-None : goal.returns-in-None
returns-in-None g c =
    sym (ap (with_paths c.files.named) (none-from c.args.beginning.now c.args.store.now.kept.repo.staged c.files.index
    c.in-None.ensures.rising c.files.invariant.others (sym c.in-None.ensures.path)))
    ∙ c.files.invariant.left

pub files-preserved : goal.files-preserved
files-preserved g c =
    let staged = c.args.store.now.kept.repo.staged in
    let beginning = c.args.beginning.now in
    record {
      others = rw (add-one c.files.index) (from-next beginning staged c.files.index c.files.invariant.others);
      left = rw (add-one c.files.index)
          (ap (λ named. with_paths named (staged_beginning (drop (suc c.files.index) staged) beginning)) c.in_ok-named-in-Some.ensures
          ∙ ap (with_paths c.files.named) (sym (one-from beginning staged c.files.index c.in-Some.path.now (sym c.in-Some.ensures.path)))
          ∙ c.files.invariant.left);
    }
