use Rattle.std.proofs.Common.{◌≡◌, ◌∙◌, sym, subst, List, ℕ, IfOk}
use Rattle.named_files.specs.NamedPaths.{with_paths}
use Rattle.hookhost.proofs.UnstagedWordLemmas.{IsSearched, folder-unstaged, itself-unstaged}
use Rattle.hookhost.proofs.unstaged_words.with_folder.Goals as goal

pub returns-in-Some : goal.returns-in-Some
returns-in-Some g c =
    let searched : IsSearched c.args.store.now.kept.repo.staged c.args.word.now c.as_str-head.result.now c.in_ok-first.first = record {
      is = c.as_str-head.ensures.value ∙ c.in_ok-beginning.ensures;
      before = c.in_ok-first.ensures.before;
      others = c.in_ok-first.ensures.others;
      rising = c.path_below_at.ensures.rising;
    } in
    subst (λ (paths : List (List ℕ)). IfOk c.with_below.result (λ more. more ≡ with_paths c.args.named paths))
    (sym (folder-unstaged c.args.store.now.kept.repo.staged c.args.word.now c.as_str-head.result.now c.in-Some._path.now c.in_ok-first.first searched
    (sym c.in-Some.ensures.path))) c.with_below.ensures

pub returns : goal.returns
returns g c =
    let searched : IsSearched c.args.store.now.kept.repo.staged c.args.word.now c.as_str-head.result.now c.in_ok-first.first = record {
      is = c.as_str-head.ensures.value ∙ c.in_ok-beginning.ensures;
      before = c.in_ok-first.ensures.before;
      others = c.in_ok-first.ensures.others;
      rising = c.path_below_at.ensures.rising;
    } in
    subst (λ (paths : List (List ℕ)). IfOk c.with_itself.result (λ more. more ≡ with_paths c.args.named paths))
    (sym (itself-unstaged c.args.store.now.kept.repo.staged c.args.word.now c.as_str-head.result.now c.in_ok-first.first searched
    (sym c.in-None.ensures.path))) c.with_itself.ensures
