use Rattle.std.proofs.Common.{◌≡◌, ℕ, List, [], sym, ap₂}
use Rattle.std.proofs.lemmas.List.{nil_from_length}
use Rattle.std.proofs.lemmas.List.Sorted.{length_permutation}
use Rattle.repo_store.specs.Answers.{KeptAnswer}
use Rattle.repo_store.specs.Repository.{Repository}
use Rattle.repo_store.proofs.laws.only_the_empty_store_is_like_it.Goals as goal

pub returns : goal.returns
returns c kept alike =
    let contents : kept.contents ≡ [] = nil_from_length kept.contents (length_permutation [] kept.contents alike.contents) in
    let answers : kept.answers ≡ [] = sym alike.answers in
    ap₂ (λ (repo : Repository) (lists : List (List ℕ) × (List KeptAnswer × ℕ)). record { repo = repo; contents = lists.0; answers = lists.1.0; limit = lists.1.1 }) (sym alike.repo)
    (ap₂ (λ (l : List (List ℕ)) (m : List KeptAnswer × ℕ). (l, m)) contents (ap₂ (λ (m : List KeptAnswer) (limit : ℕ). (m, limit)) answers (sym alike.limit)))
