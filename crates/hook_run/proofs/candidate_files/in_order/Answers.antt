use Rattle.std.proofs.Common.{◌∙◌, ap, sym, ℕ, List}
use Rattle.std.proofs.lemmas.List.Sorted.{list_any-IsPermutation}
use Rattle.std.specs.Str.{bytes_eq}
use Rattle.file_tags.specs.PathOrderLemmas.{is_among-texts_of}
use Rattle.path_select.specs.Candidates.{is_candidate}
use Rattle.hook_run.proofs.candidate_files.in_order.Goals as goal
use denote.Ref.{Bor}

pub returns : goal.returns
returns c = λ path.
    is_among-texts_of path _
    ∙ sym (list_any-IsPermutation {K = Bor (List ℕ)} (λ other. bytes_eq other.now path) _ _ c.sort_unstable.ensures.permutation)
    ∙ sym (is_among-texts_of path _)
    ∙ ap (λ (paths : List (List ℕ)). is_candidate paths path) c.in_ok-ordered.ensures
