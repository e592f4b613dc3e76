use Rattle.std.proofs.Common.{◌∙◌, ℕ, List, sym, ap}
use denote.Ref.{Bor}
use Rattle.std.proofs.lemmas.List.Filters.{dedup_is}
use Rattle.std.proofs.lemmas.List.Kept.{IsStrictlySortedBy-dedup}
use Rattle.std.proofs.lemmas.List.Sorted.{list_any-IsPermutation}
use Rattle.std.specs.Cmp.Lexicographic.{on_texts, texts_ties, bytes_decides}
use Rattle.std.specs.Str.{bytes_eq}
use Rattle.file_tags.specs.PathOrderLemmas.{rising-of_sorted, is_among-texts_of, list_any-dedup}
use Rattle.path_select.proofs.sorted_paths.sort_paths.Goals as goal

pub returns-clause-rising : goal.returns-clause-rising
returns-clause-rising c =
    rw (dedup_is _ _ _ c.dedup.ensures.filtered) (rising-of_sorted _ (IsStrictlySortedBy-dedup (on_texts (λ x. x.now)) (λ x y. texts_ties x.now y.now) _ c.sort_unstable.ensures.sorted))

pub returns-clause-same : goal.returns-clause-same
returns-clause-same c =
    rw (dedup_is _ _ _ c.dedup.ensures.filtered) (λ path.
    is_among-texts_of path _
    ∙ list_any-dedup {X = Bor (List ℕ)} _ (λ other. bytes_eq other.now path) (λ x y e. ap (λ p. bytes_eq p path) ((bytes_decides x.now y.now).0 e)) _
    ∙ sym (list_any-IsPermutation {K = Bor (List ℕ)} (λ other. bytes_eq other.now path) _ _ c.sort_unstable.ensures.permutation)
    ∙ sym (is_among-texts_of path _))
