use Rattle.std.proofs.Common.{◌∙◌, ap, ◌&&◌}
use Rattle.std.proofs.lemmas.Map.Views.{any-filter_same}
use Rattle.std.specs.Str.{bytes_eq}
use Rattle.std.specs.Cmp.Lexicographic.{bytes_decides}
use Rattle.hook_base.specs.RisingLemmas.{IsRisingBy-filter}
use Rattle.path_select.specs.Candidates.{passes, is_candidate, paths_of}
use Rattle.path_select.proofs.candidates.Candidates.passing.Goals as goal

pub invariant_of-result : goal.invariant_of-result
invariant_of-result c =
    rw c.in_ok-paths.ensures (IsRisingBy-filter (λ path. path) (passes c.args.files.now c.args.exclude.now) (paths_of c.in_ok-ordered.ordered.items) c.in_ok-ordered.ensures.rising)

pub returns : goal.returns
returns c = record {
  rising = rw c.in_ok-paths.ensures (IsRisingBy-filter (λ path. path) (passes c.args.files.now c.args.exclude.now) (paths_of c.in_ok-ordered.ordered.items) c.in_ok-ordered.ensures.rising);
  exact = λ path.
      let test = passes c.args.files.now c.args.exclude.now in
      ap (λ paths. is_candidate paths path) c.in_ok-paths.ensures
      ∙ any-filter_same (λ other. bytes_eq other path) test (test path) (λ other e. ap test ((bytes_decides other path).0 e)) (paths_of c.in_ok-ordered.ordered.items)
      ∙ ap (λ found. test path && found) (c.in_ok-ordered.ensures.same path);
}
