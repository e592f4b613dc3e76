use Rattle.std.proofs.Common.{List, map, sym, subst, ◌∙◌}
use Rattle.std.proofs.lemmas.List.{take_rest}
use Rattle.hook_base.specs.Rising.{IsBelow}
use Rattle.hook_base.specs.Trees.{IsRisingChanges}
use Rattle.repo_store.specs.declared.shared.SharedFix.{SharedFix}
use Rattle.repo_store.specs.Lists.{fix_of}
use Rattle.repo_store.proofs.FixedLemmas.{SameFrom, rest_rises, rest_same}
use Rattle.repo_store.proofs.fixed_files.from_path.Goals as goal

pub earlier-preserved : goal.earlier-preserved
earlier-preserved c =
    let left = c.earlier.left.now in
    let fix = c.fix-item.result in
    let path = c.args.path.now in
    let fixes = map fix_of c.args.fixes.now in
    let below : IsBelow fix.path path = record { is_less = sym c.cmp.ensures ∙ c.in-Less.is } in
    record {
      rising = subst (λ (l : List SharedFix). IsRisingChanges (map fix_of l)) (sym (take_rest left 1)) (rest_rises left fix c.in-len1-up.len_at_least c.fix-item.is c.earlier.invariant.rising);
      same =
          subst (λ (l : List SharedFix). SameFrom fixes (map fix_of l) path) (sym (take_rest left 1))
          (rest_same left fix c.in-len1-up.len_at_least c.fix-item.is fixes path below c.earlier.invariant.same);
    }
