use Rattle.std.proofs.Common.{◌≡◌, ◌+◌, List, ◌∷◌, map, drop, sym, ap, subst, ◌∙◌, arith}
use Rattle.hook_base.specs.declared.change.Change.{Change}
use Rattle.hook_base.specs.declared.file.File.{File}
use Rattle.hook_base.specs.Trees.{IsRising, IsRisingChanges, apply_change, apply_changes}
use Rattle.hook_base.specs.TreeLemmas.{IsRising-apply_at, IsRising-remove_file}
use Rattle.repo_store.specs.Accepted.{HaveSameFixed}
use Rattle.repo_store.specs.Lists.{file_of, fix_of}
use Rattle.repo_store.proofs.FewLemmas.{first_fixed, rest_fixed}
use Rattle.repo_store.proofs.FixedLemmas.{next_file}
use Rattle.repo_store.proofs.few_fixes.settle_all.Goals as goal

pub settle-freed-requires-clause-same : goal.settle-freed-requires-clause-same
settle-freed-requires-clause-same c =
    let fixes = c.args.fixes.now in
    let i = c.fixes.fix-index in
    let fix = c.fix-item.result in
    let rest = map fix_of (drop (i + 1) fixes) in
    let files = map file_of c.fixes.files.items in
    let left = map file_of c.fixes.left.items in
    let next : map fix_of (drop i fixes) ≡ fix_of fix ∷ rest = ap (map fix_of) (next_file fixes i fix c.fixes-test.true c.fix-item.is) in
    let up = subst (λ (l : List Change). IsRisingChanges l) next c.fixes.invariant.fixes_rise in
    let same = subst (λ (l : List Change). HaveSameFixed l left (apply_changes l files)) next c.fixes.invariant.same in
    first_fixed (fix_of fix) rest left files up same

pub fixes-preserved : goal.fixes-preserved
fixes-preserved c =
    let fixes = c.args.fixes.now in
    let i = c.fixes.fix-index in
    let fix = c.fix-item.result in
    let rest = map fix_of (drop (i + 1) fixes) in
    let files = map file_of c.fixes.files.items in
    let left = map file_of c.fixes.left.items in
    let fewer = map file_of c.settle-freed.new.fixed.items in
    let next : map fix_of (drop i fixes) ≡ fix_of fix ∷ rest = ap (map fix_of) (next_file fixes i fix c.fixes-test.true c.fix-item.is) in
    let up = subst (λ (l : List Change). IsRisingChanges l) next c.fixes.invariant.fixes_rise in
    let same = subst (λ (l : List Change). HaveSameFixed l left (apply_changes l files)) next c.fixes.invariant.same in
    let settled = c.settle-freed.ensures.files in
    let so_far = c.fixes.invariant.bytes in
    let one = c.settle-freed.ensures.bytes in
    record {
      files_rise = subst (λ (l : List File). IsRising l) (sym settled) (IsRising-apply_at fix.path fix.now files c.fixes.invariant.files_rise);
      left_rise = subst (λ (l : List File). IsRising l) (sym c.settle-freed.ensures.fixed) (IsRising-remove_file fix.path left c.fixes.invariant.left_rise);
      fixes_rise = up.1;
      same = subst (λ (l : List File). HaveSameFixed rest fewer (apply_changes rest l)) (sym settled)
          (subst (λ (l : List File). HaveSameFixed rest l (apply_changes rest (apply_change (fix_of fix) files))) (sym c.settle-freed.ensures.fixed) (rest_fixed (fix_of fix) rest left files up same));
      applied = ap (apply_changes rest) settled ∙ ap (λ (l : List Change). apply_changes l files) (sym next) ∙ c.fixes.invariant.applied;
      bytes = omega arith;
    }
