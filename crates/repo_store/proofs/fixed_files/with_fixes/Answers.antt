use Rattle.std.proofs.Common.{◌≡◌, ℕ, ◌++◌, ◌+◌, List, ◌∷◌, map, drop, sym, ap, subst, ◌∙◌}
use Rattle.hook_base.specs.declared.file.File.{File}
use Rattle.hook_base.specs.Rising.{IsBelow, IsBelowAll}
use Rattle.hook_base.specs.Trees.{IsRising, apply_changes, path_of}
use Rattle.repo_store.specs.Lists.{file_of, fix_of}
use Rattle.repo_store.proofs.FixedLemmas.{below_first, next_file, rising_from, walked, walked_all}
use Rattle.repo_store.proofs.fixed_files.with_fixes.Goals as goal

pub files-preserved : goal.files-preserved
files-preserved c =
    let items = c.args.files.now in
    let i = c.files.file-index in
    let file = c.file-item.result in
    let made = map file_of c.files.made.items in
    let all = apply_changes (map fix_of c.args.fixes.now) (map file_of items) in
    let rest = map file_of (drop (i + 1) items) in
    let left = map fix_of c.files.left.now in
    let after = map fix_of c.from_path-left.result.now in
    let next : map file_of (drop i items) ≡ file_of file ∷ rest = ap (map file_of) (next_file items i file c.files-test.true c.file-item.is) in
    let rising : IsRising (file_of file ∷ rest) = subst (λ (l : List File). IsRising l) next (rising_from i items c.requires.files) in
    let so_far = subst (λ (l : List File). made ++ apply_changes left l ≡ all) next c.files.invariant.walked in
    let same =
    c.from_path-left.ensures.same (file_of file ∷ rest) (subst (λ (p : List ℕ). (earlier : List ℕ) → IsBelow earlier p → IsBelowAll path_of earlier (file_of file ∷ rest)) (sym c.path.ensures)
    (below_first (file_of file) rest rising)) in
    record {
      rising = c.from_path-left.ensures.rising;
      walked = ap (λ (l : List File). l ++ apply_changes after rest) (c.in_ok-push_fixed.ensures) ∙ walked made all (file_of file) rest left after so_far same;
    }

pub returns : goal.returns
returns c =
    let over = c.files-test.false in
    walked_all (map file_of c.files.made.items) (apply_changes (map fix_of c.args.fixes.now) (map file_of c.args.files.now)) c.args.files.now (map fix_of c.files.left.now) c.files.file-index over
    c.files.invariant.walked
