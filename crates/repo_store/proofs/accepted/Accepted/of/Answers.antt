use Rattle.std.proofs.Common.{◌≡◌, List, map, sym, ap, subst, ◌∙◌}
use Rattle.hook_base.specs.declared.file.File.{File}
use Rattle.hook_base.specs.Trees.{IsRising, apply_changes}
use Rattle.hook_base.specs.TreeLemmas.{IsRising-apply_changes}
use Rattle.repo_store.specs.Accepted.{HaveSameFixed, files_with_fix}
use Rattle.repo_store.specs.Lists.{file_of, fix_of}
use Rattle.repo_store.proofs.FewLemmas.{few_same, found_rise}
use Rattle.repo_store.proofs.accepted.Accepted.of.Goals as goal

pub with_fixes-requires-clause-files : goal.with_fixes-requires-clause-files
with_fixes-requires-clause-files c =
    let fixes = map fix_of c.args.fixes.now in
    let files = map file_of c.args.files.now in
    let found : map file_of c.as_slice.result.now ≡ files_with_fix fixes files = ap (map file_of) c.as_slice.ensures.value ∙ c.in_ok-found.ensures in
    subst (λ (l : List File). IsRising l) (sym found) (found_rise fixes files c.requires.fixes)

pub returns-then-are_few-clause-accepted : goal.returns-then-are_few-clause-accepted
returns-then-are_few-clause-accepted c =
    let fixes = map fix_of c.args.fixes.now in
    let files = map file_of c.args.files.now in
    let found : map file_of c.as_slice.result.now ≡ files_with_fix fixes files = ap (map file_of) c.as_slice.ensures.value ∙ c.in_ok-found.ensures in
    let few : map file_of c.in_ok-few.few.items ≡ apply_changes fixes (files_with_fix fixes files) = c.in_ok-few.ensures ∙ ap (apply_changes fixes) found in
    subst (λ (l : List File). HaveSameFixed fixes l (apply_changes fixes files)) (sym few) (few_same fixes files c.requires.fixes)

pub returns-then-are_few-clause-rising : goal.returns-then-are_few-clause-rising
returns-then-are_few-clause-rising c =
    let fixes = map fix_of c.args.fixes.now in
    let files = map file_of c.args.files.now in
    let found : map file_of c.as_slice.result.now ≡ files_with_fix fixes files = ap (map file_of) c.as_slice.ensures.value ∙ c.in_ok-found.ensures in
    let few : map file_of c.in_ok-few.few.items ≡ apply_changes fixes (files_with_fix fixes files) = c.in_ok-few.ensures ∙ ap (apply_changes fixes) found in
    subst (λ (l : List File). IsRising l) (sym few) (IsRising-apply_changes fixes (files_with_fix fixes files) (found_rise fixes files c.requires.fixes))

pub returns-clause-rising : goal.returns-clause-rising
returns-clause-rising c =
    let fixes = map fix_of c.args.fixes.now in
    let files = map file_of c.args.files.now in
    subst (λ (l : List File). IsRising l) (sym c.in_ok-all.ensures) (IsRising-apply_changes fixes files c.requires.files)
