use Rattle.std.proofs.Common.{map}
use Rattle.repo_store.specs.Accepted.{files_with_fix}
use Rattle.repo_store.specs.Lists.{file_of, fix_of}
use Rattle.repo_store.proofs.FewLemmas.{all_found, more_found}
use Rattle.repo_store.proofs.few_fixes.files_with_fix.Goals as goal

pub fixes-preserved : goal.fixes-preserved
fixes-preserved c =
    let files = map file_of c.args.files.now in
    let fixes = c.args.fixes.now in
    more_found (map file_of c.fixes.found.items) (map file_of c.push_at.new.found.items) (files_with_fix (map fix_of fixes) files) files fixes c.fixes.fix-index c.fix-item.result c.fixes-test.true
    c.fix-item.is
    c.in_ok-push_at.ensures c.fixes.invariant

pub returns : goal.returns
returns c =
    let files = map file_of c.args.files.now in
    let fixes = c.args.fixes.now in
    all_found (map file_of c.fixes.found.items) (files_with_fix (map fix_of fixes) files) files fixes c.fixes.fix-index c.fixes-test.false c.fixes.invariant
