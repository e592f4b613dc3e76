use Rattle.std.proofs.Common.{List, ℕ}
use Rattle.hook_base.specs.declared.change.Change.{Change}
use Rattle.repo_store.specs.Lists.{fix_of}
use Rattle.repo_store.proofs.FromRowsLemmas.{follows_mapped}
use Rattle.repo_store.proofs.from_rows.fixes.follows_fixes.Goals as goal

abbrev change_path : Change → List ℕ
change_path change = change.path

pub returns-in-len1-up : goal.returns-in-len1-up
returns-in-len1-up c h = follows_mapped fix_of change_path c.args.fixes.now c.last-item.result c.args.path.now c.requires c.last-item.is (c.is_after.ensures h)
