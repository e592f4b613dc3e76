use Rattle.std.proofs.Common.{◌≤◌, List, length, sym, subst}
use Rattle.hook_base.specs.declared.change.Change.{Change}
use Rattle.hook_base.specs.Trees.{IsRisingChanges}
use Rattle.store_faults.specs.Limits.{most_files}
use Rattle.repo_store.proofs.SoundLemmas.{fixes_fit, fixes_rise}
use Rattle.repo_store.proofs.lists.Lists.prepare_fixes.Goals as goal

pub returns-in-Ok-clause-rising : goal.returns-in-Ok-clause-rising
returns-in-Ok-clause-rising c =
    subst (λ (l : List Change). IsRisingChanges l) (sym (c.in-Ok.ensures).fixes) (fixes_rise c.args.changes.now c.args.self.now.kept.repo c.requires)

pub returns-in-Ok-clause-few : goal.returns-in-Ok-clause-few
returns-in-Ok-clause-few c =
    subst (λ (l : List Change). length l ≤ most_files) (sym (c.in-Ok.ensures).fixes) (fixes_fit c.args.changes.now c.args.self.now.kept.repo c.share_fixes.ensures.sound c.requires)
