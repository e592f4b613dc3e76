use Rattle.file_tags.proofs.ChangedLemmas.{changed_at}
use Rattle.file_tags.proofs.kept_tags.KeptTags.follow.Goals as goal

pub tags_after-requires-clause-changed : goal.tags_after-requires-clause-changed
tags_after-requires-clause-changed c =
    rw c.as_slice-2.ensures.value (changed_at c.args.changes.now _ c.args.old.now c.args.new.now c.requires.applied c.in_ok-paths.ensures.same)
