use Rattle.std.proofs.Common.{map}
use Rattle.repo_store.specs.Lists.{file_of}
use Rattle.repo_store.proofs.SameRowLemmas.{entries_parts, opposite, same_from_digests}
use Rattle.repo_store.proofs.differences.differ_at.Goals as goal

pub returns-in-Some-Some : goal.returns-in-Some-Some
returns-in-Some-Some c = λ contents apart have also.
    let path = c.args.path.now in
    let files = map file_of c.args.files.now in
    let others = map file_of c.args.others.now in
    let file = c.in-Some-Some.file.now in
    let other = c.in-Some-Some.other.now in
    opposite c.is_same_entry.result
    (λ h.
    let parts = c.is_same_entry.ensures.0 h in
    same_from_digests contents path files others file other apart have also (c.in-Some-Some.ensures) (c.in-Some-Some.ensures') parts.0 parts.1)
    (λ same. c.is_same_entry.ensures.1 (entries_parts path files others file other (c.in-Some-Some.ensures) (c.in-Some-Some.ensures') same))
