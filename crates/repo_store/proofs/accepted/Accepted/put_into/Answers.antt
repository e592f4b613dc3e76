use Rattle.std.proofs.Common.{◌≡◌, map, ap, subst, ◌∙◌, arith}
use Rattle.hook_base.specs.Trees.{apply_changes}
use Rattle.repo_store.specs.Accepted.{HasAcceptedFiles}
use Rattle.repo_store.specs.declared.accepted.Accepted.{Accepted}
use Rattle.store_faults.specs.Limits.{path_bytes}
use Rattle.repo_store.specs.Lists.{file_of, fix_of}
use Rattle.repo_store.proofs.PlaceLemmas.{fits_applied}
use Rattle.repo_store.proofs.accepted.Accepted.put_into.Goals as goal

pub count_path_bytes-bytes-requires : goal.count_path_bytes-bytes-requires
count_path_bytes-bytes-requires c =
    let fixes = map fix_of c.args.fixes.now in
    let files = map file_of c.args.files.now.items in
    let most = (fits_applied fixes files c.requires.fits).paths_fit in
    let all : map file_of c.in-All.all.items ≡ apply_changes fixes files = subst (λ (a : Accepted). HasAcceptedFiles fixes files a) c.in-All.is c.requires.accepted in
    let same = ap path_bytes (ap (map file_of) c.as_slice.ensures.value ∙ all) in
    omega arith
