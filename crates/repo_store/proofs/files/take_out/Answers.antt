use Rattle.std.proofs.Common.{length, map, ap, sym, subst, ◌∙◌, List, arith}
use Rattle.std.proofs.lemmas.List.{length-map}
use Rattle.hook_base.specs.Places.{IsAt, IsGap}
use Rattle.hook_base.specs.TreeLemmas.{at_within, remove_file-gap}
use Rattle.repo_store.specs.Shared.{FileParts}
use Rattle.store_faults.specs.Limits.{path_bytes}
use Rattle.repo_store.specs.Lists.{file_of}
use Rattle.repo_store.proofs.PlaceLemmas.{held_remove, less_bytes}
use Rattle.repo_store.proofs.files.take_out.Goals as goal

pub remove-requires : goal.remove-requires
remove-requires c =
    let at = subst (λ (l : List FileParts). IsAt c.args.path.now (map file_of l) c.in-Ok.index) c.as_slice.ensures.value c.in-Ok.ensures in
    let within = at_within c.args.path.now (map file_of c.args.files.now.items) c.in-Ok.index at in
    omega (arith, length-map c.args.files.now.items file_of)

pub returns-in-Ok-clause-files : goal.returns-in-Ok-clause-files
returns-in-Ok-clause-files c =
    let at = subst (λ (l : List FileParts). IsAt c.args.path.now (map file_of l) c.in-Ok.index) c.as_slice.ensures.value c.in-Ok.ensures in
    ap (map file_of) c.remove.ensures.items ∙ held_remove c.args.files.now.items c.in-Ok.index c.args.path.now c.requires at

pub returns-in-Ok-clause-bytes : goal.returns-in-Ok-clause-bytes
returns-in-Ok-clause-bytes c =
    let files = map file_of c.args.files.now.items in
    let at = subst (λ (l : List FileParts). IsAt c.args.path.now (map file_of l) c.in-Ok.index) c.as_slice.ensures.value c.in-Ok.ensures in
    let left = ap path_bytes (ap (map file_of) c.remove.ensures.items ∙ held_remove c.args.files.now.items c.in-Ok.index c.args.path.now c.requires at) in
    let less = less_bytes c.args.path.now files c.in-Ok.index (file_of c.remove.result) c.requires at in
    let len = ap length c.as_str.ensures.same in
    omega arith

pub returns-in-Err-clause-files : goal.returns-in-Err-clause-files
returns-in-Err-clause-files c =
    let gap = subst (λ (l : List FileParts). IsGap c.args.path.now (map file_of l) c.in-Err.field-0) c.as_slice.ensures.value c.in-Err.ensures in
    sym (remove_file-gap c.args.path.now (map file_of c.args.files.now.items) c.in-Err.field-0 gap)
