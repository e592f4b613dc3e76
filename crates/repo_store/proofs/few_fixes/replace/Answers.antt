use Rattle.std.proofs.Common.{ℕ, List, IsTrue, false, Option, is_some, map, ap, subst, ◌∙◌, arith}
use Rattle.hook_base.specs.declared.file.FileEntry.{FileEntry}
use Rattle.hook_base.specs.Places.{IsAt, IsGap}
use Rattle.hook_base.specs.TreeLemmas.{entry_of-gap}
use Rattle.repo_store.specs.Shared.{FileParts}
use Rattle.store_faults.specs.Limits.{path_bytes}
use Rattle.repo_store.specs.Lists.{file_of}
use Rattle.repo_store.proofs.FewLemmas.{within_held}
use Rattle.repo_store.proofs.PlaceLemmas.{bytes_at, held_set}
use Rattle.repo_store.proofs.few_fixes.replace.Goals as goal

pub index_mut-requires : goal.index_mut-requires
index_mut-requires c =
    let at =
    subst (λ (l : List FileParts). IsAt c.args.file.path (map file_of l) c.in-Ok.index) c.as_slice.ensures.value
    (subst (λ (p : List ℕ). IsAt p (map file_of c.as_slice.result.now) c.in-Ok.index) c.path.ensures c.in-Ok.ensures) in
    let within = within_held c.args.file.path c.args.files.now.items c.in-Ok.index at in
    omega arith

pub returns-in-Ok-clause-files : goal.returns-in-Ok-clause-files
returns-in-Ok-clause-files c =
    let at =
    subst (λ (l : List FileParts). IsAt c.args.file.path (map file_of l) c.in-Ok.index) c.as_slice.ensures.value
    (subst (λ (p : List ℕ). IsAt p (map file_of c.as_slice.result.now) c.in-Ok.index) c.path.ensures c.in-Ok.ensures) in
    held_set c.args.files.now.items c.in-Ok.index c.args.file at

pub returns-in-Ok-clause-bytes : goal.returns-in-Ok-clause-bytes
returns-in-Ok-clause-bytes c =
    let at =
    subst (λ (l : List FileParts). IsAt c.args.file.path (map file_of l) c.in-Ok.index) c.as_slice.ensures.value
    (subst (λ (p : List ℕ). IsAt p (map file_of c.as_slice.result.now) c.in-Ok.index) c.path.ensures c.in-Ok.ensures) in
    ap path_bytes (held_set c.args.files.now.items c.in-Ok.index c.args.file at) ∙ bytes_at (file_of c.args.file) (map file_of c.args.files.now.items) c.in-Ok.index at

pub returns-in_default-clause-files : goal.returns-in_default-clause-files
returns-in_default-clause-files c =
    let gap =
    subst (λ (l : List FileParts). IsGap c.args.file.path (map file_of l) c.in_default.field-0) c.as_slice.ensures.value
    (subst (λ (p : List ℕ). IsGap p (map file_of c.as_slice.result.now) c.in_default.field-0) c.path.ensures c.in_default.ensures) in
    let none = entry_of-gap c.args.file.path (map file_of c.args.files.now.items) c.in_default.field-0 gap in
    absurd (let never : IsTrue false = subst (λ (o : Option FileEntry). IsTrue (is_some o)) none c.requires.there in cc)
