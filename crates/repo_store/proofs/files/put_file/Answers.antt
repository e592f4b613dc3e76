use Rattle.std.proofs.Common.{ℕ, length, map, ap, subst, ◌∙◌, List, arith}
use Rattle.std.proofs.lemmas.List.{length-map}
use Rattle.hook_base.specs.Places.{IsAt, IsGap}
use Rattle.hook_base.specs.TreeLemmas.{at_within, gap_within}
use Rattle.repo_store.specs.Shared.{FileParts}
use Rattle.store_faults.specs.Limits.{path_bytes}
use Rattle.repo_store.specs.Lists.{file_of}
use Rattle.repo_store.proofs.PlaceLemmas.{bytes_at, held_set, held_insert, made_room, more_bytes}
use Rattle.repo_store.proofs.files.put_file.Goals as goal

pub index_mut-requires : goal.index_mut-requires
index_mut-requires c =
    let at =
    subst (λ (l : List FileParts). IsAt c.args.file.path (map file_of l) c.in-Ok.index) c.as_slice.ensures.value
    (subst (λ (p : List ℕ). IsAt p (map file_of c.as_slice.result.now) c.in-Ok.index) c.path.ensures c.in-Ok.ensures) in
    let within = at_within c.args.file.path (map file_of c.args.files.now.items) c.in-Ok.index at in
    omega (arith, length-map c.args.files.now.items file_of)

pub insert-done-requires : goal.insert-done-requires
insert-done-requires c =
    let gap =
    subst (λ (l : List FileParts). IsGap c.args.file.path (map file_of l) c.in-Err.index) c.as_slice.ensures.value
    (subst (λ (p : List ℕ). IsGap p (map file_of c.as_slice.result.now) c.in-Err.index) c.path.ensures c.in-Err.ensures) in
    let within = gap_within c.args.file.path (map file_of c.args.files.now.items) c.in-Err.index gap in
    omega (arith, length-map c.args.files.now.items file_of)

pub returns-in-Ok-clause-files : goal.returns-in-Ok-clause-files
returns-in-Ok-clause-files c =
    let at =
    subst (λ (l : List FileParts). IsAt c.args.file.path (map file_of l) c.in-Ok.index) c.as_slice.ensures.value
    (subst (λ (p : List ℕ). IsAt p (map file_of c.as_slice.result.now) c.in-Ok.index) c.path.ensures c.in-Ok.ensures) in
    held_set c.args.files.now.items c.in-Ok.index c.args.file at

pub returns-in-Ok-clause-bytes : goal.returns-in-Ok-clause-bytes
returns-in-Ok-clause-bytes c =
    let at =
    subst (λ (l : List FileParts). IsAt c.args.file.path (map file_of l) c.in-Ok.index) c.as_slice.ensures.value
    (subst (λ (p : List ℕ). IsAt p (map file_of c.as_slice.result.now) c.in-Ok.index) c.path.ensures c.in-Ok.ensures) in
    let same = ap path_bytes (held_set c.args.files.now.items c.in-Ok.index c.args.file at) ∙ bytes_at (file_of c.args.file) (map file_of c.args.files.now.items) c.in-Ok.index at in
    omega arith

pub returns-in-Err-clause-files : goal.returns-in-Err-clause-files
returns-in-Err-clause-files c =
    let gap =
    subst (λ (l : List FileParts). IsGap c.args.file.path (map file_of l) c.in-Err.index) c.as_slice.ensures.value
    (subst (λ (p : List ℕ). IsGap p (map file_of c.as_slice.result.now) c.in-Err.index) c.path.ensures c.in-Err.ensures) in
    ap (map file_of) (made_room c.insert-done.result _ _ c.insert-done.new.self.items _ _ c.insert-done.ensures.full c.requires.room c.insert-done.ensures.items)
    ∙ held_insert c.args.files.now.items c.in-Err.index c.args.file gap

pub returns-in-Err-clause-bytes : goal.returns-in-Err-clause-bytes
returns-in-Err-clause-bytes c =
    let gap =
    subst (λ (l : List FileParts). IsGap c.args.file.path (map file_of l) c.in-Err.index) c.as_slice.ensures.value
    (subst (λ (p : List ℕ). IsGap p (map file_of c.as_slice.result.now) c.in-Err.index) c.path.ensures c.in-Err.ensures) in
    let files = ap (map file_of) (made_room c.insert-done.result _ _ c.insert-done.new.self.items _ _ c.insert-done.ensures.full c.requires.room c.insert-done.ensures.items)
    ∙ held_insert c.args.files.now.items c.in-Err.index c.args.file gap in
    let more = ap path_bytes files ∙ more_bytes (file_of c.args.file) (map file_of c.args.files.now.items) c.in-Err.index gap in
    let bytes = ap length (c.as_str-bytes.ensures.same ∙ c.path-in-Err.ensures) in
    omega arith
