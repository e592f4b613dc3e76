use Rattle.std.proofs.Common.{◌≡◌, ℕ, ◌<◌, List, [], ◌∷◌, ◌++◌, length, take, map, subst, sym, ◌∙◌, ap, ap₂, arith}
use Rattle.std.specs.List.{flat_map}
use Rattle.std.proofs.lemmas.List.{map-append, take_all, take_more}
use Rattle.std.proofs.lemmas.Option.{get_or_from_slice_get}
use Rattle.std.proofs.lemmas.Result.{err_from_is_err_and}
use Rattle.hook_base.specs.declared.file.File.{File}
use Rattle.store_faults.specs.declared.fault.StoreFault.TheVariants.{OutOfMemory}
use Rattle.repo_store.specs.KeptContents.{AreAllKept, IsStopped}
use Rattle.repo_store.specs.Lists.{file_of}
use Rattle.repo_store.proofs.ManyLemmas.{files_flat, kept_more, stopped_at, stopped_there}
use Rattle.repo_store.proofs.answer_contents.keep_files.Goals as goal

pub returns-in_err-file-clause-stopped : goal.returns-in_err-file-clause-stopped
returns-in_err-file-clause-stopped c =
    let all = c.args.seen.now in
    let old = c.args.contents.now in
    let new = c.keep_file.new.contents in
    let fault = c.in_err-file.field-0.0 in
    let file = c.shared.result.now in
    let within : c.files.index < length all = omega arith in
    let p = err_from_is_err_and c.from_residual.result c.from_residual.ensures.1 in
    rw (p.1, p.2) (subst (λ (l : List (List ℕ)). IsStopped l old new fault) (files_flat all)
    (stopped_at (λ (file : File). file.entry.bytes ∷ []) all c.files.index file within (get_or_from_slice_get all c.files.index file file c.shared.ensures.row) old c.files.contents
    c.files.invariant.kept new fault (c.in_err-file.ensures).stopped))

pub returns-in_err-push-clause-stopped : goal.returns-in_err-push-clause-stopped
returns-in_err-push-clause-stopped c =
    let all = c.args.seen.now in
    let old = c.args.contents.now in
    let new = c.keep_file.new.contents in
    let file = c.shared.result.now in
    let within : c.files.index < length all = omega arith in
    let p = err_from_is_err_and c.from_residual-in_err-push.result c.from_residual-in_err-push.ensures.1 in
    rw (p.1, p.2) (subst (λ (l : List (List ℕ)). IsStopped l old new OutOfMemory) (files_flat all)
    (stopped_there (λ (file : File). file.entry.bytes ∷ []) all c.files.index file within (get_or_from_slice_get all c.files.index file file c.shared.ensures.row) old c.files.contents
    c.files.invariant.kept new (c.in_ok-file.ensures).kept))

pub files-preserved : goal.files-preserved
files-preserved c =
    let all = c.args.seen.now in
    let i = c.files.index in
    let file = c.shared.result.now in
    let within : i < length all = omega arith in
    let is = get_or_from_slice_get all i file file c.shared.ensures.row in
    record {
      files =
          ap (map file_of) (c.in_ok-push.ensures).items ∙ map-append file_of c.files.files.items (c.in_ok-file.file ∷ [])
          ∙ ap₂ (λ (l : List File) (x : File). l ++ x ∷ []) c.files.invariant.files ((c.in_ok-file.ensures).file ∙ sym is)
          ∙ sym (take_more all i file within);
      kept = kept_more (λ (file : File). file.entry.bytes ∷ []) all i file within is c.args.contents.now c.files.contents c.files.invariant.kept c.keep_file.new.contents (c.in_ok-file.ensures).kept;
    }

pub returns-clause-kept : goal.returns-clause-kept
returns-clause-kept c =
    let all = c.args.seen.now in
    let last : take c.files.index all ≡ all = take_all c.files.index all (omega arith) in
    subst (λ (l : List (List ℕ)). AreAllKept l c.args.contents.now c.files.contents) (ap (flat_map (λ (file : File). file.entry.bytes ∷ [])) last ∙ files_flat all) c.files.invariant.kept
