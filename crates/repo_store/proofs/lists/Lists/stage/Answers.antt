use Rattle.std.proofs.Common.{◌≡◌, refl, ap, sym, subst, ◌∙◌, arith}
use borrow.Author.Tests.{ltb-true}
use Rattle.std.proofs.lemmas.Bool.{and_parts}
use Rattle.hook_base.specs.declared.file.FileEntry.{FileEntry}
use Rattle.hook_base.specs.Trees.{put_file}
use Rattle.repo_store.specs.Kept.{Mirror, Kept}
use Rattle.store_faults.specs.Limits.{Fits, path_bytes}
use Rattle.repo_store.specs.Lists.{repository_of}
use Rattle.repo_store.specs.Repository.{with_staged_file}
use Rattle.repo_store.specs.Sound.{IsSound}
use Rattle.repo_store.proofs.SoundLemmas.{sound_staged}
use Rattle.repo_store.proofs.lists.Lists.stage.Goals as goal

pub put_file-added-requires : goal.put_file-added-requires
put_file-added-requires c =
    let room = ap (λ (m : Mirror). m.has_room) c.self.view_is ∙ c.requires.room in
    record { rising = c.self.invariant.sound.staged_rise; room = ltb-true _ _ (and_parts _ _ room).1 }

pub invariant_of-self : goal.invariant_of-self
invariant_of-self c =
    let inside = c.self.inside in
    let path = c.args.file.path in
    let entry : FileEntry = record { mode = c.args.file.mode; bytes = c.args.file.content } in
    let repo = repository_of inside.history.items inside.staged.items inside.fixes.items in
    let fits = subst (λ (m : Mirror). Fits (put_file path entry m.kept.repo.staged)) (sym c.self.view_is) c.requires.fits in
    let same : with_staged_file path entry repo ≡ repository_of inside.history.items c.put_file-added.new.files.items c.clear.new.self.items =
    rw (c.put_file-added.ensures.files, c.clear.ensures.items) refl in
    let more = c.put_file-added.ensures.bytes in
    let counted = c.self.invariant.counted in
    record { sound = subst IsSound same (sound_staged path entry repo c.self.invariant.sound fits); counted = omega arith }

pub overflow_add-self : goal.overflow_add-self
overflow_add-self c =
    let entry : FileEntry = record { mode = c.args.file.mode; bytes = c.args.file.content } in
    let fits = subst (λ (m : Mirror). Fits (put_file c.args.file.path entry m.kept.repo.staged)) (sym c.self.view_is) c.requires.fits in
    let most = fits.paths_fit in
    let more = c.put_file-added.ensures.bytes in
    let put = ap path_bytes c.put_file-added.ensures.files in
    let counted = c.self.invariant.counted in
    omega arith

pub returns : goal.returns
returns c =
    let entry : FileEntry = record { mode = c.args.file.mode; bytes = c.args.file.content } in
    let after : Mirror → Kept = λ m. record m.kept { repo = with_staged_file c.args.file.path entry m.kept.repo } in
    rw (c.put_file-added.ensures.files, c.clear.ensures.items) (ap after c.self.view_is)
