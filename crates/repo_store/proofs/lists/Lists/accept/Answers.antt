use Rattle.std.proofs.Common.{◌≡◌, List, map, refl, sym, ap, subst, ◌∙◌}
use Rattle.hook_base.specs.Trees.{apply_changes}
use Rattle.repo_store.specs.declared.shared.SharedFix.{SharedFix}
use Rattle.repo_store.specs.Lists.{repository_of, file_of, fix_of}
use Rattle.repo_store.specs.Repository.{accepted}
use Rattle.repo_store.specs.Sound.{IsSound}
use Rattle.repo_store.proofs.SoundLemmas.{sound_accepted}
use Rattle.repo_store.proofs.lists.Lists.accept.Goals as goal

pub invariant_of-self : goal.invariant_of-self
invariant_of-self c =
    let inside = c.self.inside in
    let repo = repository_of inside.history.items inside.staged.items inside.fixes.items in
    let new = c.put_into-staged_bytes.new.files.items in
    let files : map file_of new ≡ apply_changes repo.fixes repo.staged =
    c.put_into-staged_bytes.ensures.files ∙ ap (λ (l : List SharedFix). apply_changes (map fix_of l) repo.staged) c.as_slice-fixes.ensures.value in
    let same : repository_of inside.history.items new c.clear.new.self.items ≡ accepted repo = rw (files, c.clear.ensures.items) refl in
    record { sound = subst IsSound (sym same) (sound_accepted repo c.self.invariant.sound); counted = c.put_into-staged_bytes.ensures.counted }
