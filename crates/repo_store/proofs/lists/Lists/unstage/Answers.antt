use Rattle.std.proofs.Common.{◌≡◌, refl, ap, sym, subst, arith}
use Rattle.repo_store.specs.Kept.{Mirror, Kept}
use Rattle.repo_store.specs.Lists.{repository_of}
use Rattle.repo_store.specs.Repository.{without_staged_file}
use Rattle.repo_store.specs.Sound.{IsSound}
use Rattle.repo_store.proofs.SoundLemmas.{sound_unstaged}
use Rattle.repo_store.proofs.lists.Lists.unstage.Goals as goal

pub invariant_of-self : goal.invariant_of-self
invariant_of-self c =
    let path = c.args.path.now in
    let inside = c.self.inside in
    let repo = repository_of inside.history.items inside.staged.items inside.fixes.items in
    let same : without_staged_file path repo ≡ repository_of inside.history.items c.take_out-freed.new.files.items c.clear.new.self.items =
    sym (rw (c.take_out-freed.ensures.files, c.clear.ensures.items) refl) in
    let less = c.take_out-freed.ensures.bytes in
    let counted = c.self.invariant.counted in
    record { sound = subst IsSound same (sound_unstaged path repo c.self.invariant.sound); counted = omega arith }

pub returns : goal.returns
returns c =
    let after : Mirror → Kept = λ m. record m.kept { repo = without_staged_file c.args.path.now m.kept.repo } in
    rw (c.take_out-freed.ensures.files, c.clear.ensures.items) (ap after c.self.view_is)
