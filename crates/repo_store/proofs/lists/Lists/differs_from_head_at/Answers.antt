use Rattle.std.proofs.Common.{map, ap, ◌∙◌}
use Rattle.repo_store.specs.Kept.{Mirror}
use Rattle.repo_store.specs.Lists.{file_of}
use Rattle.repo_store.proofs.SameRowLemmas.{head_tells_at}
use Rattle.repo_store.proofs.lists.Lists.differs_from_head_at.Goals as goal

pub returns : goal.returns
returns c = λ complete.
    let here_is = ap (map file_of) c.as_slice.ensures.value ∙ ap (λ (m : Mirror). m.kept.repo.staged) c.self.view_is in
    head_tells_at c.args.self.now.kept (map file_of c.as_slice.result.now) (map file_of c.head_files.result.now) here_is c.head_files.ensures.files complete c.args.path.now c.differ_at.result
    c.differ_at.ensures
