use Rattle.std.proofs.Common.{◌∙◌, sym}
use Rattle.repo_store.specs.FileRefs.{copied_file}
use Rattle.repo_store.specs.Repository.{last_tree}
use Rattle.repository_text.proofs.StatusLemmas.{both-equal, both-first, both-greater, both-less, both-over, both-second}
use Rattle.repository_text.proofs.status.next_of.Goals as goal

pub returns-in-None-None : goal.returns-in-None-None
returns-in-None-None g c =
    let repo = c.args.store.now.kept.repo in
    both-over repo.staged (last_tree repo.history) c.args.staged c.args.last (sym c.in-None-None.ensures.file) (sym c.in-None-None.ensures'.file)

pub returns-in-None-Some : goal.returns-in-None-Some
returns-in-None-Some g c =
    let repo = c.args.store.now.kept.repo in
    both-second repo.staged (last_tree repo.history) c.args.staged c.args.last (copied_file c.in-None-Some.file)
    (sym c.in-None-Some.ensures.file) (sym c.in-None-Some.ensures'.file)

pub returns-in-Some-None : goal.returns-in-Some-None
returns-in-Some-None g c =
    let repo = c.args.store.now.kept.repo in
    both-first repo.staged (last_tree repo.history) c.args.staged c.args.last (copied_file c.in-Some-None.file)
    (sym c.in-Some-None.ensures.file) (sym c.in-Some-None.ensures'.file)

pub returns-in-Less : goal.returns-in-Less
returns-in-Less g c =
    let repo = c.args.store.now.kept.repo in
    both-less repo.staged (last_tree repo.history) c.args.staged c.args.last (copied_file c.in-Some-Some.file) (copied_file c.in-Some-Some.other)
    (sym c.in-Some-Some.ensures.file) (sym c.in-Some-Some.ensures'.file) (sym c.cmp.ensures ∙ c.in-Less.is)

pub returns-in-Equal : goal.returns-in-Equal
returns-in-Equal g c =
    let repo = c.args.store.now.kept.repo in
    both-equal repo.staged (last_tree repo.history) c.args.staged c.args.last (copied_file c.in-Some-Some.file) (copied_file c.in-Some-Some.other)
    (sym c.in-Some-Some.ensures.file) (sym c.in-Some-Some.ensures'.file) (sym c.cmp.ensures ∙ c.in-Equal.is)

pub returns-in-Greater : goal.returns-in-Greater
returns-in-Greater g c =
    let repo = c.args.store.now.kept.repo in
    both-greater repo.staged (last_tree repo.history) c.args.staged c.args.last (copied_file c.in-Some-Some.file) (copied_file c.in-Some-Some.other)
    (sym c.in-Some-Some.ensures.file) (sym c.in-Some-Some.ensures'.file) (sym c.cmp.ensures ∙ c.in-Greater.is)
