use Rattle.std.proofs.Common.{◌∙◌, ◌++◌, ap, sym}
use Rattle.report_text.specs.Report.{line}
use Rattle.repo_store.specs.FileRefs.{copied_file}
use Rattle.repo_store.specs.Repository.{tree_at}
use Rattle.repository_text.specs.ShowText.{path_line}
use Rattle.repository_text.proofs.TextLemmas.{said-all, said-more}
use Rattle.repository_text.proofs.show.push_paths.Goals as goal

pub returns-in_default : goal.returns-in_default
returns-in_default g c =
    said-all path_line _ c.files.text.items (tree_at c.args.number c.args.store.now.kept.repo.history) c.files.index (sym c.in_default.ensures.file)
    c.files.invariant

pub files-preserved : goal.files-preserved
files-preserved g c =
    said-more path_line _ c.files.text.items c.push_line.new.report.items (tree_at c.args.number c.args.store.now.kept.repo.history) c.files.index
    (copied_file c.in-Some.file) (sym c.in-Some.ensures.file) c.files.invariant
    (c.in_ok-push_line.ensures.put ∙ ap (λ path. c.files.text.items ++ line path) (c.as_bytes.ensures.value ∙ c.as_str.ensures.same))
