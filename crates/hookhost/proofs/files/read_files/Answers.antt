use Rattle.std.proofs.Common.{◌∙◌, ap, sym, subst, append_assoc, List, [], ◌∷◌, ◌++◌}
use Rattle.std.specs.Vec.Iter.{into_iter_items}
use Rattle.hook_base.specs.declared.file.File.{File}
use Rattle.hookhost.specs.FileTrees.{AreFilesOf}
use Rattle.hookhost.proofs.FileTreeLemmas.{AreFilesOf-push}
use Rattle.hookhost.proofs.files.read_files.Goals as goal

pub words-preserved : goal.words-preserved
words-preserved g c =
    let before = c.words.yielded in
    let word = c.in-Some.word in
    record {
      left = append_assoc before (word ∷ []) (into_iter_items c.next.new.self)
          ∙ ap (λ l. before ++ l) (sym (c.in-Some.ensures.steps.0)) ∙ c.words.invariant.left;
      files = subst (λ (files : List File). AreFilesOf (before ++ word ∷ []) files) (sym c.in_ok-push.ensures.items)
          (AreFilesOf-push before c.words.files.items word c.in_ok-read_plain_file.field-0 c.words.invariant.files c.in_ok-read_plain_file.ensures.file);
    }
