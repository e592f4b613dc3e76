use Rattle.std.proofs.Common.{[], ◌∷◌, map, sym, ap, ◌∙◌}
use Rattle.hook_base.specs.declared.file.File.{File}
use Rattle.hook_base.specs.Trees.{apply_changes}
use Rattle.repo_store.specs.Lists.{file_of, fix_of}
use Rattle.repo_store.proofs.FixedLemmas.{pushed, written}
use Rattle.repo_store.proofs.fixed_files.push_fixed.Goals as goal

pub returns-in_ok-push-in-Some : goal.returns-in_ok-push-in-Some
returns-in_ok-push-in-Some c =
    let file = file_of c.args.file.now in
    let fix = fix_of c.in-Some.fix.now in
    let out =
    (c.in-Some.ensures).found file (sym c.path.ensures) ∙ written file fix c.in-Some-now.content ((c.in-Some.ensures).same ∙ c.path.ensures) c.in-Some-now.is
    ∙ ap (λ (f : File). f ∷ []) (sym (c.in_ok-with_content-in-Some.ensures)) in
    pushed c.args.made.now.items c.push.new.self.items c.in_ok-with_content-in-Some.field-0 (apply_changes (map fix_of c.args.fixes.now) (file ∷ [])) ((c.in_ok-push-in-Some.ensures).items) out
