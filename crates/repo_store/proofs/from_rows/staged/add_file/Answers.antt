use Rattle.std.proofs.Common.{ℕ, List, [], ◌∷◌, map, refl, sym, ap, subst, ◌∙◌}
use Rattle.std.specs.List.{AllByRecursion}
use Rattle.std.proofs.lemmas.List.{map-append}
use Rattle.hook_base.specs.declared.file.File.{File}
use Rattle.hook_base.specs.Rising.{IsBelow, IsRisingBy}
use Rattle.hook_base.specs.Trees.{path_of}
use Rattle.repo_store.specs.Lists.{file_of}
use Rattle.repo_store.proofs.FromRowsLemmas.{rising_pushed}
use Rattle.repo_store.proofs.from_rows.staged.add_file.Goals as goal

pub returns-clause-rising : goal.returns-clause-rising
returns-clause-rising c =
    let old = c.args.files.now.items in
    let pushed = ap (map file_of) c.in_ok-push.ensures.items ∙ map-append file_of old (c.args.file ∷ []) in
    let follows =
    subst (λ l. AllByRecursion (λ y. IsBelow (path_of y) c.args.file.path) (map file_of l)) c.as_slice.ensures.value
    (subst (λ (p : List ℕ). AllByRecursion (λ (file : File). IsBelow file.path p) (map file_of c.as_slice.result.now)) c.path.ensures (c.if-not-follows_files.ensures refl)) in
    subst (IsRisingBy path_of) (sym pushed) (rising_pushed path_of (map file_of old) (file_of c.args.file) c.requires follows)
