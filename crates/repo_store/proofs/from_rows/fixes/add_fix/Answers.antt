use Rattle.std.proofs.Common.{List, ℕ, [], ◌∷◌, map, refl, sym, ap, subst, ◌∙◌}
use Rattle.std.specs.List.{AllByRecursion}
use Rattle.std.proofs.lemmas.List.{map-append}
use Rattle.hook_base.specs.Rising.{IsBelow, IsRisingBy}
use Rattle.hook_base.specs.declared.change.Change.{Change}
use Rattle.repo_store.specs.Lists.{fix_of}
use Rattle.repo_store.proofs.FromRowsLemmas.{rising_pushed}
use Rattle.repo_store.proofs.from_rows.fixes.add_fix.Goals as goal

abbrev change_path : Change → List ℕ
change_path change = change.path

pub returns-clause-rising : goal.returns-clause-rising
returns-clause-rising c =
    let old = c.args.fixes.now.items in
    let pushed = ap (map fix_of) c.in_ok-push.ensures.items ∙ map-append fix_of old (c.args.fix ∷ []) in
    let follows = subst (λ l. AllByRecursion (λ y. IsBelow (change_path y) c.args.fix.path) (map fix_of l)) c.as_slice.ensures.value (c.if-not-follows_fixes.ensures refl) in
    subst (IsRisingBy change_path) (sym pushed) (rising_pushed change_path (map fix_of old) (fix_of c.args.fix) c.requires follows)
