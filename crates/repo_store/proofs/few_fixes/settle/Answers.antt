use Rattle.std.proofs.Common.{ℕ, List, IsTrue, is_some, map, sym, ap, subst, ◌∙◌, arith}
use Rattle.hook_base.specs.declared.file.File.{File}
use Rattle.hook_base.specs.Places.{IsAt, IsGap}
use Rattle.hook_base.specs.Trees.{entry_of, put_row}
use Rattle.hook_base.specs.TreeLemmas.{entry_of-gap, remove_file-gap}
use Rattle.repo_store.specs.Shared.{FileParts}
use Rattle.repo_store.specs.Lists.{entry_in, file_of}
use Rattle.repo_store.proofs.FewLemmas.{gone, held_at, named, put_fixed, was_there, within_held}
use Rattle.repo_store.proofs.PlaceLemmas.{held_remove}
use Rattle.repo_store.proofs.few_fixes.settle.Goals as goal

pub remove-requires : goal.remove-requires
remove-requires c =
    let at = subst (λ (l : List FileParts). IsAt c.args.fix.now.path (map file_of l) c.in-Ok.index) c.as_slice.ensures.value c.in-Ok.ensures in
    let within = within_held c.args.fix.now.path c.args.fixed.now.items c.in-Ok.index at in
    omega arith

pub replace-requires-clause-there : goal.replace-requires-clause-there
replace-requires-clause-there c =
    let fix = c.args.fix.now in
    let files = map file_of c.args.files.now.items in
    let file = c.remove.result in
    let at = subst (λ (l : List FileParts). IsAt fix.path (map file_of l) c.in-Ok.index) c.as_slice.ensures.value c.in-Ok.ensures in
    let both = held_at fix.path c.args.fixed.now.items c.in-Ok.index file at c.remove.ensures.value in
    subst (λ (p : List ℕ). IsTrue (is_some (entry_of p files))) both.0 (was_there fix.path fix.now files (entry_in file) (sym c.requires.same ∙ both.1))

pub returns-in-Ok-clause-files : goal.returns-in-Ok-clause-files
returns-in-Ok-clause-files c =
    let fix = c.args.fix.now in
    let files = map file_of c.args.files.now.items in
    let file = c.remove.result in
    let at = subst (λ (l : List FileParts). IsAt fix.path (map file_of l) c.in-Ok.index) c.as_slice.ensures.value c.in-Ok.ensures in
    let both = held_at fix.path c.args.fixed.now.items c.in-Ok.index file at c.remove.ensures.value in
    c.replace.ensures.files ∙ ap (λ (f : File). put_row f files) (sym (named fix.path file both.0))
    ∙ put_fixed fix.path fix.now files (entry_in file) c.requires.files_rise (sym c.requires.same ∙ both.1)

pub returns-in-Ok-clause-fixed : goal.returns-in-Ok-clause-fixed
returns-in-Ok-clause-fixed c =
    let at = subst (λ (l : List FileParts). IsAt c.args.fix.now.path (map file_of l) c.in-Ok.index) c.as_slice.ensures.value c.in-Ok.ensures in
    ap (map file_of) c.remove.ensures.items ∙ held_remove c.args.fixed.now.items c.in-Ok.index c.args.fix.now.path c.requires.fixed_rise at

pub returns-in-Err-clause-files : goal.returns-in-Err-clause-files
returns-in-Err-clause-files c =
    let fix = c.args.fix.now in
    let gap = subst (λ (l : List FileParts). IsGap fix.path (map file_of l) c.in-Err.field-0) c.as_slice.ensures.value c.in-Err.ensures in
    let none = entry_of-gap fix.path (map file_of c.args.fixed.now.items) c.in-Err.field-0 gap in
    c.take_out.ensures.files ∙ gone fix.path fix.now (map file_of c.args.files.now.items) (sym c.requires.same ∙ none)

pub returns-in-Err-clause-fixed : goal.returns-in-Err-clause-fixed
returns-in-Err-clause-fixed c =
    let gap = subst (λ (l : List FileParts). IsGap c.args.fix.now.path (map file_of l) c.in-Err.field-0) c.as_slice.ensures.value c.in-Err.ensures in
    sym (remove_file-gap c.args.fix.now.path (map file_of c.args.fixed.now.items) c.in-Err.field-0 gap)
