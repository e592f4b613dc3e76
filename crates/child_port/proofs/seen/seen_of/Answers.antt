use Rattle.std.proofs.Common.{◌≡◌, ◌∙◌, rules, sym, subst, List, ℕ}
use Rattle.child_port.specs.Indexes.{AreIndexesOf, is_indexed}
use Rattle.child_port.specs.Seen.{is_seen_path, seen_of}
use Rattle.child_port.specs.SeenLemmas.{files_where}
use Rattle.hook_base.specs.declared.file.File.{File}
use Rattle.child_port.proofs.IndexLemmas.{indexes_sorted, same_files, where_ok}
use Rattle.child_port.proofs.seen.seen_of.Goals as goal

pub indexed_files-requires : goal.indexed_files-requires
indexed_files-requires c =
    let keeps = is_seen_path c.args.words.now c.args.extra.now in
    let slice : c.as_slice.result.now ≡ c.sort_unstable.new.self.items = search rules in
    let held = indexes_sorted keeps c.args.tree.now c.in_ok-indexes.indexes.items c.sort_unstable.new.self.items c.sort_unstable.ensures.permutation c.in_ok-indexes.ensures in
    (subst (λ (indexes : List ℕ). AreIndexesOf keeps c.args.tree.now indexes) (sym slice) held).within

pub returns : goal.returns
returns c =
    let keeps = is_seen_path c.args.words.now c.args.extra.now in
    let slice : c.as_slice.result.now ≡ c.sort_unstable.new.self.items = search rules in
    let held = indexes_sorted keeps c.args.tree.now c.in_ok-indexes.indexes.items c.sort_unstable.new.self.items c.sort_unstable.ensures.permutation c.in_ok-indexes.ensures in
    let same = (subst (λ (indexes : List ℕ). AreIndexesOf keeps c.args.tree.now indexes) (sym slice) held).same in
    where_ok (λ (files : List File). files ≡ files_where (is_indexed c.args.tree.now c.as_slice.result.now) c.args.tree.now)
    (λ (seen : List File). seen ≡ seen_of c.args.words.now c.args.extra.now c.args.whole c.args.tree.now) c.indexed_files.result c.indexed_files.ensures
    (λ files made. rw c.if-whole.false (made ∙ same_files (is_indexed c.args.tree.now c.as_slice.result.now) keeps c.args.tree.now same))
