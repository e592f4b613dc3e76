-- The files that the hooks of a run may get, row by row and name by name.
use Rattle.std.proofs.Common.{◌≡◌, ◌≢◌, ◌↔◌, ◌∙◌, ap, sym, subst, inl, inr, refl, IsTrue, ℕ, zero, suc, ◌+◌, Bool, true, false, not, List, [], ◌∷◌, Option, None, Some, drop, map, add-one, rules}
use Rattle.std.specs.Prelude.{filter, slice_get, ◌&&◌}
use Rattle.std.specs.Cmp.Lexicographic.{bytes_decides}
use Rattle.std.specs.Str.{bytes_eq}
use Rattle.hook_base.specs.declared.file.File.{File}
use Rattle.hook_base.specs.declared.file.FileEntry.{FileEntry}
use Rattle.hook_base.specs.declared.file.Mode.{Mode}
use Rattle.hook_base.specs.declared.file.Mode.TheVariants.{Plain, Executable}
use Rattle.hook_base.specs.RisingLemmas.{bytes_same}
use Rattle.hook_base.specs.Rising.{IsBelow, IsBelowAll}
use Rattle.hook_base.specs.TreeLemmas.{entry_of-first, entry_of-rest}
use Rattle.hook_base.specs.Trees.{IsRising, entry_of, path_of}
use Rattle.repo_store.specs.Repository.{Repository, last_tree}
use Rattle.commit_flow.specs.declared.host_refusal.HostRefusal.{HostRefusal}
use Rattle.commit_flow.specs.Preparations.{IsNameFault, IsNamesFault}
use Rattle.commit_flow.specs.Runs.{AreStagedPaths, IsNamesRefusal, IsStagedPath, holds_entry, same_mode}

-- ---- rows

drop-at_suc : {X : Type 0} (rows : List X) (i : ℕ) (row : X) → slice_get rows i ≡ Some row → drop i rows ≡ row ∷ drop (suc i) rows
drop-at_suc [] i row at = cc
drop-at_suc (first ∷ rows) zero row at = let same : first ≡ row = cc in ap (λ r. r ∷ rows) same
drop-at_suc (first ∷ rows) (suc i) row at = drop-at_suc rows i row at

pub drop-at : {X : Type 0} (rows : List X) (i : ℕ) (row : X) → slice_get rows i ≡ Some row → drop i rows ≡ row ∷ drop (i + 1) rows
drop-at rows i row at = drop-at_suc rows i row at ∙ ap (λ n. row ∷ drop n rows) (sym (add-one i))

-- ---- files that the last commit doesn't hold so

same_mode-itself : (mode : Mode) → same_mode mode mode ≡ true
same_mode-itself Plain = refl
same_mode-itself Executable = refl

same_mode-same : (mode other : Mode) → same_mode mode other ≡ true → mode ≡ other
same_mode-same Plain Plain is = refl
same_mode-same Executable Executable is = refl
same_mode-same Plain Executable is = absurd (cc)
same_mode-same Executable Plain is = absurd (cc)

holds-itself : (entry : FileEntry) → holds_entry entry (Some entry) ≡ true
holds-itself entry = rw (same_mode-itself entry.mode, bytes_same entry.bytes entry.bytes refl) refl

and-parts : (a b : Bool) → (a && b) ≡ true → (a ≡ true) × (b ≡ true)
and-parts true b is = (refl, is)
and-parts false b is = absurd (cc)

entry_of_parts : (first second : FileEntry) → first.mode ≡ second.mode → first.bytes ≡ second.bytes → first ≡ second
entry_of_parts first second mode bytes = rw (mode, bytes) refl

holds-same : (entry : FileEntry) (there : Option FileEntry) → holds_entry entry there ≡ true → Some entry ≡ there
holds-same entry None is = absurd (cc)
holds-same entry (Some other) is =
    let p = and-parts (same_mode entry.mode other.mode) (bytes_eq entry.bytes other.bytes) is in
    ap Some (entry_of_parts entry other (same_mode-same entry.mode other.mode p.0) ((bytes_decides entry.bytes other.bytes).0 p.1))

false_from_not : (b : Bool) → ¬ (b ≡ true) → b ≡ false
false_from_not true isnt = absurd (isnt refl)
false_from_not false isnt = refl

holds-not : (entry : FileEntry) (there : Option FileEntry) → (Some entry ≡ there → ⊥) → holds_entry entry there ≡ false
holds-not entry there differs = false_from_not (holds_entry entry there) (λ is. differs (holds-same entry there is))

-- the last commit of the repository doesn't hold the file so
abbrev pub is_changed_in : Repository → File → Bool
is_changed_in repo row = not (holds_entry row.entry (entry_of row.path (last_tree repo.history)))

changed_file : (entry : FileEntry) (there : Option FileEntry) → (Some entry ≢ there) → not (holds_entry entry there) ≡ true
changed_file entry there differs = ap not (holds-not entry there (λ is. differs is))

is_and_isnt : (entry : FileEntry) (there : Option FileEntry) → Some entry ≡ there → holds_entry entry there ≡ false → ⊥
is_and_isnt entry there e is = let holds : holds_entry entry there ≡ true = subst (λ (at : Option FileEntry). holds_entry entry at ≡ true) e (holds-itself entry) in cc

same_file : (entry : FileEntry) (there : Option FileEntry) → ¬ (Some entry ≢ there) → not (holds_entry entry there) ≡ false
same_file entry there same =
    elim (holds_entry entry there) as (λ b. holds_entry entry there ≡ b → not b ≡ false) [
      | true ↦ λ is. refl
      | false ↦ λ is. absurd (same (λ e. is_and_isnt entry there e is))
    ] refl

below_at : (path : List ℕ) (rows : List File) (i : ℕ) (row : File) → IsBelowAll path_of path rows → slice_get rows i ≡ Some row → IsBelow path row.path
below_at path [] i row below at = absurd (cc)
below_at path (first ∷ rows) zero row below at = let same : first ≡ row = cc in subst (λ (r : File). IsBelow path r.path) same below.0
below_at path (first ∷ rows) (suc i) row below at = below_at path rows i row below.1 at

-- a row of a tree is what the tree holds at its path
pub entry_of_row : (rows : List File) (i : ℕ) (row : File) → IsRising rows → slice_get rows i ≡ Some row → entry_of row.path rows ≡ Some row.entry
entry_of_row [] i row rising at = absurd (cc)
entry_of_row (first ∷ rows) zero row rising at = let same : first ≡ row = cc in subst (λ (r : File). entry_of r.path (first ∷ rows) ≡ Some r.entry) same (entry_of-first first.path first rows refl)
entry_of_row (first ∷ rows) (suc i) row rising at = entry_of-rest row.path first rows (below_at first.path rows i row rising.0 at) ∙ entry_of_row rows i row rising.1 at

tested : (test : Bool) (entry : FileEntry) (there : Option FileEntry) → (IsTrue test ↔ (Some entry ≢ there)) → test ≡ not (holds_entry entry there)
tested true entry there decides = sym (changed_file entry there (decides.0 (search rules)))
tested false entry there decides = sym (same_file entry there (λ differs. let is = decides.1 differs in absurd (search rules)))

-- whether a row differs from the last commit at its path
pub row_tested : (repo : Repository) (rows : List File) (i : ℕ) (row : File) (test : Bool) → rows ≡ repo.staged → IsRising rows → slice_get rows i ≡ Some row
    → (IsTrue test ↔ (entry_of row.path repo.staged ≢ entry_of row.path (last_tree repo.history))) → test ≡ is_changed_in repo row
row_tested repo rows i row test same rising at decides =
    let here : entry_of row.path repo.staged ≡ Some row.entry = subst (λ (files : List File). entry_of row.path files ≡ Some row.entry) same (entry_of_row rows i row rising at) in
    let there = entry_of row.path (last_tree repo.history) in
    tested test row.entry there (subst (λ (o : Option FileEntry). IsTrue test ↔ (o ≢ there)) here decides)

module _ {X Y : Type 0} (keeps : X → Bool) (f : X → Y) where
  pub kept_at : (rows : List X) (i : ℕ) (row : X) → slice_get rows i ≡ Some row → keeps row ≡ true → map f (filter keeps (drop i rows)) ≡ f row ∷ map f (filter keeps (drop (i + 1) rows))
  kept_at rows i row at is = ap (λ l. map f (filter keeps l)) (drop-at rows i row at) ∙ rw is refl

  pub left_at : (rows : List X) (i : ℕ) (row : X) → slice_get rows i ≡ Some row → keeps row ≡ false → map f (filter keeps (drop i rows)) ≡ map f (filter keeps (drop (i + 1) rows))
  left_at rows i row at isnt = ap (λ l. map f (filter keeps l)) (drop-at rows i row at) ∙ rw isnt refl

pub mapped_at : {X Y : Type 0} (f : X → Y) (rows : List X) (i : ℕ) (row : X) → slice_get rows i ≡ Some row → map f (drop i rows) ≡ f row ∷ map f (drop (i + 1) rows)
mapped_at f rows i row at = ap (λ l. map f l) (drop-at rows i row at)

-- ---- names

-- the names from this one on decide how all of them are taken
pub record DecideTheRest (repo : Repository) (names : List (List ℕ)) (i : ℕ) : Type 0 where
  pub staged : AreStagedPaths repo (drop i names) → AreStagedPaths repo names
  pub refused : (refusal : HostRefusal) → IsNamesRefusal repo (drop i names) refusal → IsNamesRefusal repo names refusal

pub decide_all : (repo : Repository) (names : List (List ℕ)) → DecideTheRest repo names 0
decide_all repo names = record { staged = λ all. all; refused = λ refusal why. why }

module _ (repo : Repository) (names : List (List ℕ)) (i : ℕ) (name : List ℕ) (at : drop i names ≡ name ∷ drop (i + 1) names) (so_far : DecideTheRest repo names i) where
  pub decide_next : IsStagedPath repo name → DecideTheRest repo names (i + 1)
  decide_next staged = record {
    staged = λ all. so_far.staged (subst (λ l. AreStagedPaths repo l) (sym at) (staged, all));
    refused = λ refusal why. so_far.refused refusal (subst (λ l. IsNamesRefusal repo l refusal) (sym at) (inr (staged, why)));
  }

  pub name_refused : (refusal : HostRefusal) → IsNameFault repo name refusal → IsNamesFault repo names refusal
  name_refused refusal why =
      elim why [
        | inl wanting ↦ inl wanting
        | inr is ↦ inr (so_far.refused refusal (subst (λ l. IsNamesRefusal repo l refusal) (sym at) (inl is)))
      ]
