-- Two trees that differ only in files that a run doesn't look at: a run on the one is a run on the other, and what is remembered
-- of it answers the other.
use Rattle.std.proofs.Common.{◌≡◌, ◌∙◌, ap, sym, subst, refl, inl, inr, ℕ, Bool, true, false, List, [], ◌∷◌, map, Option, None, Some}
use Rattle.std.specs.Prelude.{◌≢◌, ◌⊎◌, All, Contains, if◌then◌else◌, is_some}
use Rattle.std.specs.List.{AllByRecursion as Each, list_any}
use Rattle.std.specs.Str.{bytes_eq}
use Rattle.std.specs.Cmp.Lexicographic.{bytes_decides}
use Rattle.std.proofs.lemmas.Bool.{or_cases, or_parts}
use Rattle.std.proofs.lemmas.List.Elements.{All-contains, All-contains_itself, All-from_recursion, All-weaker, recursion_from_All}
use Rattle.hook_base.specs.Rising.{IsBelow, IsBelowAll}
use Rattle.hook_base.specs.RisingLemmas.{bytes_same}
use Rattle.hook_base.specs.TreeLemmas.{same_rows}
use Rattle.hook_base.specs.Trees.{IsRising, entry_of, path_of}
use Rattle.hook_base.specs.declared.file.File.{File}
use Rattle.hook_base.specs.declared.file.FileEntry.{FileEntry}
use Rattle.hook_config.specs.declared.configuration.Config.{Config}
use Rattle.hook_config.specs.declared.configuration.Hook.{Hook}
use Rattle.path_select.specs.Candidates.{is_candidate}
use Rattle.hook_run.specs.declared.run_ask.RunAsk.{RunAsk}
use Rattle.hook_run.specs.declared.run_out.RunOut.{RunOut}
use Rattle.hook_run.specs.Asks.{hooks_of_run}
use Rattle.hook_run.specs.Parts.{Part, all_parts, tree_after}
use Rattle.hook_run.specs.RunOuts.{out_of, unsteady_ids}
use Rattle.hook_run.specs.StageRun.{IsRun}
use Rattle.hook_run.specs.UnseenEdits.{DifferOnlyIn, EndAlike, HasRunAlike, IsUnseen, IsUnseenEdit, script_path, strays}
use Rattle.hook_run.proofs.EditLemmas.{Edit, edited, entry-edited, entry-kept, entry-unedited, entry_edited, same-paths}
use Rattle.hook_run.proofs.EditedRunLemmas.{KeepTo, NoScript, Unseen, WhereEdited, parts-commute, parts-kept, run-edited}

-- ---- paths of a list

abbrev is_one_of : List (List ℕ) → List ℕ → Bool
is_one_of paths path = list_any (λ one. bytes_eq one path) paths

-- what is so of each of the paths is so of one of them
one-of : (P : List ℕ → Type 0) (paths : List (List ℕ)) (path : List ℕ) → Each P paths → is_one_of paths path ≡ true → P path
one-of P [] path each is = absurd (cc)
one-of P (one ∷ paths) path each is =
    elim (or_cases (bytes_eq one path) (is_one_of paths path) is) [
      | inl here ↦ subst P ((bytes_decides one path).0 here) each.0
      | inr later ↦ one-of P paths path each.1 later
    ]

contained : (paths : List (List ℕ)) (path : List ℕ) → is_one_of paths path ≡ true → Contains paths path
contained paths path is = one-of (Contains paths) paths path (recursion_from_All (Contains paths) paths (All-contains_itself paths)) is

each-other : (paths : List (List ℕ)) (path : List ℕ) → is_one_of paths path ≡ false → Each (λ one. bytes_eq one path ≡ false) paths
each-other [] path none = tt
each-other (one ∷ paths) path none =
    let parts = or_parts (bytes_eq one path) (is_one_of paths path) none in
    (parts.0, each-other paths path parts.1)

not-contained : (paths : List (List ℕ)) (path : List ℕ) → is_one_of paths path ≡ false → ¬ Contains paths path
not-contained paths path none contains =
    let differs = All-contains (λ one. bytes_eq one path ≡ false) paths path (All-from_recursion (λ one. bytes_eq one path ≡ false) paths (each-other paths path none)) contains in
    let same = bytes_same path path refl in
    cc

-- ---- trees of the same paths

same-first : (row other : File) (rows others : List File) → map path_of (row ∷ rows) ≡ map path_of (other ∷ others) → row.path ≡ other.path
same-first row other rows others same = cc

same-others : (row other : File) (rows others : List File) → map path_of (row ∷ rows) ≡ map path_of (other ∷ others) → map path_of rows ≡ map path_of others
same-others row other rows others same = cc

no-others : (row : File) (rows : List File) → map path_of (row ∷ rows) ≡ [] → ⊥
no-others row rows same = cc

below-by-paths : (path : List ℕ) (tree other : List File) → map path_of tree ≡ map path_of other → IsBelowAll path_of path tree → IsBelowAll path_of path other
below-by-paths path [] [] same below = tt
below-by-paths path [] (other ∷ others) same below = absurd (no-others other others (sym same))
below-by-paths path (row ∷ rows) [] same below = absurd (no-others row rows same)
below-by-paths path (row ∷ rows) (other ∷ others) same below = (
  subst (λ (p : List ℕ). IsBelow path p) (same-first row other rows others same) below.0,
  below-by-paths path rows others (same-others row other rows others same) below.1,
)

rising-by-paths : (tree other : List File) → map path_of tree ≡ map path_of other → IsRising tree → IsRising other
rising-by-paths [] [] same rising = tt
rising-by-paths [] (other ∷ others) same rising = absurd (no-others other others (sym same))
rising-by-paths (row ∷ rows) [] same rising = absurd (no-others row rows same)
rising-by-paths (row ∷ rows) (other ∷ others) same rising = (
  subst (λ (p : List ℕ). IsBelowAll path_of p others) (same-first row other rows others same)
      (below-by-paths row.path rows others (same-others row other rows others same) rising.0),
  rising-by-paths rows others (same-others row other rows others same) rising.1,
)

there-by-paths : (path : List ℕ) (tree other : List File) → map path_of tree ≡ map path_of other → is_some (entry_of path tree) ≡ is_some (entry_of path other)
there-by-paths path [] [] same = refl
there-by-paths path [] (other ∷ others) same = absurd (no-others other others (sym same))
there-by-paths path (row ∷ rows) [] same = absurd (no-others row rows same)
there-by-paths path (row ∷ rows) (other ∷ others) same =
    let rest = there-by-paths path rows others (same-others row other rows others same) in
    (elim (bytes_eq path row.path) as (λ b. is_some (if b then Some row.entry else entry_of path rows) ≡ is_some (if b then Some other.entry else entry_of path others)) [ true ↦ refl | false ↦ rest ])
    ∙ ap (λ (p : List ℕ). is_some (if bytes_eq path p then Some other.entry else entry_of path others)) (same-first row other rows others same)

-- ---- the second tree as the first with an edit

abbrev edit_if : Bool → Option FileEntry → Option FileEntry
edit_if is found = if is then found else None

-- at these paths stands what the other tree holds
abbrev edit_to : List (List ℕ) → List File → Edit
edit_to paths other path = edit_if (is_one_of paths path) (entry_of path other)

edited-found : (found other : Option FileEntry) → is_some found ≡ is_some other → entry_edited other found ≡ other
edited-found None None same = refl
edited-found None (Some other) same = absurd (cc)
edited-found (Some entry) None same = absurd (cc)
edited-found (Some entry) (Some other) same = refl

module _ (paths : List (List ℕ)) (tree other : List File) (differ : DifferOnlyIn paths tree other) where
  edited-look : (path : List ℕ) → entry_of path (edited (edit_to paths other) tree) ≡ entry_of path other
  edited-look path =
      entry-edited (edit_to paths other) path tree
      ∙ (elim (is_one_of paths path) as (λ b. is_one_of paths path ≡ b → entry_edited (edit_if b (entry_of path other)) (entry_of path tree) ≡ entry_of path other) [
        | true ↦ λ is. edited-found (entry_of path tree) (entry_of path other) (there-by-paths path tree other differ.same_paths)
        | false ↦ λ is. entry-kept (entry_of path tree) ∙ differ.same_else path (not-contained paths path is)
      ] refl)

  edited-tree : IsRising tree → edited (edit_to paths other) tree ≡ other
  edited-tree rising =
      same_rows (edited (edit_to paths other) tree) other
      (rising-by-paths tree (edited (edit_to paths other) tree) (sym (same-paths (edit_to paths other) tree)) rising)
      (rising-by-paths tree other differ.same_paths rising) edited-look

  edited-at : (P : List ℕ → Type 0) → All P paths → WhereEdited (edit_to paths other) P
  edited-at P all path =
      elim (is_one_of paths path) as (λ b. is_one_of paths path ≡ b → (edit_if b (entry_of path other) ≡ None) ⊎ P path) [
        | true ↦ λ is. inr (one-of P paths path (recursion_from_All P paths all) is)
        | false ↦ λ is. inl refl
      ] refl

  not-edited : (path : List ℕ) → (¬ Contains paths path) → edit_to paths other path ≡ None
  not-edited path outside =
      elim (is_one_of paths path) as (λ b. is_one_of paths path ≡ b → edit_if b (entry_of path other) ≡ None) [
        | true ↦ λ is. absurd (outside (contained paths path is))
        | false ↦ λ is. refl
      ] refl

-- ---- the run on the second tree

module _ (config : Config) (ask : RunAsk) (paths : List (List ℕ)) (tree other : List File) (trace : List (List Part)) (out : RunOut) (it : IsUnseenEdit config ask paths tree other trace out) where
  abbrev Looked : List ℕ → Type 0
  Looked = IsUnseen ask.candidates (hooks_of_run config ask) (all_parts trace)

  abbrev edit_there : Edit
  edit_there = edit_to paths other

  -- what is so of paths at which nothing looks
  of-each : (P : List ℕ → Type 0) → ((path : List ℕ) → Looked path → P path) → All P paths
  of-each P on = All-weaker Looked P on paths it.unseen

  no-child-sees : (path : List ℕ) → Looked path → Unseen (all_parts trace) path
  no-child-sees path unseen = recursion_from_All (λ (part : Part). entry_of path part.seen ≡ None) (all_parts trace) unseen.unseen

  where-edited : (P : List ℕ → Type 0) → ((path : List ℕ) → Looked path → P path) → WhereEdited edit_there P
  where-edited P on = edited-at paths tree other it.differ P (of-each P on)

  keep-to : KeepTo (all_parts trace)
  keep-to = recursion_from_All (λ (part : Part). strays part.outcome part.seen ≡ false) (all_parts trace) it.kept_to

  is-edited : edited edit_there tree ≡ other
  is-edited = edited-tree paths tree other it.differ it.is_tree

  run-there : IsRun config ask other (hooks_of_run config ask) trace it.run.results
  run-there =
      subst (λ (t : List File). IsRun config ask t (hooks_of_run config ask) trace it.run.results) is-edited
      (run-edited edit_there config ask tree (hooks_of_run config ask) trace it.run.results it.is_tree
      (where-edited (λ path. is_candidate ask.candidates path ≡ false) (λ path unseen. unseen.no_candidate))
      (where-edited (NoScript (hooks_of_run config ask)) (λ path unseen. recursion_from_All (λ (hook : Hook). script_path hook.language ≢ Some path) (hooks_of_run config ask) unseen.no_script))
      (where-edited (Unseen (all_parts trace)) no-child-sees) keep-to it.run.run)

  left-there : edited edit_there (tree_after tree trace) ≡ tree_after other trace
  left-there =
      sym (parts-commute edit_there tree (all_parts trace) (where-edited (Unseen (all_parts trace)) no-child-sees) keep-to)
      ∙ ap (λ (t : List File). tree_after t trace) is-edited

  abbrev out_there : RunOut
  out_there = out_of config ask it.run.results (tree_after other trace) (unsteady_ids (hooks_of_run config ask) trace)

  tree-left : out.tree ≡ tree_after tree trace
  tree-left = ap (λ (o : RunOut). o.tree) it.run.is

  end-alike : EndAlike paths tree other out out_there
  end-alike = record {
    same = record {
      passed = ap (λ (o : RunOut). o.passed) it.run.is;
      report = ap (λ (o : RunOut). o.report) it.run.is;
      results = ap (λ (o : RunOut). o.results) it.run.is;
    };
    differ = record {
      same_paths = ap (map path_of) tree-left ∙ sym (same-paths edit_there (tree_after tree trace)) ∙ ap (map path_of) left-there;
      same_else = λ path outside.
          ap (entry_of path) tree-left ∙ sym (entry-unedited edit_there path (tree_after tree trace) (not-edited paths tree other it.differ path outside))
          ∙ ap (entry_of path) left-there;
    };
    left = of-each (λ path. entry_of path tree ≡ entry_of path out.tree)
        (λ path unseen. sym (ap (entry_of path) tree-left ∙ parts-kept path tree (all_parts trace) (no-child-sees path unseen) keep-to));
    left_there = of-each (λ path. entry_of path other ≡ entry_of path (tree_after other trace))
        (λ path unseen. sym (parts-kept path other (all_parts trace) (no-child-sees path unseen) keep-to));
  }

  pub run-alike : HasRunAlike config ask paths tree other trace out
  run-alike = record { there = out_there; run = record { results = it.run.results; run = run-there; is = refl }; alike = end-alike }
