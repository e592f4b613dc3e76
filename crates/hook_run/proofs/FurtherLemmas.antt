-- The further files of the tree on which a hook began are those of the trees that its parts leave, as long as they are there.
use Rattle.std.proofs.Common.{◌≡◌, ◌∙◌, ap, ap₂, sym, subst, refl, ℕ, Bool, true, false, List, [], ◌∷◌, map, filter, Option, None, Some}
use Rattle.std.specs.Prelude.{not, ◌&&◌, ◌||◌, if◌then◌else◌}
use Rattle.std.specs.List.{AllByRecursion as Each, list_any}
use Rattle.std.specs.Str.{bytes_eq}
use Rattle.hook_base.specs.Trees.{apply_at, apply_changes, path_of, remove_file, rewrite_file, with_bytes}
use Rattle.hook_base.specs.declared.change.Change.{Change}
use Rattle.hook_base.specs.declared.file.File.{File}
use Rattle.child_port.specs.Outcomes.{after_outcome}
use Rattle.child_port.specs.Seen.{is_seen_path, plain_word, seen_of}
use Rattle.child_port.specs.declared.answer.Outcome.{Outcome}
use Rattle.child_port.specs.declared.answer.Outcome.TheVariants.{Done, Failed}
use Rattle.hook_config.specs.Patterns.{no_path}
use Rattle.hook_config.specs.declared.configuration.Hook.{Hook}
use Rattle.path_select.specs.Candidates.{is_candidate}
use Rattle.path_select.specs.Patterns.{is_found}
use Rattle.path_select.specs.Selection.{found_in}
use Rattle.path_select.specs.SelectionLaws.{all_are_candidates, found_among}
use Rattle.hook_run.specs.HookRun.{further_of}
use Rattle.hook_run.specs.PlanStates.{AreFurther, finds, on_tree}
use Rattle.hook_run.specs.declared.progress.Progress.{Progress}
use Rattle.hook_run.specs.declared.running_hook.RunningHook.{RunningHook}

-- ---- what changes leave of them

module _ (hook : Hook) (paths : List (List ℕ)) where
  removed-kept : (path : List ℕ) (tree : List File) → AreFurther hook paths tree → AreFurther hook paths (remove_file path tree)
  removed-kept path [] are = tt
  removed-kept path (row ∷ rows) are =
      elim (bytes_eq path row.path) as (λ b. AreFurther hook paths (if b then remove_file path rows else row ∷ remove_file path rows)) [
        | true ↦ removed-kept path rows are.1
        | false ↦ (are.0, removed-kept path rows are.1)
      ]

  rewritten-kept : (path bytes : List ℕ) (tree : List File) → AreFurther hook paths tree → AreFurther hook paths (rewrite_file path bytes tree)
  rewritten-kept path bytes [] are = tt
  rewritten-kept path bytes (row ∷ rows) are = (
    elim (bytes_eq path row.path) as (λ b. is_candidate paths (if b then with_bytes bytes row else row).path ≡ finds hook (if b then with_bytes bytes row else row).path)
        [ true ↦ are.0 | false ↦ are.0 ],
    rewritten-kept path bytes rows are.1,
  )

  changed-kept : (path : List ℕ) (now : Option (List ℕ)) (tree : List File) → AreFurther hook paths tree → AreFurther hook paths (apply_at path now tree)
  changed-kept path None tree are = removed-kept path tree are
  changed-kept path (Some bytes) tree are = rewritten-kept path bytes tree are

  changes-kept : (changes : List Change) (tree : List File) → AreFurther hook paths tree → AreFurther hook paths (apply_changes changes tree)
  changes-kept [] tree are = are
  changes-kept (change ∷ changes) tree are = changes-kept changes (apply_at change.path change.now tree) (changed-kept change.path change.now tree are)

  pub further-kept : (tree : List File) (outcome : Outcome) → AreFurther hook paths tree → AreFurther hook paths (after_outcome tree outcome)
  further-kept tree (Done answer) are = changes-kept answer.changes tree are
  further-kept tree (Failed fault) are = are

-- a hook that goes on after a part has the same paths
pub further-told : (done after : Progress) (work next : RunningHook) (outcome : Outcome) → after ≡ on_tree done (after_outcome done.tree outcome)
    → next.hook.now ≡ work.hook.now → next.further ≡ work.further → AreFurther work.hook.now work.further done.tree → AreFurther next.hook.now next.further after.tree
further-told done after work next outcome left same kept are =
    let here = further-kept work.hook.now work.further done.tree outcome are in
    subst (λ (p : Progress). AreFurther next.hook.now next.further p.tree) (sym left)
    (subst (λ (hook : Hook). AreFurther hook next.further (after_outcome done.tree outcome)) (sym same)
    (subst (λ (paths : List (List ℕ)). AreFurther work.hook.now paths (after_outcome done.tree outcome)) (sym kept) here))

-- ---- those of the tree itself

each-of : {A : Type 0} (P Q : A → Type 0) → ((item : A) → P item → Q item) → (items : List A) → Each P items → Each Q items
each-of P Q on [] each = tt
each-of P Q on (item ∷ items) each = (on item each.0, each-of P Q on items each.1)

pub further-first : (hook : Hook) (tree : List File) → AreFurther hook (further_of hook tree) tree
further-first hook tree =
    let candidate = λ (row : File). is_candidate (map path_of tree) row.path ≡ true in
    elim (bytes_eq hook.x_reads no_path) as (λ b. Each (λ (row : File). is_candidate (if b then [] else found_in hook.x_reads tree) row.path ≡ (not b && is_found hook.x_reads row.path)) tree) [
      | true ↦ each-of candidate (λ (row : File). false ≡ false) (λ row is. refl) tree (all_are_candidates tree)
      | false ↦ each-of candidate (λ (row : File). is_candidate (found_in hook.x_reads tree) row.path ≡ is_found hook.x_reads row.path)
          (λ row is. found_among hook.x_reads tree row.path ∙ ap (λ (there : Bool). there && is_found hook.x_reads row.path) is) tree (all_are_candidates tree)
    ]

-- ---- what is seen of them

seen-same : (words paths others : List (List ℕ)) (tree : List File) → Each (λ row. is_candidate paths row.path ≡ is_candidate others row.path) tree
    → filter (λ row. is_seen_path words paths row.path) tree ≡ filter (λ row. is_seen_path words others row.path) tree
seen-same words paths others [] same = refl
seen-same words paths others (row ∷ rows) same =
    ap₂ (λ (seen : Bool) (rest : List File). if seen then row ∷ rest else rest)
    (ap (λ (there : Bool). there || list_any (λ word. bytes_eq (plain_word word) row.path) words) same.0)
    (seen-same words paths others rows same.1)

each-same : (hook : Hook) (paths others : List (List ℕ)) (tree : List File) → AreFurther hook paths tree → AreFurther hook others tree
    → Each (λ row. is_candidate paths row.path ≡ is_candidate others row.path) tree
each-same hook paths others [] are also = tt
each-same hook paths others (row ∷ rows) are also = (are.0 ∙ sym also.0, each-same hook paths others rows are.1 also.1)

pub seen_further : (hook : Hook) (words paths : List (List ℕ)) (whole : Bool) (tree : List File) → AreFurther hook paths tree
    → seen_of words paths whole tree ≡ seen_of words (further_of hook tree) whole tree
seen_further hook words paths true tree are = refl
seen_further hook words paths false tree are =
    seen-same words paths (further_of hook tree) tree (each-same hook paths (further_of hook tree) tree are (further-first hook tree))
