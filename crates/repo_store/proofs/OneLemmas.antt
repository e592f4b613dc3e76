-- Rows tell one complete repository at most.
use Rattle.std.proofs.Common.{◌≡◌, ℕ, ◌+◌, ◌<◌, ℤ, pos, Bool, true, false, not, List, [], ◌∷◌, ◌++◌, map, filter, length, Ordering, Less, Equal, Greater, is_lt, IsPermutation, ◌⊎◌, inl, inr, refl, sym, ap, ap₂, subst, ◌∙◌, arith}
use Rattle.std.specs.List.{AllByRecursion}
use Rattle.std.specs.Ordering.{int_cmp}
use Rattle.std.proofs.lemmas.Bool.{false_from_ne_true}
use Rattle.std.proofs.lemmas.Cmp.{int_cmp_total, tied_itself}
use Rattle.std.proofs.lemmas.List.{append-nil}
use Rattle.std.proofs.lemmas.List.Elements.{filter-append}
use Rattle.std.proofs.lemmas.List.Sorted.{length_permutation, IsPermutation-refl, IsPermutation-sym}
use Rattle.repo_store.proofs.Kit.{IsPermutation-filter, filter_all, filter_none}
use Rattle.sqlite_trees.specs.Tree.{IsAscending}
use Rattle.hook_base.specs.declared.file.File.{File}
use Rattle.hook_base.specs.declared.change.Change.{Change}
use Rattle.hook_base.specs.Rising.{path_cmp, IsBelow, IsBelowAll, IsRisingBy}
use Rattle.hook_base.specs.RisingLemmas.{IsBelow-trans, below_not_same}
use Rattle.hook_base.specs.Trees.{IsRising, path_of}
use Rattle.store_tables.specs.declared.rows.CommitRow.{CommitRow}
use Rattle.store_tables.specs.declared.rows.EntryRow.{EntryRow}
use Rattle.store_tables.specs.declared.rows.FixRow.{FixRow}
use Rattle.store_tables.specs.declared.rows.StagedRow.{StagedRow}
use Rattle.repo_store.specs.Complete.{AreAlike, HaveDistinctDigests, HaveContents, IsComplete}
use Rattle.repo_store.specs.Kept.{Kept}
use Rattle.repo_store.specs.FromRows.{IsSame}
use Rattle.repo_store.specs.Repository.{Commit}
use Rattle.repo_store.specs.Rows.{commit_row, commit_rows, entry_row, entry_rows, fix_row, limit_row, staged_row, tables_of, version_row}
use Rattle.repo_store.proofs.DigestLemmas.{same_contents, same_files, same_fixes}
use Rattle.repo_store.proofs.FromRowsLemmas.{fix_path, pos_less}
use Rattle.repo_store.proofs.RowRuleLemmas.{all_both, all_same, all_weaker}
use Rattle.repo_store.proofs.MetaLemmas.{one_limit}
use Rattle.repo_store.proofs.SameAnswerLemmas.{same_answers}

-- ---- lists in one order

module _ {X : Type 0} (is_before : X → X → Bool) (never_back : (x y : X) → is_before x y ≡ true → is_before y x ≡ true → ⊥) where
  abbrev Rises : List X → Type 0
  Rises = IsAscending (λ x y. is_before x y ≡ true)

  first_or_later : (x : X) (xs : List X) → Rises (x ∷ xs) → AllByRecursion (λ z. (z ≡ x) ⊎ (is_before x z ≡ true)) (x ∷ xs)
  first_or_later x xs up = (inl refl, all_weaker (λ z. is_before x z ≡ true) (λ z. (z ≡ x) ⊎ (is_before x z ≡ true)) xs (λ z h. inr h) up.0)

  same_first : (x y : X) (xs ys : List X) → Rises (x ∷ xs) → Rises (y ∷ ys) → IsPermutation (x ∷ xs) (y ∷ ys) → x ≡ y
  same_first x y xs ys up also same =
      elim (all_same (λ z. (z ≡ y) ⊎ (is_before y z ≡ true)) (y ∷ ys) (x ∷ xs) (IsPermutation-sym _ _ same) (first_or_later y ys also)).0 [
        | inl is ↦ is
        | inr y_first ↦ elim (all_same (λ z. (z ≡ x) ⊎ (is_before x z ≡ true)) (x ∷ xs) (y ∷ ys) same (first_or_later x xs up)).0
            [ inl is ↦ sym is | inr x_first ↦ absurd (never_back x y x_first y_first) ]
      ]

  all_but_first : (x : X) (xs : List X) → Rises (x ∷ xs) → filter (is_before x) (x ∷ xs) ≡ xs
  all_but_first x xs up = rw (false_from_ne_true (is_before x x) (λ h. never_back x x h h), filter_all (is_before x) xs up.0)

  pub one_order : (xs ys : List X) → Rises xs → Rises ys → IsPermutation xs ys → xs ≡ ys
  one_order [] [] up also same = refl
  one_order [] (y ∷ ys) up also same = absurd (omega (arith, length_permutation [] (y ∷ ys) same))
  one_order (x ∷ xs) [] up also same = absurd (omega (arith, length_permutation (x ∷ xs) [] same))
  one_order (x ∷ xs) (y ∷ ys) up also same =
      let first = same_first x y xs ys up also same in
      let left = subst (λ (l : List X). IsPermutation l (filter (is_before x) (y ∷ ys))) (all_but_first x xs up) (IsPermutation-filter (is_before x) (x ∷ xs) (y ∷ ys) same) in
      let rest = subst (IsPermutation xs) (ap (λ (z : X). filter (is_before z) (y ∷ ys)) first ∙ all_but_first y ys also) left in
      ap₂ (λ (z : X) (l : List X). z ∷ l) first (one_order xs ys up.1 also.1 rest)

less_if : (o : Ordering) → is_lt o ≡ true → o ≡ Less
less_if Less h = refl
less_if Equal h = absurd (let never : false ≡ true = h in cc)
less_if Greater h = absurd (let never : false ≡ true = h in cc)

paths_apart : (p q : List ℕ) → is_lt (path_cmp p q) ≡ true → is_lt (path_cmp q p) ≡ true → ⊥
paths_apart p q below back =
    let one : IsBelow p q = record { is_less = less_if (path_cmp p q) below } in
    let two : IsBelow q p = record { is_less = less_if (path_cmp q p) back } in
    below_not_same p p (IsBelow-trans p q p one two) refl

pub numbers_apart : (m n : ℤ) → is_lt (int_cmp m n) ≡ true → is_lt (int_cmp n m) ≡ true → ⊥
numbers_apart m n below back =
    let less = int_cmp_total.trans m n m (less_if (int_cmp m n) below) (less_if (int_cmp n m) back) in
    let tied = tied_itself int_cmp_total m in
    let never : Less ≡ Equal = sym less ∙ tied in
    absurd (cc)

-- rows of what is in the order of its paths
module _ {X Y : Type 0} (path_in : X → List ℕ) (row : X → Y) (row_path : Y → List ℕ) (shows : (x : X) → row_path (row x) ≡ path_in x) where
  abbrev comes_first : Y → Y → Bool
  comes_first r s = is_lt (path_cmp (row_path r) (row_path s))

  rows_below : (x : X) (ys : List X) → IsBelowAll path_in (path_in x) ys → AllByRecursion (λ s. comes_first (row x) s ≡ true) (map row ys)
  rows_below x [] below = tt
  rows_below x (y ∷ ys) below = (ap₂ (λ (p q : List ℕ). is_lt (path_cmp p q)) (shows x) (shows y) ∙ ap is_lt below.0.is_less, rows_below x ys below.1)

  rows_rise : (xs : List X) → IsRisingBy path_in xs → IsAscending (λ r s. comes_first r s ≡ true) (map row xs)
  rows_rise [] up = tt
  rows_rise (x ∷ xs) up = (rows_below x xs up.0, rows_rise xs up.1)

  pub one_rising : (xs ys : List X) → IsRisingBy path_in xs → IsRisingBy path_in ys → IsPermutation (map row xs) (map row ys) → map row xs ≡ map row ys
  one_rising xs ys up also = one_order comes_first (λ r s. paths_apart (row_path r) (row_path s)) (map row xs) (map row ys) (rows_rise xs up) (rows_rise ys also)

-- ---- commits

abbrev is_later : ℕ → ℤ → Bool
is_later k n = is_lt (int_cmp (pos k) n)

later_commits : (k n : ℕ) (history : List Commit) → k < n → AllByRecursion (λ (row : CommitRow). is_later k row.n ≡ true) (commit_rows n history)
later_commits k n [] below = tt
later_commits k n (commit ∷ history) below = (ap is_lt (pos_less k n below), later_commits k (n + 1) history (omega arith))

commits_rise : (n : ℕ) (history : List Commit) → IsAscending (λ (r s : CommitRow). is_lt (int_cmp r.n s.n) ≡ true) (commit_rows n history)
commits_rise n [] = tt
commits_rise n (commit ∷ history) = (later_commits n (n + 1) history (omega arith), commits_rise (n + 1) history)

same_commits : (g h : List Commit) → IsPermutation (commit_rows 1 g) (commit_rows 1 h) → commit_rows 1 g ≡ commit_rows 1 h
same_commits g h = one_order (λ (r s : CommitRow). is_lt (int_cmp r.n s.n)) (λ r s. numbers_apart r.n s.n) (commit_rows 1 g) (commit_rows 1 h) (commits_rise 1 g) (commits_rise 1 h)

later_files : (k n : ℕ) (files : List File) → k < n → AllByRecursion (λ (row : EntryRow). is_later k row.n ≡ true) (map (entry_row n) files)
later_files k n [] below = tt
later_files k n (file ∷ files) below = (ap is_lt (pos_less k n below), later_files k n files below)

later_entries : (k n : ℕ) (history : List Commit) → k < n → AllByRecursion (λ (row : EntryRow). is_later k row.n ≡ true) (entry_rows n history)
later_entries k n [] below = tt
later_entries k n (commit ∷ history) below =
    all_both (λ (row : EntryRow). is_later k row.n ≡ true) (map (entry_row n) commit.tree) (entry_rows (n + 1) history) (later_files k n commit.tree below)
    (later_entries k (n + 1) history (omega arith))

here_files : (n : ℕ) (files : List File) → AllByRecursion (λ (row : EntryRow). is_later n row.n ≡ false) (map (entry_row n) files)
here_files n [] = tt
here_files n (file ∷ files) = (ap is_lt (tied_itself int_cmp_total (pos n)), here_files n files)

module _ (n : ℕ) (files : List File) (history : List Commit) where
  abbrev later : EntryRow → Bool
  later row = is_later n row.n

  files_here : filter (λ row. not (later row)) (map (entry_row n) files ++ entry_rows (n + 1) history) ≡ map (entry_row n) files
  files_here =
      filter-append (λ row. not (later row)) (map (entry_row n) files) (entry_rows (n + 1) history)
      ∙ ap₂ ◌++◌ (filter_all (λ row. not (later row)) (map (entry_row n) files)
      (all_weaker (λ row. later row ≡ false) (λ row. not (later row) ≡ true) (map (entry_row n) files) (λ row. ap not) (here_files n files)))
      (filter_none (λ row. not (later row)) (entry_rows (n + 1) history)
      (all_weaker (λ row. later row ≡ true) (λ row. not (later row) ≡ false) (entry_rows (n + 1) history) (λ row. ap not) (later_entries n (n + 1) history (omega arith))))
      ∙ append-nil (map (entry_row n) files)

  files_later : filter later (map (entry_row n) files ++ entry_rows (n + 1) history) ≡ entry_rows (n + 1) history
  files_later =
      filter-append later (map (entry_row n) files) (entry_rows (n + 1) history)
      ∙ ap₂ ◌++◌ (filter_none later (map (entry_row n) files) (here_files n files)) (filter_all later (entry_rows (n + 1) history) (later_entries n (n + 1) history (omega arith)))

filtered : {X : Type 0} (p : X → Bool) (xs ys us vs : List X) → filter p xs ≡ us → filter p ys ≡ vs → IsPermutation xs ys → IsPermutation us vs
filtered {X} p xs ys us vs left right same = subst (λ (l : List X). IsPermutation l vs) left (subst (IsPermutation (filter p xs)) right (IsPermutation-filter p xs ys same))

abbrev Rise : List Commit → Type 0
Rise history = AllByRecursion (λ (commit : Commit). IsRising commit.tree) history

abbrev Have : List (List ℕ) → List Commit → Type 0
Have contents history = AllByRecursion (λ (commit : Commit). HaveContents contents commit.tree) history

module _ (a b : List (List ℕ)) (same : IsPermutation a b) (apart : HaveDistinctDigests b) where
  same_history : (n : ℕ) (g h : List Commit) → commit_rows n g ≡ commit_rows n h → IsPermutation (entry_rows n g) (entry_rows n h) → Rise g → Rise h → Have a g → Have b h → g ≡ h
  same_history n [] [] rows entries up also g_in h_in = refl
  same_history n [] (d ∷ h) rows entries up also g_in h_in = absurd (let count = ap length rows in omega arith)
  same_history n (c ∷ g) [] rows entries up also g_in h_in = absurd (let count = ap length rows in omega arith)
  same_history n (c ∷ g) (d ∷ h) rows entries up also g_in h_in =
      let row : commit_row n c ≡ commit_row n d = cc in
      let first : c.message ≡ d.message = ap (λ (r : CommitRow). r.message) row in
      let rest : commit_rows (n + 1) g ≡ commit_rows (n + 1) h = cc in
      let here =
      filtered (λ (row : EntryRow). not (later n c.tree g row)) (entry_rows n (c ∷ g)) (entry_rows n (d ∷ h)) (map (entry_row n) c.tree) (map (entry_row n) d.tree) (files_here n c.tree g)
      (files_here n d.tree h) entries in
      let behind = filtered (later n c.tree g) (entry_rows n (c ∷ g)) (entry_rows n (d ∷ h)) (entry_rows (n + 1) g) (entry_rows (n + 1) h) (files_later n c.tree g) (files_later n d.tree h) entries in
      let shown = one_rising path_of (entry_row n) (λ (row : EntryRow). row.path) (λ file. refl) c.tree d.tree up.0 also.0 here in
      let tree = same_files a b same apart (entry_row n) (λ (row : EntryRow). record { path = row.path; mode = row.mode; digest = row.digest }) (λ file. refl) c.tree d.tree g_in.0 h_in.0 shown in
      ap₂ (λ (x : Commit) (l : List Commit). x ∷ l) (ap₂ (λ (m : List ℕ) (t : List File). let made : Commit = record { message = m; tree = t } in made) first tree)
      (same_history (n + 1) g h rest behind up.1 also.1 g_in.1 h_in.1)

-- ---- all of it

pub alike_from_same : (a b : Kept) → IsComplete a → IsComplete b → IsSame (tables_of a) (tables_of b) → (IsPermutation a.answers b.answers → a.answers ≡ b.answers) → AreAlike a b
alike_from_same a b obeys other same ordered =
    let contents = same_contents a.contents b.contents same.blobs in
    let staged =
    same_files a.contents b.contents contents other.apart staged_row (λ (row : StagedRow). row) (λ file. refl) a.repo.staged b.repo.staged obeys.staged other.staged
    (one_rising path_of staged_row (λ (row : StagedRow). row.path) (λ file. refl) a.repo.staged b.repo.staged obeys.sound.staged_rise other.sound.staged_rise same.staged) in
    let fixes =
    same_fixes a.contents b.contents contents other.apart a.repo.fixes b.repo.fixes obeys.fixes other.fixes
    (one_rising (λ (change : Change). change.path) fix_row (λ (row : FixRow). row.path) (λ change. fix_path change.path change.now) a.repo.fixes b.repo.fixes obeys.sound.fixes_rise
    other.sound.fixes_rise same.fixes) in
    let history =
    same_history a.contents b.contents contents other.apart 1 a.repo.history b.repo.history (same_commits a.repo.history b.repo.history same.commits) same.entries
    obeys.sound.trees_rise other.sound.trees_rise obeys.trees other.trees in
    record {
      repo = ap₂ (λ (h : List Commit) (r : List File × List Change). record { history = h; staged = r.0; fixes = r.1 }) history (ap₂ (λ (s : List File) (f : List Change). (s, f)) staged fixes);
      contents = contents;
      answers = ordered (same_answers a.contents b.contents contents other.apart a.answers b.answers obeys.sound_answers obeys.answers other.sound_answers other.answers same.answers);
      limit = one_limit (version_row ∷ limit_row (pos a.limit) ∷ []) a.limit b.limit (IsPermutation-refl (version_row ∷ limit_row (pos a.limit) ∷ [])) same.meta;
    }
