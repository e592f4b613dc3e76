-- Several changes of the staged files: what they leave of what was kept, and of the rows.
use Rattle.std.proofs.Common.{◌≡◌, pos, ◌≢◌, ℕ, ◌+◌, ◌<◌, ◌≤◌, not, List, [], ◌∷◌, ◌++◌, map, filter, length, take, drop, get_or, Result, Ok, IsPermutation, refl, sym, ap, ap₂, subst, ◌∙◌, arith, length-append, append_assoc}
use Rattle.std.specs.Str.{bytes_eq}
use Rattle.std.proofs.lemmas.List.{take_more, map-append}
use Rattle.std.proofs.lemmas.Option.{slice_get_read}
use Rattle.std.proofs.lemmas.List.Sorted.{IsPermutation-refl, IsPermutation-cons, IsPermutation-trans, IsPermutation-map}
use Rattle.repo_store.proofs.Kit.{IsPermutation-filter}
use lib.Seq.{take-length, take-append_seam}
use lib.ListN.{take-append-drop}
use Rattle.sqlite_trees.specs.declared.store.Store.{Ghosts}
use Rattle.sqlite.specs.Held.{Held}
use Rattle.hook_base.specs.declared.change.Change.{Change}
use Rattle.hook_base.specs.declared.file.File.{File}
use Rattle.hook_base.specs.Trees.{IsRising, remove_file}
use Rattle.hook_base.specs.TreeLemmas.{IsRising-put_row, IsRising-remove_file}
use Rattle.store_tables.specs.declared.rows.StagedRow.{StagedRow}
use Rattle.store_tables.specs.Steps.{IsStep}
use Rattle.store_tables.specs.Tables.{Tables, without_fixes}
use Rattle.repo_store.specs.declared.lists.staging.Before.{Before}
use Rattle.repo_store.specs.declared.shared_edit.SharedEdit.{SharedEdit}
use Rattle.repo_store.specs.declared.staging_edit.StagingEdit.{StagingEdit}
use Rattle.repo_store.specs.declared.staging_edit.StagingEdit.TheVariants.{Add, Remove}
use Rattle.repo_store.specs.Bounded.{HoldsListed}
use Rattle.repo_store.specs.Complete.{IsComplete}
use Rattle.repo_store.specs.declared.staging_refusal.StagingFault.{StagingFault}
use Rattle.repo_store.specs.Edits.{AreEditable, IsEditFault, IsEditable, IsRefusedAt, all_edited, edited, entry_to_stage}
use Rattle.repo_store.specs.Kept.{Kept}
use Rattle.store_faults.specs.Limits.{path_bytes}
use Rattle.repo_store.specs.Lists.{file_of, fix_of}
use Rattle.repo_store.specs.Repository.{Commit, Repository}
use Rattle.repo_store.specs.RowRules.{AreStoreRows}
use Rattle.repo_store.specs.Rows.{answer_row, commit_rows, limit_row, entry_rows, fix_row, staged_row, version_row, with_blobs, with_staged_rows, tables_of}
use Rattle.repo_store.specs.Answers.{KeptAnswer}
use Rattle.repo_store.specs.SharedEdits.{IsBefore, IsLonger, PathEdit, all_rows, edit_of, edited_rows, made_edit, made_edits}
use Rattle.repo_store.specs.Transactions.{IsCall}
use Rattle.repo_store.proofs.CallLemmas.{step_then}
use Rattle.repo_store.proofs.CompleteLemmas.{complete_staged, complete_unstaged}
use Rattle.repo_store.proofs.KeptLemmas.{blobs_after, contents_before, put_moves}
use Rattle.repo_store.proofs.ListLemmas.{others_staged}
use Rattle.repo_store.proofs.RuleLemmas.{obeys_staged, obeys_unstaged}
use Rattle.repo_store.proofs.SameLemmas.{IsSame, same_staged, step_same}

-- ---- one edit more

pub edited_more : (edits : List StagingEdit) (edit : StagingEdit) (kept : Kept) → all_edited (edits ++ edit ∷ []) kept ≡ edited edit (all_edited edits kept)
edited_more [] edit kept = refl
edited_more (first ∷ edits) edit kept = edited_more edits edit (edited first kept)

pub made_more : (edits : List StagingEdit) (edit : StagingEdit) (kept : Kept) → made_edits (edits ++ edit ∷ []) kept ≡ made_edits edits kept ++ made_edit edit (all_edited edits kept) ∷ []
made_more [] edit kept = refl
made_more (first ∷ edits) edit kept = ap (λ (l : List PathEdit). made_edit first kept ∷ l) (made_more edits edit (edited first kept))

pub editable_more : (edits : List StagingEdit) (edit : StagingEdit) (kept : Kept) → AreEditable edits kept → IsEditable edit (all_edited edits kept) → AreEditable (edits ++ edit ∷ []) kept
editable_more [] edit kept all one = (one, tt)
editable_more (first ∷ edits) edit kept all one = (all.0, editable_more edits edit (edited first kept) all.1 one)

module _ (all : List StagingEdit) (kept : Kept) (i : ℕ) (edit : StagingEdit) (within : i < length all) (is : edit ≡ get_or all i edit) where
  one_more : take (i + 1) all ≡ take i all ++ edit ∷ []
  one_more = take_more all i edit within ∙ ap (λ (e : StagingEdit). take i all ++ e ∷ []) (sym is)

  pub edited_next : (now next : Kept) → now ≡ all_edited (take i all) kept → next ≡ edited edit now → next ≡ all_edited (take (i + 1) all) kept
  edited_next now next before made = made ∙ ap (edited edit) before ∙ sym (ap (λ (l : List StagingEdit). all_edited l kept) one_more ∙ edited_more (take i all) edit kept)

  pub made_next : (now : Kept) (made next : List PathEdit) → now ≡ all_edited (take i all) kept → made ≡ made_edits (take i all) kept → next ≡ made ++ made_edit edit now ∷ []
      → next ≡ made_edits (take (i + 1) all) kept
  made_next now made next now_is before pushed =
      pushed ∙ ap₂ (λ (l : List PathEdit) (k : Kept). l ++ made_edit edit k ∷ []) before now_is ∙ sym (ap (λ (l : List StagingEdit). made_edits l kept) one_more ∙ made_more (take i all) edit kept)

  pub editable_next : (now : Kept) → now ≡ all_edited (take i all) kept → AreEditable (take i all) kept → IsEditable edit now → AreEditable (take (i + 1) all) kept
  editable_next now now_is before one = subst (λ (l : List StagingEdit). AreEditable l kept) (sym one_more) (editable_more (take i all) edit kept before (subst (IsEditable edit) now_is one))

  pub refused_here : (now : Kept) (fault : StagingFault) → now ≡ all_edited (take i all) kept → AreEditable (take i all) kept → IsEditFault edit now fault → IsRefusedAt all kept fault i
  refused_here now fault now_is before why = record {
    before = before;
    edit = edit;
    is = slice_get_read all (length all) i edit refl within is;
    why = subst (λ (k : Kept). IsEditFault edit k fault) now_is why;
  }

-- ---- what was kept stays

whole : (front all : List (List ℕ)) → take (length front) all ≡ front → front ++ drop (length front) all ≡ all
whole front all is = ap (λ (l : List (List ℕ)). l ++ drop (length front) all) (sym is) ∙ take-append-drop (length front) all

pub longer_itself : (kept : Kept) → IsLonger kept kept
longer_itself kept = record { history = refl; answers = refl; limit = refl; front = take-length kept.contents }

pub longer_then : (a b c : Kept) → IsLonger a b → IsLonger b c → IsLonger a c
longer_then a b c one two =
    let more = drop (length a.contents) b.contents in
    let last = drop (length b.contents) c.contents in
    let parts : c.contents ≡ a.contents ++ (more ++ last) =
    sym (whole b.contents c.contents two.front) ∙ ap (λ (l : List (List ℕ)). l ++ last) (sym (whole a.contents b.contents one.front)) ∙ append_assoc a.contents more last in
    record {
      history = two.history ∙ one.history;
      answers = two.answers ∙ one.answers;
      limit = two.limit ∙ one.limit;
      front = ap (take (length a.contents)) parts ∙ take-append_seam a.contents (more ++ last);
    }

pub longer_grows : (a b : Kept) → IsLonger a b → length a.contents ≤ length b.contents
longer_grows a b longer =
    let parts : length (a.contents ++ drop (length a.contents) b.contents) ≡ length b.contents = ap length (whole a.contents b.contents longer.front) in
    omega (arith, parts, length-append a.contents (drop (length a.contents) b.contents))

pub edited_longer : (edit : StagingEdit) (kept : Kept) → IsLonger kept (edited edit kept)
edited_longer (Add path bytes asked) kept = record { history = refl; answers = refl; limit = refl; front = contents_before bytes kept.contents }
edited_longer (Remove path) kept = record { history = refl; answers = refl; limit = refl; front = take-length kept.contents }

pub all_longer : (edits : List StagingEdit) (kept : Kept) → IsLonger kept (all_edited edits kept)
all_longer [] kept = longer_itself kept
all_longer (edit ∷ edits) kept = longer_then kept (edited edit kept) (all_edited edits (edited edit kept)) (edited_longer edit kept) (all_longer edits (edited edit kept))

-- ---- no fixes are left

clears : (edit : StagingEdit) (kept : Kept) → (edited edit kept).repo.fixes ≡ []
clears (Add path bytes asked) kept = refl
clears (Remove path) kept = refl

stay_clear : (edits : List StagingEdit) (kept : Kept) → kept.repo.fixes ≡ [] → (all_edited edits kept).repo.fixes ≡ []
stay_clear [] kept none = none
stay_clear (edit ∷ edits) kept none = stay_clear edits (edited edit kept) (clears edit kept)

pub no_fixes : (edits : List StagingEdit) (kept : Kept) → edits ≢ [] → (all_edited edits kept).repo.fixes ≡ []
no_fixes [] kept some = absurd (some refl)
no_fixes (edit ∷ edits) kept some = stay_clear edits (edited edit kept) (clears edit kept)

-- ---- what is put back

module _ (kept after : Kept) (before : Before) (is : IsBefore kept before) (longer : IsLonger kept after) where
  abbrev pub put_back : List Commit → List File → List Change → Repository
  put_back history staged fixes = record { history = history; staged = staged; fixes = fixes }

  pub same_repository : put_back after.repo.history (map file_of before.staged.items) (map fix_of before.fixes.items) ≡ kept.repo
  same_repository =
      ap (λ (h : List Commit). put_back h (map file_of before.staged.items) (map fix_of before.fixes.items)) longer.history
      ∙ ap (λ (s : List File). put_back kept.repo.history s (map fix_of before.fixes.items)) is.staged
      ∙ ap (λ (f : List Change). put_back kept.repo.history kept.repo.staged f) is.fixes

  pub counted_again : before.staged_bytes ≡ path_bytes (map file_of before.staged.items)
  counted_again = is.bytes ∙ sym (ap path_bytes is.staged)

  pub all_same : (now : Kept) → now ≡ record after { repo = put_back after.repo.history (map file_of before.staged.items) (map fix_of before.fixes.items); contents = take before.count after.contents }
      → now ≡ kept
  all_same now now_is =
      now_is ∙ ap (λ (r : Repository). record after { repo = r; contents = take before.count after.contents }) same_repository
      ∙ ap (λ (l : List (List ℕ)). record after { repo = kept.repo; contents = l }) (ap (λ (n : ℕ). take n after.contents) is.count ∙ longer.front)
      ∙ ap₂ (λ (l : List KeptAnswer) (n : ℕ). record kept { answers = l; limit = n }) longer.answers longer.limit

-- ---- what is left is a store

one_complete : (edit : StagingEdit) (kept : Kept) → IsEditable edit kept → IsComplete kept → IsComplete (edited edit kept)
one_complete (Add path bytes asked) kept may complete = complete_staged path (entry_to_stage path bytes asked kept.repo.staged) kept complete may.fits may.apart
one_complete (Remove path) kept may complete = complete_unstaged path kept complete

one_obeys : (edit : StagingEdit) (kept : Kept) → IsEditable edit kept → IsComplete kept → AreStoreRows (tables_of kept) → AreStoreRows (tables_of (edited edit kept))
one_obeys (Add path bytes asked) kept may complete obeys =
    obeys_staged kept obeys path (entry_to_stage path bytes asked kept.repo.staged) may.legal may.small (one_complete (Add path bytes asked) kept may complete)
one_obeys (Remove path) kept may complete obeys = obeys_unstaged kept obeys path (complete_unstaged path kept complete)

pub all_stand : (edits : List StagingEdit) (kept : Kept) → AreEditable edits kept → IsComplete kept → AreStoreRows (tables_of kept)
    → IsComplete (all_edited edits kept) × AreStoreRows (tables_of (all_edited edits kept))
all_stand [] kept may complete obeys = (complete, obeys)
all_stand (edit ∷ edits) kept may complete obeys = all_stand edits (edited edit kept) may.1 (one_complete edit kept may.0 complete) (one_obeys edit kept may.0 complete obeys)

-- ---- the rows of the staged files

other_rows : (path : List ℕ) (rows : List StagedRow) (files : List File) → IsPermutation rows (map staged_row files)
    → IsPermutation (filter (λ (row : StagedRow). not (bytes_eq row.path path)) rows) (map staged_row (remove_file path files))
other_rows path rows files same =
    subst (IsPermutation (filter (λ (row : StagedRow). not (bytes_eq row.path path)) rows)) (others_staged path files)
    (IsPermutation-filter (λ (row : StagedRow). not (bytes_eq row.path path)) rows (map staged_row files) same)

one_rows : (edit : StagingEdit) (kept : Kept) (rows : List StagedRow) → IsRising kept.repo.staged → IsPermutation rows (map staged_row kept.repo.staged)
    → IsPermutation (edited_rows (made_edit edit kept) rows) (map staged_row (edited edit kept).repo.staged)
one_rows (Add path bytes asked) kept rows rising same =
    let file : File = record { path = path; entry = entry_to_stage path bytes asked kept.repo.staged } in
    IsPermutation-trans _ _ _ (IsPermutation-cons (staged_row file) _ _ (other_rows path rows kept.repo.staged same))
    (IsPermutation-map staged_row (file ∷ remove_file path kept.repo.staged) _ (put_moves file kept.repo.staged rising))
one_rows (Remove path) kept rows rising same = other_rows path rows kept.repo.staged same

one_rises : (edit : StagingEdit) (kept : Kept) → IsRising kept.repo.staged → IsRising (edited edit kept).repo.staged
one_rises (Add path bytes asked) kept rising = IsRising-put_row (record { path = path; entry = entry_to_stage path bytes asked kept.repo.staged }) kept.repo.staged rising
one_rises (Remove path) kept rising = IsRising-remove_file path kept.repo.staged rising

rows_edited : (edits : List StagingEdit) (kept : Kept) (rows : List StagedRow) → IsRising kept.repo.staged → IsPermutation rows (map staged_row kept.repo.staged)
    → IsPermutation (all_rows (made_edits edits kept) rows) (map staged_row (all_edited edits kept).repo.staged)
rows_edited [] kept rows rising same = same
rows_edited (edit ∷ edits) kept rows rising same = rows_edited edits (edited edit kept) (edited_rows (made_edit edit kept) rows) (one_rises edit kept rising) (one_rows edit kept rows rising same)

-- what the code hands over makes of the tables those of the edited files
pub editing_handed : (edits : List StagingEdit) (kept : Kept) (made : List PathEdit) (news : List (List ℕ)) → edits ≢ [] → IsRising kept.repo.staged → made ≡ made_edits edits kept
    → news ≡ drop (length kept.contents) (all_edited edits kept).contents
    → IsSame (with_staged_rows (all_rows made (tables_of kept).staged) (without_fixes (with_blobs news (tables_of kept)))) (tables_of (all_edited edits kept))
editing_handed edits kept made news some rising made_is news_is =
    let after = all_edited edits kept in
    let longer = all_longer edits kept in
    let staged = map staged_row kept.repo.staged in
    subst (λ (l : List PathEdit). IsSame (with_staged_rows (all_rows l staged) (without_fixes (with_blobs news (tables_of kept)))) (tables_of after)) (sym made_is)
    (subst (λ (l : List (List ℕ)). IsSame (with_staged_rows (all_rows (made_edits edits kept) staged) (without_fixes (with_blobs l (tables_of kept)))) (tables_of after)) (sym news_is)
    (record {
      meta =
          subst (λ (n : ℕ). IsPermutation (version_row ∷ limit_row (pos kept.limit) ∷ []) (version_row ∷ limit_row (pos n) ∷ [])) (sym longer.limit)
          (IsPermutation-refl (version_row ∷ limit_row (pos kept.limit) ∷ []));
      blobs = blobs_after kept.contents after.contents longer.front;
      staged = rows_edited edits kept staged rising (IsPermutation-refl staged);
      fixes = subst (λ (l : List Change). IsPermutation [] (map fix_row l)) (sym (no_fixes edits kept some)) (IsPermutation-refl []);
      commits = subst (λ (l : List Commit). IsPermutation (commit_rows 1 kept.repo.history) (commit_rows 1 l)) (sym longer.history) (IsPermutation-refl (commit_rows 1 kept.repo.history));
      entries = subst (λ (l : List Commit). IsPermutation (entry_rows 1 kept.repo.history) (entry_rows 1 l)) (sym longer.history) (IsPermutation-refl (entry_rows 1 kept.repo.history));
      answers = subst (λ (l : List KeptAnswer). IsPermutation (map answer_row kept.answers) (map answer_row l)) (sym longer.answers) (IsPermutation-refl (map answer_row kept.answers));
    }))

-- the answers stay
pub edits_go : {S A F : Type 0} (g : Ghosts S) (old new : Held S) (r : Result A F) (edits : List StagingEdit) (kept : Kept) (next : ℕ) (t u : Tables)
    → IsCall g old new r (λ db. HoldsListed next kept.answers db t) (λ db. HoldsListed next kept.answers db u)
    → IsCall g old new r (λ db. HoldsListed next kept.answers db t) (λ db. HoldsListed next (all_edited edits kept).answers db u)
edits_go g old new r edits kept next t u call =
    subst (λ (l : List KeptAnswer). IsCall g old new r (λ db. HoldsListed next kept.answers db t) (λ db. HoldsListed next l db u)) (sym (all_longer edits kept).answers) call

-- ---- one edit more, at a step of the loop

last_rows : (edits : List PathEdit) (edit : PathEdit) (rows : List StagedRow) → all_rows (edits ++ edit ∷ []) rows ≡ edited_rows edit (all_rows edits rows)
last_rows [] edit rows = refl
last_rows (first ∷ edits) edit rows = last_rows edits edit (edited_rows first rows)

abbrev pub Edits : {S : Type 0} → Ghosts S → Held S → Held S → List (List ℕ) → List SharedEdit → Type 0
Edits g old new news edits = IsStep {A = Unit {0}} g old new (Ok tt) (λ t. with_staged_rows (all_rows (map edit_of edits) t.staged) (without_fixes (with_blobs news t)))

pub edits_more : {S : Type 0} (g : Ghosts S) (old mid new : Held S) (news : List (List ℕ)) (edits : List SharedEdit) (i : ℕ) (edit : SharedEdit) → i < length edits → edit ≡ get_or edits i edit
    → Edits g old mid news (take i edits) → IsStep {A = Unit {0}} g mid new (Ok tt) (λ t. with_staged_rows (edited_rows (edit_of edit) t.staged) t) → Edits g old new news (take (i + 1) edits)
edits_more g old mid new news edits i edit within is one two =
    let before : Tables → Tables = λ t. with_staged_rows (all_rows (map edit_of (take i edits)) t.staged) (without_fixes (with_blobs news t)) in
    let put : Tables → Tables = λ t. with_staged_rows (edited_rows (edit_of edit) t.staged) t in
    let both = step_then g old mid new (Ok tt) before put one two in
    let more : map edit_of (take (i + 1) edits) ≡ map edit_of (take i edits) ++ edit_of edit ∷ [] =
    ap (map edit_of) (take_more edits i edit within ∙ ap (λ (e : SharedEdit). take i edits ++ e ∷ []) (sym is)) ∙ map-append edit_of (take i edits) (edit ∷ []) in
    step_same g old new (Ok tt) (λ t. put (before t)) (λ t. with_staged_rows (all_rows (map edit_of (take (i + 1) edits)) t.staged) (without_fixes (with_blobs news t)))
    (λ t.
    let rows : edited_rows (edit_of edit) (all_rows (map edit_of (take i edits)) t.staged) ≡ all_rows (map edit_of (take (i + 1) edits)) t.staged =
    sym (last_rows (map edit_of (take i edits)) (edit_of edit) t.staged) ∙ ap (λ (l : List PathEdit). all_rows l t.staged) (sym more) in
    same_staged (put (before t)) (all_rows (map edit_of (take (i + 1) edits)) t.staged)
    (subst (λ (l : List StagedRow). IsPermutation (edited_rows (edit_of edit) (all_rows (map edit_of (take i edits)) t.staged)) l) rows
    (IsPermutation-refl (edited_rows (edit_of edit) (all_rows (map edit_of (take i edits)) t.staged)))))
    both
