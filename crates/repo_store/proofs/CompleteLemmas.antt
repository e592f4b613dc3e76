-- Each change leaves a complete repository.
use Rattle.std.proofs.Common.{◌≡◌, ℕ, zero, suc, ◌<◌, ◌||◌, true, false, List, [], ◌∷◌, ◌++◌, length, get_or, if◌then◌else◌, Option, None, Some, MatchOption, refl, sym, ap, subst, ◌∙◌, inl, inr, arith, length-append}
use Rattle.std.specs.declared.cmp.Ordering.TheVariants.{Less, Equal, Greater}
use Rattle.std.specs.List.{AllByRecursion}
use Rattle.std.specs.Str.{bytes_eq}
use Rattle.std.proofs.lemmas.Bool.{cases_lt}
use Rattle.std.proofs.lemmas.List.Folds.{list_any_at, list_any-append}
use lib.Seq.{get_or-append_seam}
use lib.ListN.{get_or-append}
use Rattle.sha2.specs.Sha256.{sha256}
use Rattle.hook_base.specs.declared.file.File.{File}
use Rattle.hook_base.specs.declared.file.FileEntry.{FileEntry}
use Rattle.hook_base.specs.declared.change.Change.{Change}
use Rattle.hook_base.specs.Rising.{path_cmp}
use Rattle.hook_base.specs.RisingLemmas.{bytes_same}
use Rattle.hook_base.specs.Trees.{IsRisingChanges, apply_at, apply_changes, put_before, put_file, put_row, remove_file, rewrite_file, with_bytes}
use Rattle.repo_store.specs.AnswerLemmas.{all_within, few_within, own_keys_within}
use Rattle.repo_store.specs.Answers.{KeptAnswer}
use Rattle.repo_store.specs.Complete.{HasRecords, HaveDistinctDigests, HaveContents, HaveNewContents, HaveRecords, IsAmong, IsComplete}
use Rattle.repo_store.specs.Contents.{Collides, has_content, with_content, with_new, with_changes}
use Rattle.repo_store.specs.Kept.{FixCollides, Kept, accepting, committing, forgetting, keeping, limiting, nothing_kept, setting, staging, unstaging}
use Rattle.store_faults.specs.Limits.{Fits, IsLimit, most_commits}
use Rattle.repo_store.specs.FromRows.{AreBare, with_file}
use Rattle.repo_store.specs.Repository.{Commit, Repository, staged_changes}
use Rattle.repo_store.specs.SoundAnswers.{IsSoundAnswer}
use Rattle.repo_store.specs.WrittenAnswers.{written_changes, written_seen, written_words}
use Rattle.repo_store.proofs.FromRowsLemmas.{all_pushed}
use Rattle.repo_store.proofs.SoundLemmas.{fixes_fit, fixes_rise, sound_accepted, sound_committed, sound_empty, sound_staged, sound_unstaged}
use Rattle.repo_store.proofs.RowRuleLemmas.{all_weaker}

option_weaker : (P Q : List ℕ → Type 0) (now : Option (List ℕ)) → ((b : List ℕ) → P b → Q b) → MatchOption now (Unit {0}) P → MatchOption now (Unit {0}) Q
option_weaker P Q None f it = tt
option_weaker P Q (Some bytes) f it = f bytes it

-- ---- what the files have, after a change of them

module _ (P : List ℕ → Type 0) where
  abbrev Have : List File → Type 0
  Have files = AllByRecursion (λ (file : File). P file.entry.bytes) files

  have_put : (new : File) (rows : List File) → P new.entry.bytes → Have rows → Have (put_row new rows)
  have_put new [] here all = (here, tt)
  have_put new (row ∷ rows) here all =
      elim (path_cmp new.path row.path) as (λ o. Have (put_before o new row rows (put_row new rows))) [ Less ↦ (here, all) | Equal ↦ (here, all.1) | Greater ↦ (all.0, have_put new rows here all.1) ]

  have_removed : (path : List ℕ) (rows : List File) → Have rows → Have (remove_file path rows)
  have_removed path [] all = tt
  have_removed path (row ∷ rows) all =
      elim (bytes_eq path row.path) as (λ b. Have (if b then remove_file path rows else row ∷ remove_file path rows))
      [ true ↦ have_removed path rows all.1 | false ↦ (all.0, have_removed path rows all.1) ]

  have_rewritten : (path bytes : List ℕ) (rows : List File) → P bytes → Have rows → Have (rewrite_file path bytes rows)
  have_rewritten path bytes [] here all = tt
  have_rewritten path bytes (row ∷ rows) here all =
      (elim (bytes_eq path row.path) as (λ b. P (if b then with_bytes bytes row else row).entry.bytes) [ true ↦ here | false ↦ all.0 ], have_rewritten path bytes rows here all.1)

  have_changed : (path : List ℕ) (now : Option (List ℕ)) (rows : List File) → MatchOption now (Unit {0}) P → Have rows → Have (apply_at path now rows)
  have_changed path None rows here all = have_removed path rows all
  have_changed path (Some bytes) rows here all = have_rewritten path bytes rows here all

  have_applied : (changes : List Change) (rows : List File) → AllByRecursion (λ (change : Change). MatchOption change.now (Unit {0}) P) changes → Have rows → Have (apply_changes changes rows)
  have_applied [] rows news all = all
  have_applied (change ∷ changes) rows news all = have_applied changes (apply_at change.path change.now rows) news.1 (have_changed change.path change.now rows news.0 all)

  -- commits without files, and with one more
  abbrev HaveAll : List Commit → Type 0
  HaveAll commits = AllByRecursion (λ (commit : Commit). Have commit.tree) commits

  pub have_bare : (commits : List Commit) → AreBare commits → HaveAll commits
  have_bare [] bare = tt
  have_bare (commit ∷ commits) bare = (subst Have (sym bare.0) tt, have_bare commits bare.1)

  pub have_entered : (place : ℕ) (file : File) (commits : List Commit) → P file.entry.bytes → HaveAll commits → HaveAll (with_file place file commits)
  have_entered place file [] here all = tt
  have_entered zero file (commit ∷ commits) here all = (all_pushed (λ (f : File). P f.entry.bytes) commit.tree file all.0 here, all.1)
  have_entered (suc place) file (commit ∷ commits) here all = (all.0, have_entered place file commits here all.1)

-- ---- what is among the contents, after more of them

pub still : (x bytes : List ℕ) (contents : List (List ℕ)) → IsAmong contents x → IsAmong (with_content bytes contents) x
still x bytes contents there =
    elim (has_content bytes contents) as (λ b. has_content x (if b then contents else contents ++ bytes ∷ []) ≡ true) [
      | true ↦ there
      | false ↦ list_any-append (bytes_eq x) contents (bytes ∷ []) ∙ ap (λ b. b || has_content x (bytes ∷ [])) there
    ]

pub here_now : (bytes : List ℕ) (contents : List (List ℕ)) → IsAmong (with_content bytes contents) bytes
here_now bytes contents =
    elim (has_content bytes contents) as (λ b. has_content bytes contents ≡ b → has_content bytes (if b then contents else contents ++ bytes ∷ []) ≡ true) [
      | true ↦ λ e. e
      | false ↦ λ e.
          list_any_at (bytes_eq bytes) (contents ++ bytes ∷ []) (length contents) [] (omega (arith, length-append contents (bytes ∷ [])))
          (bytes_same bytes (get_or (contents ++ bytes ∷ []) (length contents) []) (sym (get_or-append_seam contents bytes [] [])))
    ] refl

still_new : (x : List ℕ) (now : Option (List ℕ)) (contents : List (List ℕ)) → IsAmong contents x → IsAmong (with_new now contents) x
still_new x None contents there = there
still_new x (Some bytes) contents there = still x bytes contents there

new_now : (now : Option (List ℕ)) (contents : List (List ℕ)) → MatchOption now (Unit {0}) (IsAmong (with_new now contents))
new_now None contents = tt
new_now (Some bytes) contents = here_now bytes contents

still_all : (x : List ℕ) (changes : List Change) (contents : List (List ℕ)) → IsAmong contents x → IsAmong (with_changes changes contents) x
still_all x [] contents there = there
still_all x (change ∷ changes) contents there = still_all x changes (with_new change.now contents) (still_new x change.now contents there)

all_now : (changes : List Change) (contents : List (List ℕ)) → HaveNewContents (with_changes changes contents) changes
all_now [] contents = tt
all_now (change ∷ changes) contents =
    let next = with_new change.now contents in
    (option_weaker (IsAmong next) (IsAmong (with_changes changes next)) change.now (λ b there. still_all b changes next there) (new_now change.now contents), all_now changes next)

-- ---- no two under one digest

module _ (bytes : List ℕ) (contents : List (List ℕ)) (clear : ¬ Collides bytes contents) (absent : has_content bytes contents ≡ false) where
  no_same : (i : ℕ) → i < length contents → sha256 (get_or contents i []) ≡ sha256 bytes → ⊥
  no_same i within same =
      clear (record {
        at = i;
        within = within;
        same_digest = same;
        differs = λ e. let there : has_content bytes contents ≡ true = list_any_at (bytes_eq bytes) contents i [] within (bytes_same bytes (get_or contents i []) (sym e)) in let never : true ≡ false =
            sym there ∙ absent in absurd (cc);
      })

apart_pushed : (bytes : List ℕ) (contents : List (List ℕ)) → ¬ Collides bytes contents → has_content bytes contents ≡ false → HaveDistinctDigests contents
    → HaveDistinctDigests (contents ++ bytes ∷ [])
apart_pushed bytes contents clear absent apart i j i_in j_in same =
    let one = length-append contents (bytes ∷ []) in
    let last : get_or (contents ++ bytes ∷ []) (length contents) [] ≡ bytes = get_or-append_seam contents bytes [] [] in
    elim (cases_lt i (length contents)) [
      | inl i_lt ↦
          let i_is : get_or (contents ++ bytes ∷ []) i [] ≡ get_or contents i [] = get_or-append contents (bytes ∷ []) [] i i_lt in
          elim (cases_lt j (length contents)) [
            | inl j_lt ↦ apart i j i_lt j_lt (ap sha256 (sym i_is) ∙ same ∙ ap sha256 (get_or-append contents (bytes ∷ []) [] j j_lt))
            | inr j_ge ↦
                let j_is : j ≡ length contents = omega arith in
                absurd (no_same bytes contents clear absent i i_lt (ap sha256 (sym i_is) ∙ same ∙ ap (λ (k : ℕ). sha256 (get_or (contents ++ bytes ∷ []) k [])) j_is ∙ ap sha256 last))
          ]
      | inr i_ge ↦
          let i_is : i ≡ length contents = omega arith in
          elim (cases_lt j (length contents)) [
            | inl j_lt ↦
                absurd (no_same bytes contents clear absent j j_lt (ap sha256 (sym (get_or-append contents (bytes ∷ []) [] j j_lt)) ∙ sym same
                ∙ ap (λ (k : ℕ). sha256 (get_or (contents ++ bytes ∷ []) k [])) i_is ∙ ap sha256 last))
            | inr j_ge ↦ omega arith
          ]
    ]

pub apart_with : (bytes : List ℕ) (contents : List (List ℕ)) → ¬ Collides bytes contents → HaveDistinctDigests contents → HaveDistinctDigests (with_content bytes contents)
apart_with bytes contents clear apart =
    elim (has_content bytes contents) as (λ b. has_content bytes contents ≡ b → HaveDistinctDigests (if b then contents else contents ++ bytes ∷ []))
    [ true ↦ λ e. apart | false ↦ λ e. apart_pushed bytes contents clear e apart ] refl

apart_new : (now : Option (List ℕ)) (contents : List (List ℕ)) → ¬ MatchOption now ⊥ (λ bytes. Collides bytes contents) → HaveDistinctDigests contents → HaveDistinctDigests (with_new now contents)
apart_new None contents clear apart = apart
apart_new (Some bytes) contents clear apart = apart_with bytes contents clear apart

apart_all : (changes : List Change) (contents : List (List ℕ)) → ¬ FixCollides changes contents → HaveDistinctDigests contents → HaveDistinctDigests (with_changes changes contents)
apart_all [] contents clear apart = apart
apart_all (change ∷ changes) contents clear apart =
    apart_all changes (with_new change.now contents) (λ later. clear (record { at = suc later.at; change = later.change; is = later.is; collides = later.collides }))
    (apart_new change.now contents (λ collides. clear (record { at = 0; change = change; is = refl; collides = collides })) apart)

-- ---- the calls

pub grown : (old new : List (List ℕ)) (repo : Repository) → ((x : List ℕ) → IsAmong old x → IsAmong new x) → AllByRecursion (λ (commit : Commit). HaveContents old commit.tree) repo.history
    → AllByRecursion (λ (commit : Commit). HaveContents new commit.tree) repo.history
grown old new repo grows all =
    all_weaker (λ (commit : Commit). HaveContents old commit.tree) (λ (commit : Commit). HaveContents new commit.tree) repo.history
    (λ commit there. all_weaker (λ (file : File). IsAmong old file.entry.bytes) (λ (file : File). IsAmong new file.entry.bytes) commit.tree (λ file. grows file.entry.bytes) there) all

pub files_grown : (old new : List (List ℕ)) (files : List File) → ((x : List ℕ) → IsAmong old x → IsAmong new x) → HaveContents old files → HaveContents new files
files_grown old new files grows all = all_weaker (λ (file : File). IsAmong old file.entry.bytes) (λ (file : File). IsAmong new file.entry.bytes) files (λ file. grows file.entry.bytes) all

pub fixes_grown : (old new : List (List ℕ)) (fixes : List Change) → ((x : List ℕ) → IsAmong old x → IsAmong new x) → HaveNewContents old fixes → HaveNewContents new fixes
fixes_grown old new fixes grows all =
    all_weaker (λ (change : Change). MatchOption change.now (Unit {0}) (IsAmong old)) (λ (change : Change). MatchOption change.now (Unit {0}) (IsAmong new)) fixes
    (λ change. option_weaker (IsAmong old) (IsAmong new) change.now grows) all

pub records_grown : (old new : List (List ℕ)) (answers : List KeptAnswer) → ((x : List ℕ) → IsAmong old x → IsAmong new x) → HaveRecords old answers → HaveRecords new answers
records_grown old new answers grows all =
    all_weaker (HasRecords old) (HasRecords new) answers
    (λ answer there. record {
      words = grows (written_words answer) there.words;
      seen = grows (written_seen answer) there.seen;
      output = grows answer.output there.output;
      changes = grows (written_changes answer) there.changes;
      seen_contents = files_grown old new answer.seen grows there.seen_contents;
      new_contents = fixes_grown old new answer.changes grows there.new_contents;
    }) all

pub complete_empty : IsComplete nothing_kept
complete_empty =
    record {
      sound = sound_empty;
      staged = tt;
      fixes = tt;
      trees = tt;
      sound_answers = tt;
      answers = tt;
      keys = tt;
      apart = λ i j i_in j_in same. absurd (omega arith);
      limited =
          record { at_least = omega arith; at_most = omega arith };
      few = omega arith;
    }

pub complete_staged : (path : List ℕ) (entry : FileEntry) (kept : Kept) → IsComplete kept → Fits (put_file path entry kept.repo.staged) → ¬ Collides entry.bytes kept.contents
    → IsComplete (staging path entry kept)
complete_staged path entry kept it fits clear =
    let new = with_content entry.bytes kept.contents in
    let grows : (x : List ℕ) → IsAmong kept.contents x → IsAmong new x = λ x there. still x entry.bytes kept.contents there in
    record {
      sound = sound_staged path entry kept.repo it.sound fits;
      staged = have_put (IsAmong new) (record { path = path; entry = entry }) kept.repo.staged (here_now entry.bytes kept.contents) (files_grown kept.contents new kept.repo.staged grows it.staged);
      fixes = tt;
      trees = grown kept.contents new kept.repo grows it.trees;
      sound_answers = it.sound_answers;
      answers = records_grown kept.contents new kept.answers grows it.answers;
      keys = it.keys;
      apart = apart_with entry.bytes kept.contents clear it.apart;
      limited = it.limited;
      few = it.few;
    }

pub complete_unstaged : (path : List ℕ) (kept : Kept) → IsComplete kept → IsComplete (unstaging path kept)
complete_unstaged path kept it =
    record {
      sound = sound_unstaged path kept.repo it.sound;
      staged = have_removed (IsAmong kept.contents) path kept.repo.staged it.staged;
      fixes = tt;
      trees = it.trees;
      sound_answers =
          it.sound_answers;
      answers = it.answers;
      keys = it.keys;
      apart = it.apart;
      limited = it.limited;
      few = it.few;
    }

pub complete_kept : (bytes : List ℕ) (kept : Kept) → IsComplete kept → ¬ Collides bytes kept.contents → IsComplete (keeping bytes kept)
complete_kept bytes kept it clear =
    let new = with_content bytes kept.contents in
    let grows : (x : List ℕ) → IsAmong kept.contents x → IsAmong new x = λ x there. still x bytes kept.contents there in
    record {
      sound = it.sound;
      staged = files_grown kept.contents new kept.repo.staged grows it.staged;
      fixes = fixes_grown kept.contents new kept.repo.fixes grows it.fixes;
      trees = grown kept.contents new kept.repo grows it.trees;
      sound_answers = it.sound_answers;
      answers = records_grown kept.contents new kept.answers grows it.answers;
      keys = it.keys;
      apart = apart_with bytes kept.contents clear it.apart;
      limited = it.limited;
      few = it.few;
    }

pub complete_committed : (message : List ℕ) (kept : Kept) → IsComplete kept → length kept.repo.history < most_commits → IsComplete (committing message kept)
complete_committed message kept it few = record {
  sound = sound_committed message kept.repo it.sound few;
  staged = it.staged;
  fixes = tt;
  trees = all_pushed (λ (commit : Commit). HaveContents kept.contents commit.tree) kept.repo.history (record { message = message; tree = kept.repo.staged }) it.trees it.staged;
  sound_answers = it.sound_answers;
  answers = it.answers;
  keys = it.keys;
  apart = it.apart;
  limited = it.limited;
  few = it.few;
}

pub complete_forgotten : (kept : Kept) → IsComplete kept → IsComplete (forgetting kept)
complete_forgotten kept it =
    record { sound = it.sound; staged = it.staged; fixes = it.fixes; trees = it.trees; sound_answers = tt; answers = tt; keys = tt; apart = it.apart; limited = it.limited; few = omega arith }

pub complete_limited : (limit : ℕ) (kept : Kept) → IsLimit limit → IsComplete kept → IsComplete (limiting limit kept)
complete_limited limit kept limited it = record {
  sound = it.sound;
  staged = it.staged;
  fixes = it.fixes;
  trees = it.trees;
  sound_answers = all_within IsSoundAnswer limit kept.answers it.sound_answers;
  answers = all_within (HasRecords kept.contents) limit kept.answers it.answers;
  keys = own_keys_within limit kept.answers it.keys;
  apart = it.apart;
  limited = limited;
  few = few_within limit kept.answers;
}

pub complete_accepted : (kept : Kept) → IsComplete kept → IsComplete (accepting kept)
complete_accepted kept it =
    record {
      sound = sound_accepted kept.repo it.sound;
      staged = have_applied (IsAmong kept.contents) kept.repo.fixes kept.repo.staged it.fixes it.staged;
      fixes = tt;
      trees = it.trees;
      sound_answers =
          it.sound_answers;
      answers = it.answers;
      keys = it.keys;
      apart = it.apart;
      limited = it.limited;
      few = it.few;
    }

pub complete_set : (changes : List Change) (kept : Kept) → IsComplete kept → IsRisingChanges changes → ¬ FixCollides (staged_changes changes kept.repo.staged) kept.contents
    → IsComplete (setting changes kept)
complete_set changes kept it rising clear =
    let fixes = staged_changes changes kept.repo.staged in
    let new = with_changes fixes kept.contents in
    let grows : (x : List ℕ) → IsAmong kept.contents x → IsAmong new x = λ x there. still_all x fixes kept.contents there in
    record {
      sound = record {
        staged_rise = it.sound.staged_rise;
        staged_fit = it.sound.staged_fit;
        fixes_rise = fixes_rise changes kept.repo rising;
        fixes_fit = fixes_fit changes kept.repo it.sound rising;
        trees_rise = it.sound.trees_rise;
        numbered = it.sound.numbered;
      };
      staged = files_grown kept.contents new kept.repo.staged grows it.staged;
      fixes = all_now fixes kept.contents;
      trees = grown kept.contents new kept.repo grows it.trees;
      sound_answers = it.sound_answers;
      answers = records_grown kept.contents new kept.answers grows it.answers;
      keys = it.keys;
      apart = apart_all fixes kept.contents clear it.apart;
      limited = it.limited;
      few = it.few;
    }
