-- A repository, the contents that are kept for it, and the cached answers of children.
use Rattle.std.specs.Prelude.{◌≡◌, ℕ, Bool, List, [], Some, MatchOption, slice_get, take, refl}
use Rattle.std.specs.List.{Any}
use Rattle.std.specs.Coded.{Coded, code_by, coded×, coded_ℕ, coded_bool, coded_list}
use Rattle.hook_base.specs.declared.file.File.{File}
use Rattle.hook_base.specs.declared.change.Change.{Change}
use Rattle.hook_base.specs.contracts.file.File as file
use Rattle.hook_base.specs.contracts.change.Change as change
use Rattle.hook_base.specs.declared.file.FileEntry.{FileEntry}
use Rattle.repo_store.specs.Answers.{KeptAnswer, answer_code}
use Rattle.repo_store.specs.Contents.{with_content, with_changes, Collides}
use Rattle.store_faults.specs.Limits.{IsSmall, first_limit}
use Rattle.repo_store.specs.UsedAnswers.{used, within_limit}
use Rattle.repo_store.specs.Repository.{Commit, Repository, empty, with_staged_file, without_staged_file, with_new_commit, accepted, with_fixes, staged_changes}

pub record Kept : Type 0 where
  pub repo : Repository
  -- in the order in which they came, the oldest first; the tables don't give this order
  pub contents : List (List ℕ)
  -- the most recently used first
  pub answers : List KeptAnswer
  -- how many answers are cached at most
  pub limit : ℕ

-- what an empty store keeps
abbrev pub nothing_kept : Kept
nothing_kept = record { repo = empty; contents = []; answers = []; limit = first_limit }

-- ---- what the calls make of it

-- a file is staged
abbrev pub staging : List ℕ → FileEntry → Kept → Kept
staging path entry kept =
    record kept { repo = with_staged_file path entry kept.repo; contents = with_content entry.bytes kept.contents }

-- a path is removed from the staged files
abbrev pub unstaging : List ℕ → Kept → Kept
unstaging path kept = record kept { repo = without_staged_file path kept.repo }

-- contents are kept
abbrev pub keeping : List ℕ → Kept → Kept
keeping bytes kept = record kept { contents = with_content bytes kept.contents }

-- one more commit, of the staged files
abbrev pub committing : List ℕ → Kept → Kept
committing message kept = record kept { repo = with_new_commit message kept.repo }

-- the fixes are set, and their contents are kept
abbrev pub setting : List Change → Kept → Kept
setting changes kept =
    record kept {
      repo = with_fixes changes kept.repo;
      contents = with_changes (staged_changes changes kept.repo.staged)
          kept.contents;
    }

-- the fixes are accepted
abbrev pub accepting : Kept → Kept
accepting kept = record kept { repo = accepted kept.repo }

-- all cached answers are removed; the contents stay
abbrev pub forgetting : Kept → Kept
forgetting kept = record kept { answers = [] }

-- the answer to the words and the seen files is used, if there is one
abbrev pub using : List (List ℕ) → List File → Kept → Kept
using words seen kept = record kept { answers = used words seen kept.answers }

-- the limit on cached answers is set, and the least recently used are removed if there are more; the contents
-- stay
abbrev pub limiting : ℕ → Kept → Kept
limiting limit kept = record kept { answers = within_limit limit kept.answers; limit = limit }

-- why fixes can't be set: one of them is too large
abbrev pub HasLarge : List Change → Type 0
HasLarge fixes = Any (λ (change : Change). MatchOption change.now ⊥ (λ bytes. ¬ IsSmall bytes)) fixes

-- or its contents collide with those that are kept by then
pub record FixCollides (fixes : List Change) (contents : List (List ℕ)) : Type 0 where
  pub at : ℕ
  pub change : Change
  pub is : slice_get fixes at ≡ Some change
  pub collides : MatchOption change.now ⊥ (λ bytes. Collides bytes (with_changes (take at fixes) contents))

-- ---- their codes, made of those of their parts

abbrev pub commit_code : Coded Commit
commit_code =
    code_by (List ℕ × List File) (coded× (coded_list coded_ℕ) (coded_list file.the_row.coded))
    (λ c. (c.message, c.tree)) (λ p. record { message = p.0; tree = p.1 }) (λ _. refl)

abbrev pub repository_code : Coded Repository
repository_code =
    code_by (List Commit × (List File × List Change))
    (coded× (coded_list commit_code) (coded× (coded_list file.the_row.coded) (coded_list change.the_row.coded)))
    (λ r. (r.history, (r.staged, r.fixes))) (λ p. record { history = p.0; staged = p.1.0; fixes = p.1.1 }) (λ _. refl)

abbrev pub kept_code : Coded Kept
kept_code =
    code_by (Repository × (List (List ℕ) × (List KeptAnswer × ℕ)))
    (coded× repository_code (coded× (coded_list (coded_list coded_ℕ)) (coded× (coded_list answer_code) coded_ℕ)))
    (λ k. (k.repo, (k.contents, (k.answers, k.limit))))
    (λ p. record { repo = p.0; contents = p.1.0; answers = p.1.1.0; limit = p.1.1.1 }) (λ _. refl)

-- What is kept, and whether the lists in memory have room for one more staged file and one more commit.
-- `next` is the tick that the next use of an answer had when the lists were read.
pub record Mirror : Type 0 where
  pub kept : Kept
  pub has_room : Bool
  pub next : ℕ

abbrev pub mirror_code : Coded Mirror
mirror_code =
    code_by (Kept × (Bool × ℕ)) (coded× kept_code (coded× coded_bool coded_ℕ)) (λ m. (m.kept, (m.has_room, m.next)))
    (λ p. record { kept = p.0; has_room = p.1.0; next = p.1.1 }) (λ _. refl)
