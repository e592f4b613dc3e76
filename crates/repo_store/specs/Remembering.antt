-- What a store makes of an answer that it is to cache.
use Rattle.std.specs.Prelude.{◌≡◌, ◌⊎◌, ℕ, true, List, [], ◌∷◌}
use Rattle.std.specs.List.{AllByRecursion, Any}
use Rattle.sha2.specs.Sha256.{sha256}
use Rattle.hook_base.specs.declared.file.File.{File}
use Rattle.answer_records.specs.Records.{seen_of_files, seen_record, words_record}
use Rattle.repo_store.specs.Answers.{KeptAnswer}
use Rattle.repo_store.specs.Contents.{Collides, has_digest, with_content}
use Rattle.repo_store.specs.Kept.{Kept}
use Rattle.store_faults.specs.Limits.{IsSmall}
use Rattle.repo_store.specs.UsedAnswers.{with_answer_within}
use Rattle.repo_store.specs.WrittenAnswers.{contents_for, contents_of_key}
use Rattle.store_tables.specs.declared.rows.AnswerRow.{AnswerRow}
use Rattle.store_tables.specs.Tables as tables
use Rattle.store_tables.specs.Tables.{Tables, without_answer}

-- the contents with all of these among them, kept one after another
abbrev pub with_contents : List (List ℕ) → List (List ℕ) → List (List ℕ)
with_contents [] contents = contents
with_contents (bytes ∷ more) contents = with_contents more (with_content bytes contents)

-- An answer is cached in front of the others, and its contents are kept. The last answer is removed if there
-- are more than the limit.
abbrev pub remembering : KeptAnswer → Kept → Kept
remembering answer kept =
    record kept {
      contents = with_contents (contents_for answer) kept.contents;
      answers = with_answer_within kept.limit
          answer kept.answers;
    }

-- each of these can be contents
abbrev pub AreSmall : List (List ℕ) → Type 0
AreSmall all = AllByRecursion IsSmall all

-- one of these collides with what is kept by then
abbrev pub SomeCollides : List (List ℕ) → List (List ℕ) → Type 0
SomeCollides [] contents = ⊥
SomeCollides (bytes ∷ more) contents = Collides bytes contents ⊎ SomeCollides more (with_content bytes contents)

-- one of these collides with the contents, each taken alone
abbrev pub AnyCollides : List (List ℕ) → List (List ℕ) → Type 0
AnyCollides all contents = Any (λ bytes. Collides bytes contents) all

-- the records of the words and of the seen files can be kept, and some contents have each digest of the key
pub record HasPlacedKey (contents words : List (List ℕ)) (seen : List File) : Type 0 where
  pub words_fit : IsSmall (words_record words)
  pub seen_fits : IsSmall (seen_record (seen_of_files seen))
  pub placed : AllByRecursion (λ bytes. has_digest (sha256 bytes) contents ≡ true) (contents_of_key words seen)

-- the row in place of the one of its key, if there is one
abbrev pub with_answer_row : AnswerRow → Tables → Tables
with_answer_row row t = tables.with_answer row (without_answer row.words row.seen t)
