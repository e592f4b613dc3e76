-- The keys of answers: two are told apart by their digests.
use Rattle.std.proofs.Common.{◌≡◌, ℕ, ◌&&◌, true, List, refl, ap₂, subst}
use Rattle.std.specs.Str.{bytes_eq}
use Rattle.std.specs.Cmp.Lexicographic.{bytes_decides}
use Rattle.std.proofs.lemmas.Bool.{and_parts}
use Rattle.sha2.specs.Sha256.{sha256}
use Rattle.hook_base.specs.declared.file.File.{File}
use Rattle.hook_base.specs.RisingLemmas.{bytes_same}
use Rattle.answer_records.specs.Records.{seen_of_files, seen_record, words_record}
use Rattle.repo_store.specs.AnswerLemmas.{one_key}
use Rattle.repo_store.specs.Answers.{KeptAnswer, have_one_key}
use Rattle.repo_store.specs.Index.{Key, key_of, keys_eq}

pub keys_decide : (a b : Key) → (keys_eq a b ≡ true → a ≡ b) × (a ≡ b → keys_eq a b ≡ true)
keys_decide a b = (
  λ h. let both = and_parts (bytes_eq a.0 b.0) (bytes_eq a.1 b.1) h in ap₂ (λ (x y : List ℕ). let made : Key = (x, y) in made) ((bytes_decides a.0 b.0).0 both.0) ((bytes_decides a.1 b.1).0 both.1),
  λ is. subst (λ (k : Key). keys_eq a k ≡ true) is (ap₂ (λ x y. x && y) (bytes_same a.0 a.0 refl) (bytes_same a.1 a.1 refl)),
)

pub keys_same : (a b : KeptAnswer) → have_one_key a b ≡ true → key_of a ≡ key_of b
keys_same a b h =
    let both = one_key a b h in
    ap₂ (λ (words : List (List ℕ)) (seen : List File). let made : Key = (sha256 (words_record words), sha256 (seen_record (seen_of_files seen))) in made) both.0 both.1
