-- For private functions of the module `contents` and of those that hold answers or their uses: the indexes of
-- contents by their digests, and the keys of answers.
use Rattle.std.specs.Prelude.{◌≡◌, ℕ, ◌<◌, Bool, ◌&&◌, List, [], length, slice_index_or, Some}
use Rattle.std.specs.Str.{bytes_eq}
use Rattle.std.specs.HashMap.{HashMap, get}
use Rattle.sha2.specs.Sha256.{sha256}
use Rattle.repo_store.specs.Answers.{KeptAnswer}
use Rattle.repo_store.specs.WrittenAnswers.{written_seen, written_words}

-- The map gives the index of each by its key, and no other index.
pub record IsIndexedBy {X K S : Type 0} (same : K → K → Bool) (key : X → K) (blank : X) (places : HashMap K ℕ S)
    (xs : List X) : Type 0 where
  pub listed : (k : ℕ) → k < length xs → get same places (key (slice_index_or xs k blank)) ≡ Some k
  pub found : (q : K) (k : ℕ) → get same places q ≡ Some k → (k < length xs) × (key (slice_index_or xs k blank) ≡ q)

-- the map gives the index of each of the contents by its digest
abbrev pub IsIndexed : {S : Type 0} → HashMap (List ℕ) ℕ S → List (List ℕ) → Type 0
IsIndexed = IsIndexedBy bytes_eq sha256 []

abbrev pub Key : Type 0
Key = List ℕ × List ℕ

abbrev pub keys_eq : Key → Key → Bool
keys_eq a b = bytes_eq a.0 b.0 && bytes_eq a.1 b.1

-- the digests of the records of the words and of the seen files
abbrev pub key_of : KeptAnswer → Key
key_of answer = (sha256 (written_words answer), sha256 (written_seen answer))
