-- For private functions of the modules `answer_list`, `lists`, `from_rows`, `opening` and `take_over`: the
-- answers in memory, the most recently used first.
use Rattle.std.specs.Prelude.{◌≡◌, ℕ, ◌+◌, ◌-◌, ◌^◌, ◌≤◌, Bool, not, List, [], ◌∷◌, filter, length, map, slice_get, Option, None, Some, if◌then◌else◌, option_map, refl}
use Rattle.std.specs.Coded.{Coded, code_by, coded×, coded_ℕ, coded_list}
use Rattle.std.specs.Map.{values_of}
use Rattle.std.specs.Option.{option_map_or}
use Rattle.hook_base.specs.declared.file.File.{File}
use Rattle.repo_store.specs.Answers.{KeptAnswer, answer_code, answer_for}
use Rattle.repo_store.specs.Index.{Key, key_of, keys_eq}
use Rattle.store_faults.specs.Limits.{IsLimit}
use Rattle.repo_store.specs.UsesOf.{greatest_tick}

-- The answers, the most recently used first, how many there may be, and the tick that the next use gets.
pub record ListedAnswers : Type 0 where
  pub answers : List KeptAnswer
  pub limit : ℕ
  pub next : ℕ

abbrev pub listed_answers_code : Coded ListedAnswers
listed_answers_code =
    code_by (List KeptAnswer × (ℕ × ℕ)) (coded× (coded_list answer_code) (coded× coded_ℕ coded_ℕ))
    (λ l. (l.answers, (l.limit, l.next))) (λ p. record { answers = p.0; limit = p.1.0; next = p.1.1 }) (λ _. refl)

-- a use can get this tick, or no tick is left
pub record IsNextTick (next : ℕ) : Type 0 where
  pub first : 1 ≤ next
  pub last : next ≤ greatest_tick + 1

-- ---- the answers by their keys

abbrev pub has_key : Key → KeptAnswer → Bool
has_key key answer = keys_eq key (key_of answer)

-- the answer of the key
abbrev pub of_key : Key → List KeptAnswer → Option KeptAnswer
of_key key [] = None
of_key key (answer ∷ answers) = if has_key key answer then Some answer else of_key key answers

-- the answers of other keys
abbrev pub of_other_keys : Key → List KeptAnswer → List KeptAnswer
of_other_keys key answers = filter (λ answer. not (has_key key answer)) answers

-- the answer of the key in front of the others, or all unchanged if there is none
abbrev pub brought_answers : Key → List KeptAnswer → List KeptAnswer
brought_answers key answers = option_map_or (λ answer. answer ∷ of_other_keys key answers) (of_key key answers) answers

abbrev pub first_key : List KeptAnswer → Option Key
first_key answers = option_map key_of (slice_get answers 0)

abbrev pub last_key : List KeptAnswer → Option Key
last_key answers = option_map key_of (slice_get answers (length answers - 1))

-- there is an answer with the words and the seen files, and this is its key
abbrev pub HaveAnswer : List (List ℕ) → List File → List KeptAnswer → Key → Type 0
HaveAnswer words seen answers key =
    (answer : KeptAnswer) × ((answer_for words seen answers ≡ Some answer) × (key_of answer ≡ key))

-- ---- in memory

abbrev pub keyed_answer : KeptAnswer → Key × KeptAnswer
keyed_answer answer = (key_of answer, answer)

-- the answers, each with its key
abbrev pub keyed : List KeptAnswer → List (Key × KeptAnswer)
keyed answers = map keyed_answer answers

-- Each entry has the key of its answer, and the map that holds them has no bound of its own.
pub record IsListed (entries : List (Key × KeptAnswer)) (cap limit next : ℕ) : Type 0 where
  pub keys : entries ≡ keyed (values_of entries)
  pub unbounded : cap ≡ 2 ^ 64 - 1
  pub limited : IsLimit limit
  pub ticking : IsNextTick next
