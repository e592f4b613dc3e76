-- The cached answers of children (docs/REFERENCE.md, "Cached results").
use Rattle.std.specs.Prelude.{◌≡◌, ℕ, Bool, false, ◌&&◌, List, [], ◌∷◌, Option, None, Some, if◌then◌else◌, refl}
use Rattle.std.specs.Cmp.Lexicographic.{pointwise}
use Rattle.std.specs.Coded.{Coded, code_by, coded×, coded_ℕ, coded_list}
use Rattle.std.specs.Str.{bytes_eq}
use Rattle.sqlite_trees.specs.Tree.{IsAscending}
use Rattle.hook_base.specs.declared.file.File.{File}
use Rattle.hook_base.specs.declared.change.Change.{Change}
use Rattle.hook_base.specs.SameFiles.{is_same_file}
use Rattle.hook_base.specs.contracts.file.File as file
use Rattle.hook_base.specs.contracts.change.Change as change

-- An answer, with whole contents. A child was given the words of its command and the files that it saw. What
-- it did is its output, its changes, and its exit code.
pub record KeptAnswer : Type 0 where
  pub words : List (List ℕ)
  pub seen : List File
  pub output : List ℕ
  pub changes : List Change
  pub status : ℕ

-- ---- its key

-- the answer has these words and these seen files, with their modes and bytes
abbrev pub is_for : List (List ℕ) → List File → KeptAnswer → Bool
is_for words seen answer = pointwise bytes_eq answer.words words && pointwise is_same_file answer.seen seen

-- an answer's key is the words of its command and the files that its child saw
abbrev pub have_one_key : KeptAnswer → KeptAnswer → Bool
have_one_key a b = is_for b.words b.seen a

-- no two have the same key
abbrev pub HaveOwnKeys : List KeptAnswer → Type 0
HaveOwnKeys = IsAscending (λ a b. have_one_key a b ≡ false)

-- the answer that is cached for the words and the seen files
abbrev pub answer_for : List (List ℕ) → List File → List KeptAnswer → Option KeptAnswer
answer_for words seen [] = None
answer_for words seen (answer ∷ answers) =
    if is_for words seen answer then Some answer else answer_for words seen answers

-- ---- its code, made of those of its parts

abbrev pub answer_code : Coded KeptAnswer
answer_code =
    code_by (List (List ℕ) × (List File × (List ℕ × (List Change × ℕ))))
    (coded× (coded_list (coded_list coded_ℕ))
    (coded× (coded_list file.the_row.coded)
    (coded× (coded_list coded_ℕ) (coded× (coded_list change.the_row.coded) coded_ℕ))))
    (λ a. (a.words, (a.seen, (a.output, (a.changes, a.status)))))
    (λ p. record { words = p.0; seen = p.1.0; output = p.1.1.0; changes = p.1.1.1.0; status = p.1.1.1.1 })
    (λ _. refl)
