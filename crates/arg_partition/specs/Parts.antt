-- The parts of a command: its words followed by some of the names, cut so that each part is short enough. The
-- cut is greedy, like that of pre-commit's `pre_commit.xargs.partition`.
use Rattle.std.specs.Prelude.{◌≡◌, ℕ, ◌+◌, ◌-◌, ◌<◌, ◌&&◌, Bool, true, false, not, nat_le, if◌then◌else◌, List, [], ◌∷◌, ◌++◌, length, sum_by, position, slice_range, Option, Some, None, All}
use Rattle.arg_partition.specs.declared.cut.Cut.{Cut}

-- the bytes of a command: those of its words, and one byte between neighbours
abbrev pub command_length : List (List ℕ) → ℕ
command_length [] = 0
command_length (word ∷ words) = length word + sum_by (λ other. 1 + length other) words

-- the words followed by these names are short enough
abbrev pub fits : List (List ℕ) → ℕ → List (List ℕ) → Bool
fits words limit names = nat_le (command_length (words ++ names)) limit

-- the index of the first name that doesn't fit with the words alone; without names, 0 if the words don't fit.
-- `fits` says which names fit
abbrev pub too_long_at : (List (List ℕ) → Bool) → List (List ℕ) → Option ℕ
too_long_at fits [] = if fits [] then None else Some 0
too_long_at fits (name ∷ names) = position (λ one. not (fits (one ∷ []))) (name ∷ names)

-- the names from `start` up to `end` are few enough, and fit
abbrev pub can_be_part : (List (List ℕ) → Bool) → ℕ → List (List ℕ) → ℕ → ℕ → Bool
can_be_part fits most names start end = nat_le (end - start) most && fits (slice_range names start end)

-- a part that couldn't take the next name, and that has a name if there are any
pub record IsPart (fits : List (List ℕ) → Bool) (most : ℕ) (names : List (List ℕ)) (cut : Cut) : Type 0 where
  pub can_be : can_be_part fits most names cut.start cut.end ≡ true
  pub named : 0 < length names → cut.start < cut.end
  pub full : cut.end < length names → can_be_part fits most names cut.start (cut.end + 1) ≡ false

-- the names of a part
abbrev pub names_of : List (List ℕ) → Cut → List (List ℕ)
names_of names cut = slice_range names cut.start cut.end

-- the first cut begins at `start`, each other one where the one before it ends, and the last one ends at
-- `end`
abbrev pub Adjoin : ℕ → List Cut → ℕ → Type 0
Adjoin start [] end = start ≡ end
Adjoin start (cut ∷ cuts) end = (cut.start ≡ start) × Adjoin cut.end cuts end

-- the parts of all names, in order; if there are no names, one part without names
pub record AreParts (fits : List (List ℕ) → Bool) (most : ℕ) (names : List (List ℕ)) (cuts : List Cut) : Type 0 where
  pub adjoin : Adjoin 0 cuts (length names)
  pub parts : All (IsPart fits most names) cuts
  pub alone : length names ≡ 0 → cuts ≡ record { start = 0; end = 0 } ∷ []
