-- What a writer took in a call. Nothing is claimed of a writer whose bytes aren't known.
use Rattle.std.specs.Prelude.{◌≡◌, ◌++◌, ℕ, List, Option}
use Rattle.std.specs.Io.KnownBytes.{Appends, Keeps}

-- the bytes that a writer had before a call and has after it, if they are known
pub record Output : Type 0 where
  pub held : Option (List ℕ)
  pub holds : Option (List ℕ)

-- these bytes are there before a call, and these after it
abbrev pub output_of : Option (List ℕ) → Option (List ℕ) → Output
output_of held holds = record { held = held; holds = holds }

-- nothing was written
abbrev pub IsSilent : Output → Type 0
IsSilent output = Keeps output.held output.holds

-- the text was written, and nothing else
abbrev pub Has : Output → List ℕ → Type 0
Has output text = Appends output.held output.holds text

-- A beginning of the text was written, and nothing else: what a writer took before it gave an error. If only
-- the flush gave it, that may be the whole text.
pub record HasBeginning (output : Output) (text : List ℕ) : Type 0 where
  pub part : List ℕ
  pub rest : List ℕ
  pub cut : text ≡ part ++ rest
  pub written : Has output part
