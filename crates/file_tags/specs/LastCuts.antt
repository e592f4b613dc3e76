-- A text that is cut at its last byte of a kind. Only private functions use this.
use Rattle.std.specs.Prelude.{◌≡◌, ℕ, Bool, false, not, ◌==◌, List, ◌∷◌, ◌++◌, Option}
use Rattle.std.specs.List.{list_any}
use Rattle.std.specs.Option.{MatchOption}
use denote.Ref.{Bor}
use Rattle.file_tags.specs.Cuts.{is_dot}

-- no byte is the mark
pub record LacksByte (mark : ℕ) (text : List ℕ) : Type 0 where
  pub none : list_any (λ byte. byte == mark) text ≡ false

-- the mark between the two parts is the text's last
pub record IsLastCut (mark : ℕ) (text before after : List ℕ) : Type 0 where
  pub whole : text ≡ before ++ mark ∷ after
  pub last : LacksByte mark after

-- the text's two parts; none if it lacks the mark
abbrev pub IsCutAtLast : ℕ → List ℕ → Option (Bor (List ℕ) × Bor (List ℕ)) → Type 0
IsCutAtLast mark text parts = MatchOption parts (LacksByte mark text) (λ cut. IsLastCut mark text cut.0.now cut.1.now)

-- some byte isn't a dot
abbrev pub has_other_than_dots : List ℕ → Bool
has_other_than_dots = list_any (λ byte. not (is_dot byte))
