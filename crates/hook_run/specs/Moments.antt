-- What a run changes apart from the files of its tree, at one moment.
use Rattle.std.specs.Prelude.{ℕ}
use Rattle.result_book.specs.Contents.{Contents}

-- how many outcomes the children have reported, how many of them were faults, and what is cached
pub record Moment : Type 0 where
  pub calls : ℕ
  pub faults : ℕ
  pub remembered : Contents

abbrev pub moment : ℕ → ℕ → Contents → Moment
moment calls faults remembered = record { calls = calls; faults = faults; remembered = remembered }
