-- The law `seen_may_stay` of `LazyDisk`.
use Rattle.std.specs.Prelude.{ℕ, List, take, Option, Some, None}
use Rattle.std.proofs.Common.{arith, get_or-take, length-take}
use Rattle.sqlite_disk.specs.Disk.{Cut}
use Rattle.lazy_disk.specs.DueCut.{shown_bytes, MayLeaveDue}

pub Cut-take : (n : ℕ) (file : List ℕ) → Cut n file (take n file)
Cut-take n file =
    let len = length-take n file in
    record { no_shorter = omega arith; no_longer = omega arith; below = λ i _ low. get_or-take n file i 0 low }

pub shown_may_stay : (cut : Option ℕ) (outcomes : List ℕ → Type 0) (file : List ℕ) → outcomes file
    → MayLeaveDue cut outcomes (shown_bytes cut file)
shown_may_stay None outcomes file here = here
shown_may_stay (Some n) outcomes file here = (file, here, Cut-take n file)
