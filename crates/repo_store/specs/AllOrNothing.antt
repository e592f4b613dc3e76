-- What a call makes of a store, in plain lists.
use Rattle.std.specs.Prelude.{◌≡◌, Result, OnOk, OnErr}
use Rattle.repo_store.specs.Kept.{Kept}

-- A call makes `after` of what is kept: all of it at `Ok`, and otherwise nothing changes.
pub record IsAllOrNothing {A E : Type 0} (old new : Kept) (result : Result A E) (after : Kept) : Type 0 where
  pub done : OnOk result (new ≡ after)
  pub same : OnErr result (new ≡ old)
