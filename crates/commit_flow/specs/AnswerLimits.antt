-- What a new limit makes of the cached results, and why it isn't set.
use Rattle.std.specs.Prelude.{◌≡◌, ℕ, take}
use Rattle.result_book.specs.Contents.{Contents, with_rows}
use Rattle.commit_flow.specs.declared.host_refusal.HostRefusal.{HostRefusal}
use Rattle.commit_flow.specs.Steps.{IsForgetRefusal}

-- at most this many results are cached: those that were used last, in their order; the others are gone
abbrev pub IsLimitedTo : ℕ → Contents → Contents → Type 0
IsLimitedTo limit before after = after ≡ with_rows limit (take limit before.rows)

-- memory or the database refuses, as when results are forgotten
abbrev pub IsLimitRefusal : HostRefusal → Type 0
IsLimitRefusal refusal = IsForgetRefusal refusal
