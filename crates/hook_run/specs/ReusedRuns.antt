-- Which parts of a run may have their answers from the cache.
use Rattle.std.specs.Prelude.{◌≡◌, ◌⊎◌, true, List, All, Contains}
use Rattle.child_port.specs.declared.answer.Outcome.{Outcome}
use Rattle.child_port.specs.declared.answer.Outcome.TheVariants.{Done, Failed}
use Rattle.hook_run.specs.declared.reuse.Reuse.{Reuse}
use Rattle.hook_run.specs.Parts.{Part}
use Rattle.hook_run.specs.Reuses.{serves}

-- the outcome is an answer that the run may take from the cache; a fault never is
abbrev pub IsServing : Reuse → Outcome → Type 0
IsServing reuse (Done answer) = serves reuse answer ≡ true
IsServing reuse (Failed fault) = ⊥

-- each of the parts has an outcome that the run may take from the cache, or is one for which a child was
-- started
abbrev pub AreServedOrStarted : Reuse → List Part → List Part → Type 0
AreServedOrStarted reuse parts started = All (λ part. IsServing reuse part.outcome ⊎ Contains started part) parts
