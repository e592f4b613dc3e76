use Rattle.std.proofs.Common.{◌≡◌}
use Rattle.repo_store.specs.FromRows.{AreMoved}
use Rattle.repo_store.proofs.from_rows.uses.bring_each.Given as goal

abbrev pub invariant-uses : goal.invariant-uses
invariant-uses l = record { limit : l.answers.limit ≡ l.initial.answers.limit; next : l.answers.next ≡ l.initial.answers.next; moved : AreMoved l.initial.answers.answers l.answers.answers }
