use Rattle.std.proofs.Common.{◌≡◌, ◌∙◌, ap, sym, subst, IfOk, List, ℕ}
use Rattle.hookhost.specs.Names.{without_empty_end}
use Rattle.hookhost.proofs.NameLemmas.{end-kept}
use Rattle.hookhost.proofs.names.without_empty_end.Goals as goal

pub returns-in-Some : goal.returns-in-Some
returns-in-Some c =
    subst (λ (items : List (List ℕ)). IfOk c.with_last.result (λ kept. kept.items ≡ items))
    (sym (end-kept c.pop.new.self.items c.in-Some.last) ∙ ap without_empty_end (sym c.in-Some.ensures.items))
    c.with_last.ensures
