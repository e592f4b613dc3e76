use Rattle.std.proofs.Common.{List, ℕ, None, cond, subst, ap, ◌∙◌}
use Rattle.std.specs.Str.{bytes_eq}
use Rattle.std.specs.HashMap.{get}
use Rattle.repo_store.specs.Index.{IsIndexed}
use Rattle.repo_store.proofs.IndexLemmas.{index_popped}
use Rattle.repo_store.proofs.contents.Contents.pop.Goals as goal

pub invariant_of-self : goal.invariant_of-self
invariant_of-self c =
    index_popped c.self.inside.places c.remove.new.self c.pop.new.self.items c.in-Some.content
    (subst (λ (l : List (List ℕ)). IsIndexed c.self.inside.places l) (c.in-Some.ensures).items c.self.invariant)
    (λ q. c.remove.ensures.updates.0 q ∙ ap (λ (d : List ℕ). cond (bytes_eq d q) None (get bytes_eq c.self.inside.places q)) c.digest.ensures)
