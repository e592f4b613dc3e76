use Rattle.std.proofs.Common.{◌≡◌, false, get_or, List, ℕ, [], refl, sym, ap, subst, ◌∙◌, arith}
use Rattle.std.specs.List.{Any}
use Rattle.std.proofs.lemmas.List.{get_or_default}
use Rattle.std.specs.Str.{bytes_eq}
use Rattle.std.specs.HashMap.{get}
use Rattle.sha2.specs.Sha256.{sha256}
use Rattle.repo_store.specs.Contents.{Collides, has_digest}
use Rattle.repo_store.proofs.IndexLemmas.{one_alone, unheard}
use Rattle.repo_store.proofs.contents.Contents.find.Goals as goal

pub index-requires : goal.index-requires
index-requires c =
    let it = c.self.invariant.found c.args.digest.now c.in-Some.place.now (sym (c.in-Some.ensures).value) in
    omega (arith, it.0)

pub returns-in-Some-clause-found : goal.returns-in-Some-clause-found
returns-in-Some-clause-found c =
    let it = c.self.invariant.found c.args.digest.now c.in-Some.place.now (sym (c.in-Some.ensures).value) in
    subst (λ (l : List (List ℕ)). Any (λ b. b ≡ c.index.result.now) l) c.self.view_is (c.in-Some.place.now, c.index.result.now, it.0, sym c.index.ensures, refl)

pub returns-in-Some-clause-under : goal.returns-in-Some-clause-under
returns-in-Some-clause-under c =
    let it = c.self.invariant.found c.args.digest.now c.in-Some.place.now (sym (c.in-Some.ensures).value) in
    ap sha256 (c.index.ensures ∙ get_or_default c.self.inside.items.items c.in-Some.place.now c.index.result.now [] it.0) ∙ it.1

pub returns-in-Some-clause-alone : goal.returns-in-Some-clause-alone
returns-in-Some-clause-alone c =
    let items = c.self.inside.items.items in
    let place = c.in-Some.place.now in
    let listed = sym (c.in-Some.ensures).value in
    let it = c.self.invariant.found c.args.digest.now place listed in
    let here : c.index.result.now ≡ get_or items place [] = c.index.ensures ∙ get_or_default items place c.index.result.now [] it.0 in
    let under : sha256 c.index.result.now ≡ c.args.digest.now = ap sha256 here ∙ it.1 in
    subst (λ (l : List (List ℕ)). ¬ Collides c.index.result.now l) c.self.view_is
    (one_alone c.self.inside.places items c.self.invariant c.index.result.now place (ap (get bytes_eq c.self.inside.places) under ∙ listed) (sym here))

pub returns-in-None-clause-absent : goal.returns-in-None-clause-absent
returns-in-None-clause-absent c =
    subst (λ (l : List (List ℕ)). has_digest c.args.digest.now l ≡ false) c.self.view_is
    (unheard c.self.inside.places c.self.inside.items.items c.self.invariant c.args.digest.now (sym (c.in-None.ensures).value))
