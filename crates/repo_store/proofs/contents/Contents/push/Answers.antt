use Rattle.std.proofs.Common.{◌≡◌, ◌∷◌, [], false, true, List, ℕ, Some, cond, length, take, is_err, ap₂, ap, sym, subst, ◌∙◌, arith, length-append}
use Rattle.std.specs.Str.{bytes_eq}
use Rattle.std.specs.HashMap.{get}
use lib.Seq.{take-append_seam}
use Rattle.sha2.specs.Sha256.{sha256}
use Rattle.repo_store.specs.Contents.{has_digest}
use Rattle.repo_store.specs.Index.{IsIndexed}
use Rattle.repo_store.proofs.IndexLemmas.{index_pushed, index_same, ok_part, err_part}
use Rattle.repo_store.proofs.contents.Contents.push.Goals as goal

pub invariant_of-self-then-is_err : goal.invariant_of-self-then-is_err
invariant_of-self-then-is_err c =
    let items = c.self.inside.items.items in
    let failed : is_err c.insert.result ≡ true = sym c.is_err.ensures.value ∙ c.if-is_err.true in
    let pushed = (c.in_ok-push.ensures).items in
    let one = length-append items (c.args.content ∷ []) in
    let all = ap length pushed in
    let front : take (length items) c.push.new.self.items ≡ items = ap (take (length items)) pushed ∙ take-append_seam items (c.args.content ∷ []) in
    let left : c.pop.new.self.items ≡ items = c.pop.ensures.rest ∙ ap (λ (n : ℕ). take n c.push.new.self.items) (omega arith) ∙ front in
    subst (λ (l : List (List ℕ)). IsIndexed c.insert.new.self l) (sym left)
    (index_same c.self.inside.places c.insert.new.self items (err_part c.insert.result failed c.insert.ensures.err) c.self.invariant)

pub invariant_of-self-else-is_err : goal.invariant_of-self-else-is_err
invariant_of-self-else-is_err c =
    let items = c.self.inside.items.items in
    let done : is_err c.insert.result ≡ false = sym c.is_err.ensures.value ∙ c.if-is_err.false in
    let updates = ok_part c.insert.result done c.insert.ensures.updates in
    let place : c.len-place.result ≡ length items = omega arith in
    subst (λ (l : List (List ℕ)). IsIndexed c.insert.new.self l) (sym (c.in_ok-push.ensures).items)
    (index_pushed c.self.inside.places c.insert.new.self items c.args.content c.self.invariant
    (subst (λ (l : List (List ℕ)). has_digest (sha256 c.args.content) l ≡ false) (sym c.self.view_is) c.requires)
    (λ q. updates.0 q ∙ ap₂ (λ (d : List ℕ) (n : ℕ). cond (bytes_eq d q) (Some n) (get bytes_eq c.self.inside.places q)) c.digest-digest.ensures place))
