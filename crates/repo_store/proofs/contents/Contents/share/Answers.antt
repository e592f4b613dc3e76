use Rattle.std.proofs.Common.{◌≡◌, ◌∙◌, List, ℕ, false, subst, sym}
use Rattle.std.proofs.lemmas.Result.{IfErr-weaker, IfOk-weaker}
use Rattle.repo_store.specs.Contents.{Collides, has_digest}
use Rattle.repo_store.proofs.FixLemmas.{refusal_weaker}
use Rattle.repo_store.proofs.IndexLemmas.{known, unknown, none_under, other_under, kept_known, kept_unknown}
use Rattle.repo_store.proofs.contents.Contents.share.Goals as goal

pub add_shared-requires : goal.add_shared-requires
add_shared-requires c = subst (λ (digest : List ℕ). has_digest digest c.args.self.now ≡ false) c.digest.ensures (c.in_default.ensures).absent

pub returns-in-Some-clause-kept : goal.returns-in-Some-clause-kept
returns-in-Some-clause-kept c =
    IfOk-weaker c.shared.result _ _ (λ made same. kept_known c.args.content.now c.args.self.now
    (known c.args.content.now c.in-Some.kept.now c.args.self.now (c.in-Some.ensures).found (same.1 ∙ c.as_slice.ensures))) c.shared.ensures.same

pub returns-clause-kept : goal.returns-clause-kept
returns-clause-kept c =
    let absent = subst (λ (digest : List ℕ). has_digest digest c.args.self.now ≡ false) c.digest.ensures (c.in_default.ensures).absent in
    (c.in_ok-content.ensures).kept ∙ kept_unknown c.args.content.now c.args.self.now (unknown c.args.content.now c.args.self.now absent)

pub returns-in-Some-clause-apart : goal.returns-in-Some-clause-apart
returns-in-Some-clause-apart c =
    IfOk-weaker c.shared.result _ _ (λ made same. subst (λ (b : List ℕ). ¬ Collides b c.args.self.now) (same.1 ∙ c.as_slice.ensures) (c.in-Some.ensures).alone) c.shared.ensures.same

pub returns-clause-apart : goal.returns-clause-apart
returns-clause-apart c = none_under c.args.content.now c.args.self.now (subst (λ (digest : List ℕ). has_digest digest c.args.self.now ≡ false) c.digest.ensures (c.in_default.ensures).absent)

pub returns-in-Some-clause-why : goal.returns-in-Some-clause-why
returns-in-Some-clause-why c =
    let content = c.args.content.now in
    let kept = c.in-Some.kept.now in
    let other = other_under content kept c.args.self.now (c.in-Some.ensures).found ((c.in-Some.ensures).under ∙ c.digest.ensures) in
    IfErr-weaker c.shared.result _ _ (λ fault why. refusal_weaker absurd (λ h. h) (λ differs. other (λ same. differs (same ∙ sym c.as_slice.ensures))) fault why) c.shared.ensures.differs
