use Rattle.std.proofs.Common.{List, ℕ, subst, ◌∙◌}
use Rattle.std.proofs.lemmas.Result.{IfErr-weaker, IfOk-weaker}
use Rattle.repo_store.specs.Contents.{Collides}
use Rattle.repo_store.proofs.FixLemmas.{refusal_weaker}
use Rattle.repo_store.proofs.IndexLemmas.{known, unknown, none_under, other_under, kept_known, kept_unknown}
use Rattle.repo_store.proofs.contents.Contents.keep_under.Goals as goal

pub returns-in-Some-clause-kept : goal.returns-in-Some-clause-kept
returns-in-Some-clause-kept c =
    IfOk-weaker c.shared.result _ _ (λ made same. kept_known c.args.bytes.now c.args.self.now (known c.args.bytes.now c.in-Some.content.now c.args.self.now (c.in-Some.ensures).found same.1))
    c.shared.ensures.same

pub returns-clause-kept : goal.returns-clause-kept
returns-clause-kept c = (c.in_ok-content.ensures).kept ∙ kept_unknown c.args.bytes.now c.args.self.now (unknown c.args.bytes.now c.args.self.now (rw (← c.requires) (c.in_default.ensures).absent))

pub returns-in-Some-clause-apart : goal.returns-in-Some-clause-apart
returns-in-Some-clause-apart c = IfOk-weaker c.shared.result _ _ (λ made same. subst (λ (b : List ℕ). ¬ Collides b c.args.self.now) same.1 (c.in-Some.ensures).alone) c.shared.ensures.same

pub returns-clause-apart : goal.returns-clause-apart
returns-clause-apart c = none_under c.args.bytes.now c.args.self.now (rw (← c.requires) (c.in_default.ensures).absent)

pub returns-in-Some-clause-why : goal.returns-in-Some-clause-why
returns-in-Some-clause-why c =
    let bytes = c.args.bytes.now in
    let content = c.in-Some.content.now in
    let other = other_under bytes content c.args.self.now (c.in-Some.ensures).found ((c.in-Some.ensures).under ∙ c.requires) in
    IfErr-weaker c.shared.result _ _ (λ fault why. refusal_weaker absurd (λ h. h) other fault why) c.shared.ensures.differs
