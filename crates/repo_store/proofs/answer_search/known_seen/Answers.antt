use Rattle.std.proofs.Common.{[]}
use Rattle.std.proofs.lemmas.Result.{err_from_is_err_and}
use Rattle.repo_store.proofs.FixLemmas.{refusal_weaker}
use Rattle.repo_store.proofs.SearchLemmas.{files_collide}
use Rattle.repo_store.proofs.answer_search.known_seen.Goals as goal

pub returns-in_err-named-clause-why : goal.returns-in_err-named-clause-why
returns-in_err-named-clause-why c =
    let p = err_from_is_err_and c.from_residual.result c.from_residual.ensures.1 in
    rw (p.1, p.2) (refusal_weaker (λ h. h) (λ h. h) (λ collides. files_collide c.args.contents.now [] c.args.seen.now collides) c.in_err-named.field-0.0 (c.in_err-named.ensures).why)
