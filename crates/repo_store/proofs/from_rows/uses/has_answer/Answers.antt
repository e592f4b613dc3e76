use Rattle.std.proofs.Common.{length, ap, ◌∙◌}
use Rattle.repo_store.proofs.FollowLemmas.{no_seen, no_words, none_found}
use Rattle.repo_store.proofs.from_rows.uses.has_answer.Goals as goal

pub returns-in_default : goal.returns-in_default
returns-in_default c = λ _. no_words c.args.row.now.words c.args.row.now.seen c.args.answers.now.answers (λ e. c.in_default.ensures.none (ap length c.as_slice.ensures ∙ e))

pub returns-in_default-digest_in : goal.returns-in_default-digest_in
returns-in_default-digest_in c = λ _. no_seen c.args.row.now.words c.args.row.now.seen c.args.answers.now.answers (λ e. c.in_default-digest_in.ensures.none (ap length c.as_slice-2.ensures ∙ e))

pub returns : goal.returns
returns c = λ h.
    none_found c.find.result c.args.row.now.words c.args.row.now.seen c.in-Some.words.now c.in-Some-digest_in.seen.now c.args.answers.now.answers (c.in-Some.ensures.same ∙ c.as_slice.ensures)
    (c.in-Some-digest_in.ensures.same ∙ c.as_slice-2.ensures)
    c.find.ensures.absent (λ e. h (c.is_some.ensures ∙ e))
