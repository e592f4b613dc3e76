use Rattle.std.proofs.Common.{drop}
use Rattle.repo_store.proofs.PutLemmas.{newest_beside, newest_in_place}
use Rattle.repo_store.proofs.answer_puts.put_newest_rows.Goals as goal

pub returns-in-Some : goal.returns-in-Some
returns-in-Some g c answer others is own tells some few t =
    let kept = c.args.lists.now.kept in
    let over = c.in-Some.ensures.over in
    newest_in_place g.S.Store c.args.conn.now c.remember_in_place_rows.new.conn c.remember_in_place_rows.result c.args.tick kept.limit kept.answers c.newest_answer-answer.result.now
    c.newest_answer-answer.ensures c.since-news.result.now (drop c.args.before kept.contents) c.since-news.ensures
    answer others is own tells some few t c.in-Some.key.0 c.in-Some.key.1 over.0 over.1 (λ front last key place. c.remember_in_place_rows.ensures t front last key place c.requires.first)

pub returns-in-None : goal.returns-in-None
returns-in-None g c answer others is own tells some few t =
    let kept = c.args.lists.now.kept in
    newest_beside g.S.Store c.args.conn.now c.remember_rows.new.conn c.remember_rows.result c.args.tick kept.limit kept.answers c.newest_answer-answer.result.now c.newest_answer-answer.ensures
    c.since-news.result.now (drop c.args.before kept.contents) c.since-news.ensures
    answer others is own tells some few t c.in-None.ensures.within (λ told. c.remember_rows.ensures t others told c.requires.first)
