use Rattle.std.proofs.Common.{List, Ok, Err, drop, refl, ap, ◌∙◌}
use Rattle.repo_store.specs.Answers.{KeptAnswer}
use Rattle.repo_store.specs.Kept.{Kept}
use Rattle.repo_store.proofs.PutLemmas.{again_within, done_as, own_with, put_again, put_anew_from, refused_as, within_from}
use Rattle.repo_store.proofs.answer_puts.put_prepared.Goals as goal

pub returns-in-Ok-clause-rows : goal.returns-in-Ok-clause-rows
returns-in-Ok-clause-rows g c t =
    let kept = c.args.lists.now.kept in
    put_again g.S.Store c.args.conn.now c.put_again.new.conn (Ok tt) c.args.tick kept.limit c.args.answer kept.answers (drop c.args.before kept.contents) t
    (c.if-has_key_of.ensures.there refl) c.requires.told.0.1 c.requires.few
    (done_as g.S.Store _ _ c.in-Ok.field-0 tt _ _ (c.in-Ok.ensures.rows t))

pub returns-in-Ok-clause-done : goal.returns-in-Ok-clause-done
returns-in-Ok-clause-done g c =
    let kept = c.args.lists.now.kept in
    c.in-Ok.ensures.done ∙ ap (λ (l : List KeptAnswer). let made : Kept = record kept { answers = l } in made)
    (again_within kept.limit c.args.answer kept.answers (c.if-has_key_of.ensures.there refl) c.requires.told.0.1 c.requires.few)

pub returns-in-Err-clause-rows : goal.returns-in-Err-clause-rows
returns-in-Err-clause-rows g c t =
    let kept = c.args.lists.now.kept in
    put_again g.S.Store c.args.conn.now c.put_again.new.conn (Err c.fault_of.result) c.args.tick kept.limit c.args.answer kept.answers (drop c.args.before kept.contents) t
    (c.if-has_key_of.ensures.there refl) c.requires.told.0.1 c.requires.few
    (refused_as g.S.Store _ _ c.in-Err.error c.fault_of.result _ _ (c.in-Err.ensures.rows t))

pub returns-in-Ok-put_newest-clause-rows : goal.returns-in-Ok-put_newest-clause-rows
returns-in-Ok-put_newest-clause-rows g c t =
    let kept = c.args.lists.now.kept in
    let own = own_with c.args.answer kept.answers c.requires.own (c.if-has_key_of.ensures.absent refl) in
    done_as g.S.Store _ _ c.in-Ok-put_newest.field-0 tt _ _
    (put_anew_from g.S.Store c.args.conn.now c.put_newest.new.conn (Ok c.in-Ok-put_newest.field-0) c.args.tick c.args.before kept c.add_answer.new.self.kept c.args.answer (c.in_default.ensures).added
    own c.requires.told c.requires.some c.requires.few (c.in-Ok-put_newest.ensures).rows t)

pub returns-in-Ok-put_newest-clause-done : goal.returns-in-Ok-put_newest-clause-done
returns-in-Ok-put_newest-clause-done g c =
    let kept = c.args.lists.now.kept in
    let own = own_with c.args.answer kept.answers c.requires.own (c.if-has_key_of.ensures.absent refl) in
    within_from kept c.add_answer.new.self.kept c.put_newest.new.lists.kept c.args.answer (c.in_default.ensures).added own (c.in-Ok-put_newest.ensures).done

pub returns-in-Err-put_newest-clause-rows : goal.returns-in-Err-put_newest-clause-rows
returns-in-Err-put_newest-clause-rows g c t =
    let kept = c.args.lists.now.kept in
    let own = own_with c.args.answer kept.answers c.requires.own (c.if-has_key_of.ensures.absent refl) in
    refused_as g.S.Store _ _ c.in-Err-put_newest.error c.fault_of-in-Err-put_newest.result _ _
    (put_anew_from g.S.Store c.args.conn.now c.put_newest.new.conn (Err c.in-Err-put_newest.error) c.args.tick c.args.before kept c.add_answer.new.self.kept c.args.answer (c.in_default.ensures).added
    own c.requires.told c.requires.some c.requires.few (c.in-Err-put_newest.ensures).rows t)
