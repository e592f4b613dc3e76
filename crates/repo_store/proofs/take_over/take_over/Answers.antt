use Rattle.std.proofs.Common.{◌≡◌, ◌+◌, ◌-◌, length, subst, sym, ◌∙◌, arith}
use Rattle.std.proofs.lemmas.List.{length-drop}
use Rattle.std.proofs.lemmas.Result.{err_from_is_err_and}
use Rattle.store_faults.specs.declared.fault.StoreFault.TheVariants.{OutOfMemory}
use Rattle.repo_store.specs.Complete.{IsComplete}
use Rattle.repo_store.specs.Kept.{Kept}
use Rattle.store_faults.specs.Limits.{IsLimit, first_limit}
use Rattle.repo_store.specs.RowRules.{AreStoreRows}
use Rattle.repo_store.specs.Rows.{tables_of}
use Rattle.repo_store.proofs.StoreUseLemmas.{key_count}
use Rattle.repo_store.proofs.TakeOverLemmas.{moved_obey, moved_taken, refused_taken, unmoved_taken, unread_taken}
use Rattle.repo_store.proofs.take_over.take_over.Goals as goal

within : IsLimit first_limit
within = record { at_least = omega arith; at_most = omega arith }

pub returns-in_err-lists-clause-taken : goal.returns-in_err-lists-clause-taken
returns-in_err-lists-clause-taken g c =
    let mid = c.read_first.new.conn in
    let fault = c.in_err-lists.field-0.0 in
    let p = err_from_is_err_and c.from_residual.result c.from_residual.ensures.1 in
    rw (p.1, p.2) (unread_taken g.S.Store c.args.conn.now mid c.requires.ours c.requires.live c.requires.settled (g.met.S.Store.shut_if_dirty mid.store) fault c.in_err-lists.ensures.read)

pub returns-in_err-keys-clause-taken : goal.returns-in_err-keys-clause-taken
returns-in_err-keys-clause-taken g c =
    let mid = c.read_first.new.conn in
    let p = err_from_is_err_and c.from_residual-in_err-keys.result c.from_residual-in_err-keys.ensures.1 in
    rw (p.1, p.2) (unmoved_taken g.S.Store c.args.conn.now mid c.requires.ours c.requires.live c.requires.settled (g.met.S.Store.shut_if_dirty mid.store) c.in_ok-lists.lists c.in_ok-lists.ensures.read
    OutOfMemory tt)

pub returns-in-Err-clause-taken : goal.returns-in-Err-clause-taken
returns-in-Err-clause-taken g c =
    let mid = c.read_first.new.conn in
    let lists = c.in_ok-lists.lists in
    let answers = lists.kept.answers in
    let it = c.in_ok-lists.ensures in
    let keys = c.as_slice.result.now in
    let all = c.as_slice.ensures.value ∙ c.in_ok-keys.ensures in
    let many = key_count keys answers all in
    let dropped : c.saturating_sub-dropped.result ≡ length answers - first_limit = omega (arith, c.saturating_sub-dropped.ensures, c.len.ensures, c.as_slice.ensures.len, many) in
    refused_taken g.S.Store c.args.conn.now mid c.requires.ours c.requires.live c.requires.settled (g.met.S.Store.shut_if_dirty mid.store) lists it.read it.answers.0 it.answers.1
    (it.complete first_limit within) it.obeys
    c.migrate_rows.new.conn keys c.saturating_sub-dropped.result all (dropped ∙ sym (length-drop first_limit answers)) many c.in-Err.error c.fault_of.result c.fault_of.ensures.why
    c.in-Err.ensures.call

pub returns-clause-taken : goal.returns-clause-taken
returns-clause-taken g c =
    let mid = c.read_first.new.conn in
    let lists = c.in_ok-lists.lists in
    let answers = lists.kept.answers in
    let it = c.in_ok-lists.ensures in
    let keys = c.as_slice.result.now in
    let all = c.as_slice.ensures.value ∙ c.in_ok-keys.ensures in
    let many = key_count keys answers all in
    let dropped : c.saturating_sub-dropped.result ≡ length answers - first_limit = omega (arith, c.saturating_sub-dropped.ensures, c.len.ensures, c.as_slice.ensures.len, many) in
    let next : c.set_next.new.self.next ≡ length answers + 1 = omega (arith, c.set_next.ensures.next, c.len-2.ensures, c.as_slice.ensures.len, many) in
    moved_taken g.S.Store c.args.conn.now mid c.requires.ours c.requires.live c.requires.settled (g.met.S.Store.shut_if_dirty mid.store) lists it.read it.answers.0 it.answers.1
    (it.complete first_limit within) it.obeys
    c.migrate_rows.new.conn keys c.saturating_sub-dropped.result all (dropped ∙ sym (length-drop first_limit answers)) many c.set_next.new.self (c.set_next.ensures.kept ∙ c.limit_answers.ensures) next
    c.in_default.ensures.call

pub returns-clause-complete : goal.returns-clause-complete
returns-clause-complete g c = subst IsComplete (sym (c.set_next.ensures.kept ∙ c.limit_answers.ensures)) (c.in_ok-lists.ensures.complete first_limit within)

pub returns-clause-obeys : goal.returns-clause-obeys
returns-clause-obeys g c = subst (λ (k : Kept). AreStoreRows (tables_of k)) (sym (c.set_next.ensures.kept ∙ c.limit_answers.ensures)) (moved_obey c.in_ok-lists.lists.kept c.in_ok-lists.ensures.obeys)
