use Rattle.std.proofs.Common.{sym, ◌∙◌, true≢false}
use Rattle.repo_store.proofs.OpenLemmas.{first_opened, no_store, second_opened}
use Rattle.repo_store.proofs.take_over.find_store.Goals as goal

pub returns-then-has_tables : goal.returns-then-has_tables
returns-then-has_tables g c =
    let it = c.has_tables.ensures in
    let new = c.read_store.new.conn in
    let read = c.read_store.ensures in
    second_opened g.S.Store c.args.conn.now it.live it.settled new (g.met.S.Store.shut_if_dirty new.store) (it.ours.0 c.if-has_tables.true) (g.met.S.Store.settled c.args.conn.now.store)
    c.read_store.result read.read read.next read.complete read.obeys

pub returns-then-has_first_tables : goal.returns-then-has_first_tables
returns-then-has_first_tables g c =
    let it = c.has_first_tables.ensures in
    let new = c.take_over.new.conn in
    let taken = c.take_over.ensures in
    first_opened g.S.Store c.args.conn.now it.live it.settled new (g.met.S.Store.shut_if_dirty new.store) (it.ours.0 c.if-has_first_tables.true) (g.met.S.Store.settled new.store) c.take_over.result
    taken.taken taken.next taken.complete taken.obeys

pub returns : goal.returns
returns g c =
    let first = c.has_first_tables.ensures in
    let second = c.has_tables.ensures in
    no_store g.S.Store c.args.conn.now first.live first.settled c.requires
    (λ same. true≢false (sym (first.ours.1 same) ∙ c.if-has_first_tables.false)) (λ same. true≢false (sym (second.ours.1 same) ∙ c.if-has_tables.false))
