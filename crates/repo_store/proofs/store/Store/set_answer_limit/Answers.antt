use Rattle.std.proofs.Common.{◌≡◌, ◌-◌, length, take, Ok, Err, refl, subst, ◌∙◌, arith}
use Rattle.repo_store.specs.Kept.{limiting}
use Rattle.repo_store.specs.Shown.{Shown, IsOneTransaction}
use Rattle.repo_store.proofs.CompleteLemmas.{complete_limited}
use Rattle.repo_store.proofs.RuleLemmas.{obeys_limited}
use Rattle.repo_store.proofs.StandLemmas.{tables_of, unnamed_in, refused_stands, done_stands, refused_transaction, done_transaction}
use Rattle.repo_store.proofs.StoreUseLemmas.{key_count, keys_behind, limit_goes, limited_rows, limits_apart}
use Rattle.repo_store.proofs.store.Store.set_answer_limit.Goals as goal

pub invariant_of-self : goal.invariant_of-self
invariant_of-self g c =
    let new = c.limit_rows.new.conn in
    let kept = c.self.inside.lists.kept in
    let next = c.self.inside.next in
    let limit = c.args.limit in
    let inv = c.self.invariant in
    let all = c.as_slice.ensures.value ∙ c.in_ok-keys.ensures in
    let count = key_count c.as_slice.result.now kept.answers all in
    let surplus : c.saturating_sub-surplus.result ≡ length kept.answers - limit = omega (arith, c.saturating_sub-surplus.ensures, c.len.ensures, c.as_slice.ensures.len, count) in
    let keys = take c.saturating_sub-surplus.result c.as_slice.result.now in
    let behind = keys_behind limit c.saturating_sub-surplus.result c.as_slice.result.now kept.answers all surplus in
    let complete = complete_limited limit kept c.requires inv.complete in
    let obeys = obeys_limited kept inv.obeys limit complete in
    let same = limited_rows limit kept keys inv.complete behind in
    refused_stands g.S.Store c.self.inside.conn new next next kept (limiting limit kept) _ inv same (g.met.S.Store.shut_if_dirty new.store) complete obeys (inv.first, inv.last) next refl
    kept refl c.in-Err.error (limit_goes g.S.Store c.self.inside.conn new (Err c.in-Err.error) kept limit next keys inv.complete behind c.in-Err.ensures (tables_of kept))

pub returns-in-Err-clause-transaction : goal.returns-in-Err-clause-transaction
returns-in-Err-clause-transaction g c =
    let new = c.limit_rows.new.conn in
    let kept = c.self.inside.lists.kept in
    let next = c.self.inside.next in
    let limit = c.args.limit in
    let inv = c.self.invariant in
    let all = c.as_slice.ensures.value ∙ c.in_ok-keys.ensures in
    let count = key_count c.as_slice.result.now kept.answers all in
    let surplus : c.saturating_sub-surplus.result ≡ length kept.answers - limit = omega (arith, c.saturating_sub-surplus.ensures, c.len.ensures, c.as_slice.ensures.len, count) in
    let keys = take c.saturating_sub-surplus.result c.as_slice.result.now in
    let behind = keys_behind limit c.saturating_sub-surplus.result c.as_slice.result.now kept.answers all surplus in
    let complete = complete_limited limit kept c.requires inv.complete in
    let obeys = obeys_limited kept inv.obeys limit complete in
    let same = limited_rows limit kept keys inv.complete behind in
    let goes = limit_goes g.S.Store c.self.inside.conn new (Err c.in-Err.error) kept limit next keys inv.complete behind c.in-Err.ensures in
    subst (λ (s : Shown g.row.S.Denot). IsOneTransaction g.S.Store s (record { conn = new; kept = kept; next = next }) (Err c.fault_of.result) (limiting limit s.kept)) c.self.view_is
    (refused_transaction g.S.Store c.self.inside.conn new next next kept (limiting limit kept) _ inv same (g.met.S.Store.shut_if_dirty new.store) complete obeys (inv.first, inv.last) next refl
    kept refl c.in-Err.error (goes (tables_of kept)) c.fault_of.result _ _ _ _ (goes (unnamed_in kept)) (limits_apart limit kept keys))

pub invariant_of-self-2 : goal.invariant_of-self-2
invariant_of-self-2 g c =
    let new = c.limit_rows.new.conn in
    let kept = c.self.inside.lists.kept in
    let next = c.self.inside.next in
    let limit = c.args.limit in
    let inv = c.self.invariant in
    let all = c.as_slice.ensures.value ∙ c.in_ok-keys.ensures in
    let count = key_count c.as_slice.result.now kept.answers all in
    let surplus : c.saturating_sub-surplus.result ≡ length kept.answers - limit = omega (arith, c.saturating_sub-surplus.ensures, c.len.ensures, c.as_slice.ensures.len, count) in
    let keys = take c.saturating_sub-surplus.result c.as_slice.result.now in
    let behind = keys_behind limit c.saturating_sub-surplus.result c.as_slice.result.now kept.answers all surplus in
    let complete = complete_limited limit kept c.requires inv.complete in
    let obeys = obeys_limited kept inv.obeys limit complete in
    let same = limited_rows limit kept keys inv.complete behind in
    done_stands g.S.Store c.self.inside.conn new next next kept (limiting limit kept) _ inv same (g.met.S.Store.shut_if_dirty new.store) complete obeys (inv.first, inv.last) next refl
    c.limit_answers.new.self.kept c.limit_answers.ensures c.in_default.field-0
    (limit_goes g.S.Store c.self.inside.conn new (Ok c.in_default.field-0) kept limit next keys inv.complete behind c.in_default.ensures (tables_of kept))

pub returns-clause-transaction : goal.returns-clause-transaction
returns-clause-transaction g c =
    let new = c.limit_rows.new.conn in
    let kept = c.self.inside.lists.kept in
    let next = c.self.inside.next in
    let limit = c.args.limit in
    let inv = c.self.invariant in
    let all = c.as_slice.ensures.value ∙ c.in_ok-keys.ensures in
    let count = key_count c.as_slice.result.now kept.answers all in
    let surplus : c.saturating_sub-surplus.result ≡ length kept.answers - limit = omega (arith, c.saturating_sub-surplus.ensures, c.len.ensures, c.as_slice.ensures.len, count) in
    let keys = take c.saturating_sub-surplus.result c.as_slice.result.now in
    let behind = keys_behind limit c.saturating_sub-surplus.result c.as_slice.result.now kept.answers all surplus in
    let complete = complete_limited limit kept c.requires inv.complete in
    let obeys = obeys_limited kept inv.obeys limit complete in
    let same = limited_rows limit kept keys inv.complete behind in
    let goes = limit_goes g.S.Store c.self.inside.conn new (Ok c.in_default.field-0) kept limit next keys inv.complete behind c.in_default.ensures in
    subst (λ (s : Shown g.row.S.Denot). IsOneTransaction g.S.Store s (record { conn = new; kept = c.limit_answers.new.self.kept; next = next }) (Ok tt) (limiting limit s.kept)) c.self.view_is
    (done_transaction g.S.Store c.self.inside.conn new next next kept (limiting limit kept) _ inv same (g.met.S.Store.shut_if_dirty new.store) complete obeys (inv.first, inv.last)
    (g.met.S.Store.settled new.store) next refl
    c.limit_answers.new.self.kept c.limit_answers.ensures c.in_default.field-0 (goes (tables_of kept)) tt _ _ _ _ (goes (unnamed_in kept)) (limits_apart limit kept keys))
