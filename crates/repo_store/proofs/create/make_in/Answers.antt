use Rattle.std.proofs.Common.{Ok, Err, [], pos}
use Rattle.std.proofs.lemmas.Result.{err_from_is_err_and}
use Rattle.sqlite.specs.Effect.{Database}
use Rattle.store_tables.specs.Schema.{no_schema}
use Rattle.store_tables.specs.Tables.{IsBare, IsEmptyStore, no_rows, with_meta}
use Rattle.store_tables.specs.Uses.{HoldsRows}
use Rattle.store_tables.proofs.MakeLemmas.{made_then, stopped}
use Rattle.store_tables.proofs.UsesStepLemmas.{step_as_made}
use Rattle.repo_store.specs.Bounded.{HoldsNext}
use Rattle.store_faults.specs.Limits.{first_limit}
use Rattle.repo_store.specs.Kept.{nothing_kept}
use Rattle.repo_store.specs.Rows.{limit_row, version_row}
use Rattle.repo_store.proofs.BoundedLemmas.{bare_as_made, holds_nothing, made_as}
use Rattle.repo_store.proofs.create.make_in.Goals as goal

abbrev Bare : Database → Type 0
Bare = IsBare no_schema

abbrev Grown : Database → Type 0
Grown db = HoldsRows db no_rows []

abbrev Limited : Database → Type 0
Limited db = HoldsRows db (with_meta (limit_row (pos first_limit)) no_rows) []

abbrev Versioned : Database → Type 0
Versioned db = HoldsRows db (with_meta version_row (with_meta (limit_row (pos first_limit)) no_rows)) []

abbrev Made : Database → Type 0
Made db = HoldsNext 1 db nothing_kept

pub returns-clause-made : goal.returns-clause-made
returns-clause-made g c =
    let old = c.args.tx.now.conn.now in
    let made = c.make_tables.new.tx.conn.now in
    let grown = c.make_uses.new.tx.conn.now in
    let limited = c.put_meta.new.tx.conn.now in
    let new = c.put_meta-2.new.tx.conn.now in
    let first =
    made_then g.S.Store old made grown (Ok tt) Bare IsEmptyStore Grown c.in_ok-make_tables.ensures.made
    (bare_as_made g.S.Store made grown (Ok tt) c.in_ok-make_uses.ensures.step c.in_ok-make_uses.ensures.only) in
    let second =
    made_then g.S.Store old grown limited (Ok tt) Bare Grown Limited first
    (step_as_made g.S.Store grown limited (Ok tt) no_rows [] (with_meta (limit_row (pos first_limit))) c.in_ok-put_meta.ensures.step) in
    made_as g.S.Store old new c.put_meta-2.result Bare Versioned Made holds_nothing (made_then g.S.Store old limited new c.put_meta-2.result Bare Limited Versioned second
    (step_as_made g.S.Store limited new c.put_meta-2.result (with_meta (limit_row (pos first_limit)) no_rows) [] (with_meta version_row) c.put_meta-2.ensures.step))

pub returns-in_err-make_tables-clause-made : goal.returns-in_err-make_tables-clause-made
returns-in_err-make_tables-clause-made g c =
    let p = err_from_is_err_and c.from_residual.result c.from_residual.ensures.1 in
    stopped g.S.Store c.args.tx.now.conn.now c.make_tables.new.tx.conn.now c.in_err-make_tables.field-0.0 p.0 c.from_residual.result Bare IsEmptyStore Made p.1 c.in_err-make_tables.ensures.made

pub returns-in_err-make_uses-clause-made : goal.returns-in_err-make_uses-clause-made
returns-in_err-make_uses-clause-made g c =
    let r = c.from_residual-in_err-make_uses in
    let p = err_from_is_err_and r.result r.ensures.1 in
    let old = c.args.tx.now.conn.now in
    let made = c.make_tables.new.tx.conn.now in
    let grown = c.make_uses.new.tx.conn.now in
    stopped g.S.Store old grown c.in_err-make_uses.field-0.0 p.0 r.result Bare Grown Made p.1
    (made_then g.S.Store old made grown (Err c.in_err-make_uses.field-0.0) Bare IsEmptyStore Grown c.in_ok-make_tables.ensures.made
    (bare_as_made g.S.Store made grown (Err c.in_err-make_uses.field-0.0) c.in_err-make_uses.ensures.step c.in_err-make_uses.ensures.only))

pub returns-in_err-put_meta-clause-made : goal.returns-in_err-put_meta-clause-made
returns-in_err-put_meta-clause-made g c =
    let r = c.from_residual-in_err-put_meta in
    let p = err_from_is_err_and r.result r.ensures.1 in
    let old = c.args.tx.now.conn.now in
    let made = c.make_tables.new.tx.conn.now in
    let grown = c.make_uses.new.tx.conn.now in
    let limited = c.put_meta.new.tx.conn.now in
    let first =
    made_then g.S.Store old made grown (Ok tt) Bare IsEmptyStore Grown c.in_ok-make_tables.ensures.made
    (bare_as_made g.S.Store made grown (Ok tt) c.in_ok-make_uses.ensures.step c.in_ok-make_uses.ensures.only) in
    stopped g.S.Store old limited c.in_err-put_meta.field-0.0 p.0 r.result Bare Limited Made p.1
    (made_then g.S.Store old grown limited (Err c.in_err-put_meta.field-0.0) Bare Grown Limited first
    (step_as_made g.S.Store grown limited (Err c.in_err-put_meta.field-0.0) no_rows [] (with_meta (limit_row (pos first_limit))) c.in_err-put_meta.ensures.step))
