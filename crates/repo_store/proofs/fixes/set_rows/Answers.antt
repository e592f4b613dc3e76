use Rattle.std.proofs.Common.{◌∙◌, List, map, ap, subst, sym}
use Rattle.store_tables.specs.Tables.{Tables}
use Rattle.repo_store.specs.declared.shared.SharedFix.{SharedFix}
use Rattle.repo_store.specs.Bounded.{HoldsListed}
use Rattle.repo_store.specs.Lists.{fix_of}
use Rattle.repo_store.specs.Rows.{fix_row}
use Rattle.repo_store.specs.Transactions.{IsCall}
use Rattle.repo_store.proofs.FixLemmas.{none_of, none_set}
use Rattle.repo_store.proofs.fixes.set_rows.Goals as goal

pub returns-then-is_empty : goal.returns-then-is_empty
returns-then-is_empty g c t next answers none =
    let no_fixes = none_of c.args.fixes.now (sym c.is_empty.ensures ∙ c.if-is_empty.true) in
    let no_rows = ap (λ (l : List SharedFix). map fix_row (map fix_of l)) no_fixes in
    let same = none_set (map fix_row (map fix_of c.args.fixes.now)) c.args.news.now t no_rows (none c.if-were_none.true) in
    subst (λ (u : Tables). IsCall g.S.Store c.args.conn.now c.keep_rows.new.conn c.keep_rows.result (λ db. HoldsListed next answers db t) (λ db. HoldsListed next answers db u)) (sym same)
    (c.keep_rows.ensures t next answers)

pub returns : goal.returns
returns g c t next answers none = c.replace_rows.ensures t next answers
