use Rattle.std.proofs.Common.{SFits, w64, rules, to_z-of_z, ◌≡◌, true, false, [], ◌∷◌, inl, inr, sym, subst, ◌∙◌, arith}
use Rattle.repo_store.specs.Bounded.{AreVersionRows}
use Rattle.repo_store.specs.Rows.{version_row}
use Rattle.repo_store.proofs.MetaLemmas.{limit_count, limited, pair_is, pair_moved, pair_turned, two_are, unlimited}
use Rattle.repo_store.proofs.from_rows.meta.limit_in.Goals as goal

pub returns-then-is_version_row-clause-limit : goal.returns-then-is_version_row-clause-limit
returns-then-is_version_row-clause-limit c =
    let low = c.in-len2.len_at_least in
    let high = c.in-len2.len_below in
    let rows = c.args.rows.now in
    let a = c.row-item.result in
    let b = c.other-item.result in
    let fits : SFits w64 b.value = search rules in
    let same : rows ≡ a ∷ b ∷ [] = two_are rows a b (omega arith) c.row-item.is c.other-item.is in
    limited rows a b (pair_moved rows a b same) (c.is_version_row.ensures.0 c.if-is_version_row.true) c.limit_at.result c.requires (rw (to_z-of_z fits) at c.limit_at.ensures.limit)

pub returns-then-is_version_row-clause-none : goal.returns-then-is_version_row-clause-none
returns-then-is_version_row-clause-none c =
    let low = c.in-len2.len_at_least in
    let high = c.in-len2.len_below in
    let rows = c.args.rows.now in
    let a = c.row-item.result in
    let b = c.other-item.result in
    let fits : SFits w64 b.value = search rules in
    let same : rows ≡ a ∷ b ∷ [] = two_are rows a b (omega arith) c.row-item.is c.other-item.is in
    unlimited rows a b (pair_moved rows a b same) (c.is_version_row.ensures.0 c.if-is_version_row.true) c.limit_at.result (rw (to_z-of_z fits) at c.limit_at.ensures.none)

pub returns-else-is_version_row-clause-limit : goal.returns-else-is_version_row-clause-limit
returns-else-is_version_row-clause-limit c =
    let low = c.in-len2.len_at_least in
    let high = c.in-len2.len_below in
    let rows = c.args.rows.now in
    let a = c.row-item.result in
    let b = c.other-item.result in
    let fits : SFits w64 a.value = search rules in
    let same : rows ≡ a ∷ b ∷ [] = two_are rows a b (omega arith) c.row-item.is c.other-item.is in
    let last : b ≡ version_row = elim (pair_is a b (subst AreVersionRows same c.requires)) [
      | inl h ↦ let there = c.is_version_row.ensures.1 h.0 in let never : false ≡ true = sym c.if-is_version_row.false ∙ there in absurd (cc)
      | inr h ↦ h.0
    ] in
    limited rows b a (pair_turned rows a b same) last c.limit_at-else-is_version_row.result c.requires (rw (to_z-of_z fits) at c.limit_at-else-is_version_row.ensures.limit)

pub returns-else-is_version_row-clause-none : goal.returns-else-is_version_row-clause-none
returns-else-is_version_row-clause-none c =
    let low = c.in-len2.len_at_least in
    let high = c.in-len2.len_below in
    let rows = c.args.rows.now in
    let a = c.row-item.result in
    let b = c.other-item.result in
    let fits : SFits w64 a.value = search rules in
    let same : rows ≡ a ∷ b ∷ [] = two_are rows a b (omega arith) c.row-item.is c.other-item.is in
    let last : b ≡ version_row = elim (pair_is a b (subst AreVersionRows same c.requires)) [
      | inl h ↦ let there = c.is_version_row.ensures.1 h.0 in let never : false ≡ true = sym c.if-is_version_row.false ∙ there in absurd (cc)
      | inr h ↦ h.0
    ] in
    unlimited rows b a (pair_turned rows a b same) last c.limit_at-else-is_version_row.result (rw (to_z-of_z fits) at c.limit_at-else-is_version_row.ensures.none)

pub returns-in_default-clause-none : goal.returns-in_default-clause-none
returns-in_default-clause-none c = λ has. let count = limit_count c.args.rows.now has in let below = c.in_default.len_below in absurd (omega arith)

pub returns-in_default-2-clause-none : goal.returns-in_default-2-clause-none
returns-in_default-2-clause-none c = λ has. let count = limit_count c.args.rows.now has in let over = c.in_default.len_at_least in absurd (omega arith)
