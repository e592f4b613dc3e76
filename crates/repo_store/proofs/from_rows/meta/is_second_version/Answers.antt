use Rattle.std.proofs.Common.{◌≡◌, true, false, [], ◌∷◌, inl, inr, sym, subst, ◌∙◌, arith}
use Rattle.repo_store.specs.Bounded.{AreVersionRows}
use Rattle.repo_store.proofs.FromRowsLemmas.{perm_same}
use Rattle.repo_store.proofs.MetaLemmas.{alone_is, exchanged, is_alone, is_pair, one_is, pair_is, two_are, version_count}
use Rattle.repo_store.proofs.from_rows.meta.is_second_version.Goals as goal

pub returns-in-len1 : goal.returns-in-len1
returns-in-len1 c =
    let low = c.in-len1.len_at_least in
    let high = c.in-len1.len_below in
    let rows = c.args.rows.now in
    let row = c.row-item.result in
    let same : rows ≡ row ∷ [] = one_is rows row (omega arith) c.row-item.is in
    (λ h. subst AreVersionRows (sym same) (is_alone row (c.is_version_row.ensures.0 h)), λ v. c.is_version_row.ensures.1 (alone_is row (subst AreVersionRows same v)))

pub returns-then-are_version_and_limit : goal.returns-then-are_version_and_limit
returns-then-are_version_and_limit c =
    let low = c.in-len2.len_at_least in
    let high = c.in-len2.len_below in
    let rows = c.args.rows.now in
    let a = c.row-item-then-rows-lt3.result in
    let b = c.other-item.result in
    let same : rows ≡ a ∷ b ∷ [] = two_are rows a b (omega arith) c.row-item-then-rows-lt3.is c.other-item.is in
    (λ h. is_pair rows a b (perm_same rows (a ∷ b ∷ []) same) (c.are_version_and_limit.ensures.0 h), λ _. c.if-are_version_and_limit.true)

pub returns-else-are_version_and_limit : goal.returns-else-are_version_and_limit
returns-else-are_version_and_limit c =
    let low = c.in-len2.len_at_least in
    let high = c.in-len2.len_below in
    let rows = c.args.rows.now in
    let a = c.row-item-then-rows-lt3.result in
    let b = c.other-item.result in
    let same : rows ≡ a ∷ b ∷ [] = two_are rows a b (omega arith) c.row-item-then-rows-lt3.is c.other-item.is in (
      λ h. subst AreVersionRows (sym same) (is_pair (a ∷ b ∷ []) b a (exchanged a b) (c.are_version_and_limit-else-are_version_and_limit.ensures.0 h)),
      λ v. elim (pair_is a b (subst AreVersionRows same v)) [
        | inl one ↦ let there = c.are_version_and_limit.ensures.1 one in let never : false ≡ true = sym c.if-are_version_and_limit.false ∙ there in absurd (cc)
        | inr two ↦ c.are_version_and_limit-else-are_version_and_limit.ensures.1 two
      ],
    )

pub returns-in_default : goal.returns-in_default
returns-in_default c =
    (λ h. absurd (let never : false ≡ true = h in cc), λ v. let count = version_count c.args.rows.now v in let low = count.0 in let below = c.in_default.len_below in absurd (omega arith))

pub returns-in_default-2 : goal.returns-in_default-2
returns-in_default-2 c =
    (λ h. absurd (let never : false ≡ true = h in cc), λ v. let count = version_count c.args.rows.now v in let high = count.1 in let over = c.in_default.len_at_least in absurd (omega arith))
