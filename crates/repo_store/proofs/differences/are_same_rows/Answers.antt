use Rattle.std.proofs.Common.{◌≡◌, ◌<◌, length, true, false, refl, sym, ◌∙◌, arith}
use Rattle.repo_store.proofs.SameRowLemmas.{rows_apart, rows_same}
use Rattle.repo_store.proofs.differences.are_same_rows.Goals as goal

pub returns-then-not-is_same_row : goal.returns-then-not-is_same_row
returns-then-not-is_same_row c = (
  λ h. absurd (let never : false ≡ true = h in cc),
  λ same.
      let count = c.if-files-others.false in
      let below = c.files-test.true in
      let within : c.files.index < length c.args.others.now = omega arith in
      let hit =
      c.is_same_row.ensures.1
      (rows_apart c.args.files.now c.args.others.now c.files.index c.index-files-index.result c.index-others-index.result within c.index-files-index.is c.index-others-index.is same) in
      let miss = c.if-not-is_same_row.true in
      sym miss ∙ hit,
)

pub returns : goal.returns
returns c =
    let past = c.files-test.false in
    (λ _. rows_same c.args.files.now c.args.others.now c.if-files-others.false (λ k below d. c.files.invariant k (omega arith) d), λ _. refl)
