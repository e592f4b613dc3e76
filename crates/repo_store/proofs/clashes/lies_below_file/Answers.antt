use Rattle.std.proofs.Common.{◌≡◌, true, false, refl, map, arith}
use Rattle.repo_store.specs.Lists.{file_of}
use Rattle.repo_store.proofs.ClashLemmas.{lies_at, lies_nowhere}
use Rattle.repo_store.proofs.clashes.lies_below_file.Goals as goal

pub returns-then-has_file_at : goal.returns-then-has_file_at
returns-then-has_file_at c =
    let lies = lies_at c.args.path.now (map file_of c.args.files.now) c.bytes.index c.bytes-test.true c.if-byte-eq47.true (c.has_file_at.ensures.0 c.if-has_file_at.true) in
    (λ _. lies, λ _. refl)

pub returns : goal.returns
returns c = (
  λ h. absurd (let never : false ≡ true = h in cc),
  λ lies.
      let past = c.bytes-test.false in
      absurd (lies_nowhere c.args.path.now (map file_of c.args.files.now) (λ k below. c.bytes.invariant k (omega arith)) lies),
)
