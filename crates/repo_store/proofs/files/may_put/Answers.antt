use Rattle.std.proofs.Common.{◌+◌, length, map, refl, arith}
use borrow.Author.Tests.{ltb-true}
use Rattle.std.proofs.lemmas.List.{length-map}
use Rattle.store_faults.specs.Limits.{most_files}
use Rattle.repo_store.specs.Lists.{file_of}
use Rattle.repo_store.proofs.PlaceLemmas.{fits_at, fits_gap, full_gap}
use Rattle.repo_store.proofs.files.may_put.Goals as goal

pub returns-in-Ok-clause-fits : goal.returns-in-Ok-clause-fits
returns-in-Ok-clause-fits c entry = (λ _. fits_at (record { path = c.args.path.now; entry = entry }) (map file_of c.args.files.now) c.in-Ok.field-0 c.in-Ok.ensures c.requires.fits, λ _. refl)

pub returns-then-files-lt-MOST_FILES-clause-fits : goal.returns-then-files-lt-MOST_FILES-clause-fits
returns-then-files-lt-MOST_FILES-clause-fits c entry =
    fits_gap (record { path = c.args.path.now; entry = entry }) (map file_of c.args.files.now) c.in-Err.field-0 c.in-Err.ensures (c.args.path_bytes + length c.as_str-text.result.now)
    (rw (c.requires.counted, c.as_str-text.ensures.same) refl) (omega (arith, length-map c.args.files.now file_of))

pub returns-else-files-lt-MOST_FILES-clause-fits : goal.returns-else-files-lt-MOST_FILES-clause-fits
returns-else-files-lt-MOST_FILES-clause-fits c entry = (
  λ few. let room = ltb-true (length c.args.files.now) most_files few in absurd (omega arith),
  λ fits. absurd (full_gap (record { path = c.args.path.now; entry = entry }) (map file_of c.args.files.now) c.in-Err.field-0 c.in-Err.ensures (omega (arith, length-map c.args.files.now file_of))
      fits),
)
