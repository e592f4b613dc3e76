use Rattle.std.proofs.Common.{◌≡◌, true, false, ℕ, ◌+◌, ◌<◌, ◌≤◌, List, map, length, get_or, take, sym, ap, ◌∙◌, arith}
use Rattle.std.proofs.lemmas.List.{take-map}
use Rattle.std.proofs.lemmas.List.{length-map}
use Rattle.std.proofs.lemmas.List.Sums.{sum_by_more_le}
use lib.ListN.{get_or-map}
use Rattle.hook_base.specs.declared.file.File.{File}
use Rattle.repo_store.specs.Shared.{FileParts}
use Rattle.store_faults.specs.Limits.{path_bytes}
use Rattle.repo_store.specs.Lists.{file_of}
use Rattle.repo_store.proofs.files.fit.Goals as goal

-- the paths so far and the next are within all
next_within : (files : List FileParts) (i : ℕ) (file : FileParts) → i < length files → file ≡ get_or files i file
    → path_bytes (map file_of (take i files)) + length file.path ≤ path_bytes (map file_of files)
next_within files i file within is =
    let most = sum_by_more_le (λ (f : File). length f.path) (map file_of files) i (file_of file) (omega (arith, length-map files file_of)) in
    let front : path_bytes (take i (map file_of files)) ≡ path_bytes (map file_of (take i files)) = ap path_bytes (take-map file_of i files) in
    let one : length (get_or (map file_of files) i (file_of file)).path ≡ length file.path = ap (λ (f : File). length f.path) (get_or-map file_of files i file ∙ ap file_of (sym is)) in
    omega arith

pub returns-then-len-left : goal.returns-then-len-left
returns-then-len-left c = (
  λ h. absurd (let never : false ≡ true = h in cc),
  λ fits.
      let most = next_within c.args.files.now c.files.file-index c.file-item.result c.files-test.true c.file-item.is in
      let obeys = fits.paths_fit in
      let len = ap length (c.as_str-len.ensures.same ∙ c.path.ensures) in
      let left = c.files.invariant in
      let over = c.if-len-left.true in
      let broken : ⊥ = omega arith in
      absurd broken,
)
