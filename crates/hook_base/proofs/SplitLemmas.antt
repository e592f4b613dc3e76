-- Where the rows before an index are split into added rows and others, the next of either is the row at the index.
use Rattle.std.proofs.Common.{◌≡◌, ◌∙◌, ℕ, zero, suc, ◌+◌, ◌-◌, ◌<◌, List, [], ◌∷◌, length, get_or, Some, ap, sym, subst, refl, inl, inr, arith}
use Rattle.std.specs.Prelude.{slice_get}
use Rattle.std.specs.declared.cmp.Ordering.{Ordering}
use Rattle.std.specs.declared.cmp.Ordering.TheVariants.{Less}
use Rattle.std.proofs.lemmas.Option.{get_or_from_slice_get}
use Rattle.hook_base.specs.declared.file.File.{File}
use Rattle.hook_base.specs.Overlays.{From, AreApart, IsSplit, UpTo, put_rows}
use Rattle.hook_base.specs.Rising.{IsBelow, path_cmp}
use Rattle.hook_base.specs.RisingLemmas.{path_cases}
use Rattle.hook_base.specs.TreeLemmas.{entry_of-at}
use Rattle.hook_base.specs.Trees.{IsRising, entry_of}
use Rattle.hook_base.proofs.MergedLemmas.{apart_added, read_added, read_rows}
use Rattle.hook_base.proofs.OverlayLemmas.{none_some}
use Rattle.hook_base.proofs.PlaceLemmas.{found, gap}

pub compared : (x y a b : File) (o : Ordering) → x ≡ a → y ≡ b → path_cmp x.path y.path ≡ o → path_cmp a.path b.path ≡ o
compared x y a b o first second is =
    subst (λ (f : File). path_cmp f.path b.path ≡ o) first (subst (λ (s : File). path_cmp x.path s.path ≡ o) second is)

pub any_default : (rows : List File) (k : ℕ) (d e : File) → k < length rows → get_or rows k d ≡ get_or rows k e
any_default [] k d e within = absurd (omega arith)
any_default (row ∷ rows) zero d e within = refl
any_default (row ∷ rows) (suc k) d e within = any_default rows k d e (omega arith)

-- a row of either has another path than one of the other
apart_paths : (added rows : List File) (a b : ℕ) (x y : File) → IsRising added → IsRising rows → AreApart added rows → a < length added → b < length rows → get_or added a x ≡ x → get_or rows b y ≡ y
    → x.path ≡ y.path → ⊥
apart_paths added rows a b x y up rising apart of_added of_rows at there same =
    let first = found x.path added a x of_added up (ap (λ (row : File). row.path) (sym at)) in
    let second = found x.path rows b y of_rows rising (same ∙ ap (λ (row : File). row.path) (sym there)) in
    none_some (get_or added a x).entry (entry_of x.path added) (apart_added x.path (get_or rows b y).entry added rows apart (entry_of-at x.path rows b y second)) (entry_of-at x.path added a x first)

-- so where the one isn't before the other, it is after it
pub behind : (added rows : List File) (a b : ℕ) (x y : File) → IsRising added → IsRising rows → AreApart added rows → a < length added → b < length rows → get_or added a x ≡ x → get_or rows b y ≡ y
    → (path_cmp x.path y.path ≡ Less → ⊥) → IsBelow y.path x.path
behind added rows a b x y up rising apart of_added of_rows at there not_less =
    elim (path_cases x.path y.path) [
      | inl (inl below) ↦ absurd (not_less below.is_less)
      | inl (inr same) ↦ absurd (apart_paths added rows a b x y up rising apart of_added of_rows at there same)
      | inr above ↦ above
    ]

pub read_base_row : (added rows : List File) (index before : ℕ) (row : File) → IsRising added → IsRising rows → AreApart added rows → IsSplit added rows index before → index < before + length rows
    → slice_get rows (index - before) ≡ Some row → From row.path added before → slice_get (put_rows added rows) index ≡ Some row
read_base_row added rows index before row up rising apart split within there from =
    let at = get_or_from_slice_get rows (index - before) row row there in
    let counted = split.counted in
    let up_to = subst (λ (first : File). UpTo first.path added before) at (split.added_first row within) in
    read_rows added rows before (index - before) index row (omega arith) up apart (gap row.path added before up_to from)
    (found row.path rows (index - before) row (omega arith) rising (ap (λ (first : File). first.path) (sym at))) at

pub read_added_row : (added rows : List File) (index before : ℕ) (row : File) → IsRising added → IsRising rows → AreApart added rows → IsSplit added rows index before → before < length added
    → get_or added before row ≡ row → From row.path rows (index - before) → slice_get (put_rows added rows) index ≡ Some row
read_added_row added rows index before row up rising apart split within at from =
    let counted = split.counted in
    let up_to = subst (λ (first : File). UpTo first.path rows (index - before)) at (split.rows_first row within) in
    read_added added rows before (index - before) index row (omega arith) up apart (found row.path added before row within up (ap (λ (first : File). first.path) (sym at)))
    (gap row.path rows (index - before) up_to from) at
