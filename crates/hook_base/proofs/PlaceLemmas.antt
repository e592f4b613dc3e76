-- What a search by halves knows of rows that rise, and what it finds.
use Rattle.std.proofs.Common.{◌≡◌, ◌∙◌, ℕ, zero, suc, ◌+◌, ◌<◌, ◌≤◌, List, [], ◌∷◌, length, get_or, arith, sym, subst}
use Rattle.std.specs.declared.cmp.Ordering.{Ordering}
use Rattle.std.specs.declared.cmp.Ordering.TheVariants.{Less, Equal, Greater}
use Rattle.hook_base.specs.declared.file.File.{File}
use Rattle.hook_base.specs.Overlays.{From, UpTo}
use Rattle.hook_base.specs.Rising.{IsBelow, IsBelowAll, path_cmp}
use Rattle.hook_base.specs.RisingLemmas.{IsBelow-trans, below_all_later, below_from_greater, path_tied}
use Rattle.hook_base.specs.Trees.{IsRising, path_of}
use Rattle.hook_base.specs.Places.{IsAt, IsGap}

pub From-length : (path : List ℕ) (rows : List File) → From path rows (length rows)
From-length path [] = tt
From-length path (row ∷ rows) = From-length path rows

pub gap : (path : List ℕ) (rows : List File) (n : ℕ) → UpTo path rows n → From path rows n → IsGap path rows n
gap path rows zero up from = from
gap path [] (suc n) up from = absurd up
gap path (row ∷ rows) (suc n) up from = (up.0, gap path rows n up.1 from)

below_at : (path : List ℕ) (rows : List File) (k : ℕ) (d : File) → k < length rows → IsBelowAll path_of path rows → IsBelow path (get_or rows k d).path
below_at path [] k d within all = absurd (omega arith)
below_at path (first ∷ rows) zero d within all = all.0
below_at path (first ∷ rows) (suc k) d within all = below_at path rows k d (omega arith) all.1

pub up_to : (path : List ℕ) (rows : List File) (k : ℕ) (d : File) → k < length rows → IsRising rows → IsBelow (get_or rows k d).path path → UpTo path rows (suc k)
up_to path [] k d within rising below = absurd (omega arith)
up_to path (first ∷ rows) zero d within rising below = (below, tt)
up_to path (first ∷ rows) (suc k) d within rising below =
    (IsBelow-trans first.path (get_or rows k d).path path (below_at first.path rows k d (omega arith) rising.0) below, up_to path rows k d (omega arith) rising.1 below)

pub from_on : (path : List ℕ) (rows : List File) (k : ℕ) (d : File) → k < length rows → IsRising rows → IsBelow path (get_or rows k d).path → From path rows k
from_on path [] k d within rising below = absurd (omega arith)
from_on path (first ∷ rows) zero d within rising below = (below, below_all_later path_of path first.path rows below rising.0)
from_on path (first ∷ rows) (suc k) d within rising below = from_on path rows k d (omega arith) rising.1 below

pub found : (path : List ℕ) (rows : List File) (k : ℕ) (d : File) → k < length rows → IsRising rows → path ≡ (get_or rows k d).path → IsAt path rows k
found path [] k d within rising same = absurd (omega arith)
found path (first ∷ rows) zero d within rising same = same
found path (first ∷ rows) (suc k) d within rising same =
    (subst (λ (p : List ℕ). IsBelow first.path p) (sym same) (below_at first.path rows k d (omega arith) rising.0), found path rows k d (omega arith) rising.1 same)

-- what comes before a path comes before a later one

pub UpTo-within : (path : List ℕ) (rows : List File) (n : ℕ) → UpTo path rows n → n ≤ length rows
UpTo-within path rows zero up = omega arith
UpTo-within path [] (suc n) up = absurd up
UpTo-within path (row ∷ rows) (suc n) up = let within = UpTo-within path rows n up.1 in omega arith

pub UpTo-later : (path later : List ℕ) (rows : List File) (n : ℕ) → IsBelow path later → UpTo path rows n → UpTo later rows n
UpTo-later path later rows zero below up = tt
UpTo-later path later [] (suc n) below up = absurd up
UpTo-later path later (row ∷ rows) (suc n) below up =
    (IsBelow-trans row.path path later up.0 below, UpTo-later path later rows n below up.1)

pub UpTo-at : (path : List ℕ) (rows : List File) (n : ℕ) → IsAt path rows n → UpTo path rows n
UpTo-at path rows zero at = tt
UpTo-at path [] (suc n) at = absurd at
UpTo-at path (row ∷ rows) (suc n) at = (at.0, UpTo-at path rows n at.1)

pub UpTo-gap : (path : List ℕ) (rows : List File) (n : ℕ) → IsGap path rows n → UpTo path rows n
UpTo-gap path rows zero gap = tt
UpTo-gap path [] (suc n) gap = absurd gap
UpTo-gap path (row ∷ rows) (suc n) gap = (gap.0, UpTo-gap path rows n gap.1)

-- what comparing the path of a row tells

compared : (path : List ℕ) (rows : List File) (k : ℕ) (shown row : File) (o : Ordering) → shown ≡ row → row ≡ get_or rows k row → path_cmp shown.path path ≡ o
    → path_cmp (get_or rows k row).path path ≡ o
compared path rows k shown row o same stood is = subst (λ (file : File). path_cmp file.path path ≡ o) (same ∙ stood) is

pub up_to_row : (path : List ℕ) (rows : List File) (k : ℕ) (shown row : File) → k < length rows → IsRising rows → shown ≡ row → row ≡ get_or rows k row → path_cmp shown.path path ≡ Less
    → UpTo path rows (k + 1)
up_to_row path rows k shown row within rising same stood is =
    let next : suc k ≡ k + 1 = omega arith in
    subst (λ (n : ℕ). UpTo path rows n) next (up_to path rows k row within rising (record { is_less = compared path rows k shown row Less same stood is }))

pub from_row : (path : List ℕ) (rows : List File) (k : ℕ) (shown row : File) → k < length rows → IsRising rows → shown ≡ row → row ≡ get_or rows k row → path_cmp shown.path path ≡ Greater
    → From path rows k
from_row path rows k shown row within rising same stood is =
    from_on path rows k row within rising (below_from_greater path (get_or rows k row).path (compared path rows k shown row Greater same stood is))

pub found_row : (path : List ℕ) (rows : List File) (k : ℕ) (shown row : File) → k < length rows → IsRising rows → shown ≡ row → row ≡ get_or rows k row → path_cmp shown.path path ≡ Equal
    → IsAt path rows k
found_row path rows k shown row within rising same stood is =
    found path rows k row within rising (sym (path_tied (get_or rows k row).path path (compared path rows k shown row Equal same stood is)))
