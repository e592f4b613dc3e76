-- Which of the files in the order of their paths lie below a folder: one after another, from the first on that
-- isn't less than the beginning of the paths below it.
use Rattle.std.proofs.Common.{◌≡◌, ◌∙◌, ap, sym, subst, refl, ℕ, zero, suc, ◌+◌, ◌<◌, eq-eqb, length, get_or, Bool, true, false, List, [], ◌∷◌, ◌++◌, take, drop, None, Some}
use Rattle.std.specs.Prelude.{◌==◌, ◌&&◌, slice_get}
use Rattle.std.specs.List.{flat_map}
use Rattle.std.specs.Ordering.{is_lt, nat_cmp}
use Rattle.std.specs.declared.cmp.Ordering.{Ordering}
use Rattle.std.specs.declared.cmp.Ordering.TheVariants.{Less, Equal, Greater}
use Rattle.std.proofs.lemmas.Bool.{eqb-true}
use Rattle.std.proofs.lemmas.Cmp.{nat_cmp_total, tied_itself}
use Rattle.std.proofs.lemmas.Grind.{flat_map-append}
use Rattle.std.proofs.lemmas.List.{append-nil, take_more}
use Rattle.std.proofs.lemmas.Map.Lookups.{exact_unsigned}
use Rattle.hook_base.specs.Rising.{IsBelow, IsBelowAll, path_cmp}
use Rattle.hook_base.specs.RisingLemmas.{IsBelow-trans}
use Rattle.hook_base.specs.Trees.{IsRising, path_of}
use Rattle.hook_base.specs.declared.file.File.{File}
use Rattle.named_files.specs.NamedPaths.{with_path, with_paths}
use Rattle.named_files.specs.Words.{beginning_below, path_begins_with}
use Rattle.hookhost.specs.UnstagedWords.{AreBefore, AreFrom, is_before_at, path_below_at, paths_or_word, staged_beginning}

-- ---- paths that are named one after another

pub with_paths-append : (paths first next : List (List ℕ))
    → with_paths (with_paths paths first) next ≡ with_paths paths (first ++ next)
with_paths-append paths [] next = refl
with_paths-append paths (path ∷ first) next = with_paths-append (with_path paths path) first next

pub named-more : (named_by : List ℕ → List (List ℕ)) (words : List (List ℕ)) (i : ℕ) (d word : List ℕ)
    → i < length words → word ≡ get_or words i d
    → with_paths (with_paths [] (flat_map named_by (take i words))) (named_by word)
    ≡ with_paths [] (flat_map named_by (take (i + 1) words))
named-more named_by words i d word within is =
    with_paths-append [] (flat_map named_by (take i words)) (named_by word)
    ∙ ap (λ (more : List (List ℕ)). with_paths [] (flat_map named_by (take i words) ++ more))
    (ap named_by is ∙ sym (append-nil (named_by (get_or words i d))))
    ∙ ap (with_paths []) (sym (flat_map-append named_by (take i words) (get_or words i d ∷ [])))
    ∙ ap (λ (part : List (List ℕ)). with_paths [] (flat_map named_by part)) (sym (take_more words i d within))

-- ---- texts in their order

numbers-tied : (a b : ℕ) → (b == a) ≡ true → nat_cmp a b ≡ Equal
numbers-tied a b same =
    subst (λ (n : ℕ). nat_cmp a n ≡ Equal) (sym (eqb-true b a same)) (tied_itself nat_cmp_total a)

-- what is less than a beginning doesn't begin so
pub less-begins : (beginning path : List ℕ) → path_cmp path beginning ≡ Less
    → path_begins_with beginning path ≡ false
less-begins [] [] less = cc
less-begins [] (x ∷ xs) less = cc
less-begins (h ∷ hs) [] less = refl
less-begins (h ∷ hs) (x ∷ xs) less =
    elim (h == x) as (λ (b : Bool). (h == x) ≡ b → (b && path_begins_with hs xs) ≡ false) [
      | true ↦ λ same. less-begins hs xs (rw (numbers-tied x h same) at less)
      | false ↦ λ _. refl
    ] refl

less-not : (path text : List ℕ) → (IsBelow path text → ⊥) → path_cmp path text ≡ Less → ⊥
less-not path text from less = from (record { is_less = less })

-- of what isn't less than a beginning, what comes after one that doesn't begin so doesn't either
pub later-begins : (beginning path later : List ℕ) → (path_cmp path beginning ≡ Less → ⊥)
    → path_begins_with beginning path ≡ false → path_cmp path later ≡ Less → path_begins_with beginning later ≡ false
later-begins [] path later from other less = cc
later-begins (h ∷ hs) [] later from other less = absurd (from refl)
later-begins (h ∷ hs) (x ∷ xs) [] from other less = cc
later-begins (h ∷ hs) (x ∷ xs) (y ∷ ys) from other less =
    elim (h == y) as (λ (b : Bool). (h == y) ≡ b → (b && path_begins_with hs ys) ≡ false) [
      | true ↦ λ same.
          let is : h ≡ y = eqb-true h y same in
          elim (nat_cmp x h) as (λ (o : Ordering). nat_cmp x h ≡ o → path_begins_with hs ys ≡ false) [
            | Less ↦ λ e. absurd (from (rw e refl))
            | Equal ↦ λ e.
                let tied : x ≡ h = exact_unsigned x h e in
                later-begins hs xs ys
                (λ l. from (rw e l))
                (rw (eq-eqb h x (sym tied)) at other)
                (rw (subst (λ (n : ℕ). nat_cmp x n ≡ Equal) is e) at less)
            | Greater ↦ λ e. let above : nat_cmp x y ≡ Greater = subst (λ (n : ℕ). nat_cmp x n ≡ Greater) is e in
                let greater = rw above at less in cc
          ] refl
      | false ↦ λ _. refl
    ] refl

-- ---- files in the order of their paths

pub drop-at : (files : List File) (i : ℕ) (file : File) → slice_get files i ≡ Some file
    → drop i files ≡ file ∷ drop (suc i) files
drop-at [] i file e = cc
drop-at (first ∷ files) zero file e = let is : first ≡ file = cc in ap (λ (one : File). one ∷ files) is
drop-at (first ∷ files) (suc i) file e = drop-at files i file e

pub drop-past : (files : List File) (i : ℕ) → slice_get files i ≡ None → drop i files ≡ []
drop-past [] zero e = refl
drop-past [] (suc i) e = refl
drop-past (first ∷ files) zero e = cc
drop-past (first ∷ files) (suc i) e = drop-past files i e

pub rising-drop : (files : List File) (i : ℕ) → IsRising files → IsRising (drop i files)
rising-drop [] zero rising = tt
rising-drop [] (suc i) rising = tt
rising-drop (first ∷ files) zero rising = rising
rising-drop (first ∷ files) (suc i) rising = rising-drop files i rising.1

-- ---- the first file that isn't less than a text

lt-less : (o : Ordering) → is_lt o ≡ true → o ≡ Less
lt-less Less e = refl
lt-less Equal e = cc
lt-less Greater e = cc

pub before-none : (text : List ℕ) (files : List File) → AreBefore text (take 0 files)
before-none text [] = tt
before-none text (first ∷ files) = tt

pub before-more : (text : List ℕ) (files : List File) (i : ℕ) → IsRising files → is_before_at files i text ≡ true
    → AreBefore text (take (suc i) files)
before-more text [] i rising e = cc
before-more text (first ∷ files) zero rising e =
    (record { is_less = lt-less (path_cmp first.path text) e }, before-none text files)
before-more text (first ∷ []) (suc i) rising e = cc
before-more text (first ∷ second ∷ files) (suc i) rising e =
    let others : AreBefore text (take (suc i) (second ∷ files)) = before-more text (second ∷ files) i rising.1 e in
    (IsBelow-trans first.path second.path text rising.0.0 others.0, others)

from-later : (text path : List ℕ) (files : List File) → IsBelowAll path_of path files → (IsBelow path text → ⊥)
    → AreFrom text files
from-later text path [] below from = tt
from-later text path (first ∷ files) below from =
    (λ less. from (IsBelow-trans path first.path text below.0 less), from-later text path files below.1 from)

pub from-here : (text : List ℕ) (files : List File) (i : ℕ) → IsRising files → is_before_at files i text ≡ false
    → AreFrom text (drop i files)
from-here text [] zero rising e = tt
from-here text [] (suc i) rising e = tt
from-here text (first ∷ files) zero rising e =
    let not_less : IsBelow first.path text → ⊥ = λ below. let less = below.is_less in let test = rw less at e in cc in
    (not_less, from-later text first.path files rising.0 not_less)
from-here text (first ∷ files) (suc i) rising e = from-here text files i rising.1 e

-- ---- those that begin so

-- none of those that are less does
pub below-from : (beginning : List ℕ) (files : List File) (i : ℕ) → AreBefore beginning (take i files)
    → staged_beginning files beginning ≡ staged_beginning (drop i files) beginning
below-from beginning [] zero before = refl
below-from beginning [] (suc i) before = refl
below-from beginning (first ∷ files) zero before = refl
below-from beginning (first ∷ files) (suc i) before =
    rw (less-begins beginning first.path before.0.is_less) (below-from beginning files i before.1)

none-later : (beginning path : List ℕ) (files : List File) → IsBelowAll path_of path files
    → (IsBelow path beginning → ⊥) → path_begins_with beginning path ≡ false → staged_beginning files beginning ≡ []
none-later beginning path [] below from other = refl
none-later beginning path (first ∷ files) below from other =
    rw (later-begins beginning path first.path (less-not path beginning from) other below.0.is_less)
    (none-later beginning path files below.1 from other)

none-among : (beginning : List ℕ) (files : List File) → IsRising files → AreFrom beginning files
    → path_below_at files 0 beginning ≡ None → staged_beginning files beginning ≡ []
none-among beginning [] rising from none = refl
none-among beginning (first ∷ files) rising from none =
    elim (path_begins_with beginning first.path) as (λ (b : Bool). path_begins_with beginning first.path ≡ b
    → staged_beginning (first ∷ files) beginning ≡ []) [
      | true ↦ λ e. let some = rw e at none in cc
      | false ↦ λ e. rw e (none-later beginning first.path files rising.0 from.0 e)
    ] refl

below-drop : (beginning : List ℕ) (files : List File) (i : ℕ)
    → path_below_at files i beginning ≡ path_below_at (drop i files) 0 beginning
below-drop beginning [] zero = refl
below-drop beginning [] (suc i) = refl
below-drop beginning (first ∷ files) zero = refl
below-drop beginning (first ∷ files) (suc i) = below-drop beginning files i

-- if the file at an index doesn't, none from there on does
pub none-from : (beginning : List ℕ) (files : List File) (i : ℕ) → IsRising files → AreFrom beginning (drop i files)
    → path_below_at files i beginning ≡ None → staged_beginning (drop i files) beginning ≡ []
none-from beginning files i rising from none =
    none-among beginning (drop i files) (rising-drop files i rising) from (sym (below-drop beginning files i) ∙ none)

-- and if it does, it is the first
pub one-from : (beginning : List ℕ) (files : List File) (i : ℕ) (path : List ℕ)
    → path_below_at files i beginning ≡ Some path
    → staged_beginning (drop i files) beginning ≡ path ∷ staged_beginning (drop (suc i) files) beginning
one-from beginning [] i path some = cc
one-from beginning (first ∷ files) zero path some =
    elim (path_begins_with beginning first.path) as (λ (b : Bool). path_begins_with beginning first.path ≡ b
    → staged_beginning (first ∷ files) beginning ≡ path ∷ staged_beginning files beginning) [
      | true ↦ λ e. let same = rw e at some in let is : first.path ≡ path = cc in rw e (ap (λ (one : List ℕ). one ∷ staged_beginning files beginning) is)
      | false ↦ λ e. let none = rw e at some in cc
    ] refl
one-from beginning (first ∷ files) (suc i) path some = one-from beginning files i path some

pub from-next : (beginning : List ℕ) (files : List File) (i : ℕ) → AreFrom beginning (drop i files)
    → AreFrom beginning (drop (suc i) files)
from-next beginning [] zero from = tt
from-next beginning [] (suc i) from = tt
from-next beginning (first ∷ []) zero from = tt
from-next beginning (first ∷ second ∷ files) zero from = from.1
from-next beginning (first ∷ files) (suc i) from = from-next beginning files i from

-- ---- what a word unstages that isn't staged

-- the search has found where the files below the folder of a word begin, or would
pub record IsSearched (staged : List File) (word beginning : List ℕ) (first : ℕ) : Type 0 where
  pub is : beginning ≡ beginning_below word
  pub before : AreBefore beginning (take first staged)
  pub others : AreFrom beginning (drop first staged)
  pub rising : IsRising staged

all-below : (staged : List File) (word beginning : List ℕ) (first : ℕ) → IsSearched staged word beginning first
    → staged_beginning staged (beginning_below word) ≡ staged_beginning (drop first staged) beginning
all-below staged word beginning first at =
    ap (staged_beginning staged) (sym at.is) ∙ below-from beginning staged first at.before

pub itself-unstaged : (staged : List File) (word beginning : List ℕ) (first : ℕ)
    → IsSearched staged word beginning first → path_below_at staged first beginning ≡ None
    → paths_or_word (staged_beginning staged (beginning_below word)) word ≡ word ∷ []
itself-unstaged staged word beginning first at none =
    ap (λ (paths : List (List ℕ)). paths_or_word paths word)
    (all-below staged word beginning first at ∙ none-from beginning staged first at.rising at.others none)

pub folder-unstaged : (staged : List File) (word beginning path : List ℕ) (first : ℕ)
    → IsSearched staged word beginning first → path_below_at staged first beginning ≡ Some path
    → paths_or_word (staged_beginning staged (beginning_below word)) word ≡ staged_beginning (drop first staged) beginning
folder-unstaged staged word beginning path first at some =
    let one = one-from beginning staged first path some in
    ap (λ (paths : List (List ℕ)). paths_or_word paths word) (all-below staged word beginning first at ∙ one)
    ∙ sym one
