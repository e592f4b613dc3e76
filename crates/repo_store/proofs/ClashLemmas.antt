-- Folders of paths, and searches by halves for the files that can't stand next to a path.
use Rattle.std.proofs.Common.{◌≡◌, ℕ, suc, ◌+◌, ◌<◌, ◌≤◌, List, [], ◌∷◌, ◌++◌, map, length, take, drop, get_or, true, false, IsTrue, Result, Ok, Err, MatchResult, is_ok, refl, sym, ap, subst, ◌∙◌, inl, inr, append_assoc, arith}
use Rattle.std.specs.List.{Any}
use Rattle.std.specs.List.Sorted.{IsNonDecreasingBy, IsBinarySearchResult}
use Rattle.std.specs.Ordering.{is_lt, ordering_index, ordering_reverse, ordering_then, nat_cmp}
use Rattle.std.specs.declared.cmp.Ordering.{Ordering}
use Rattle.std.specs.declared.cmp.Ordering.TheVariants.{Less, Equal, Greater}
use Rattle.std.specs.Cmp.Lexicographic.{nat_list_cmp_total}
use Rattle.std.proofs.lemmas.Bool.{cases_lt}
use Rattle.std.proofs.lemmas.Cmp.{nat_cmp_total}
use Rattle.std.proofs.lemmas.List.{get_or_default, length-append, length-map, take-append-drop}
use Rattle.std.proofs.lemmas.List.Sorted.{searchable_from_sorted}
use Rattle.std.proofs.Math.Seq.{get_or-append_seam, split_at, take-append_seam}
use lib.ListN.{get_or-map}
use Rattle.hook_base.specs.declared.file.File.{File}
use Rattle.hook_base.specs.Rising.{IsBelow, path_cmp}
use Rattle.hook_base.specs.RisingLemmas.{greater_from_below, path_itself, path_tied, rising_pair}
use Rattle.hook_base.specs.Trees.{IsRising, path_of}
use Rattle.repo_store.specs.Shared.{FileParts}
use Rattle.repo_store.specs.Clashes.{IsFolderOf, slash}
use Rattle.repo_store.specs.Lists.{file_of}

-- ---- what begins with a text

-- the path's front, as long as the text
abbrev pub cut_to : List ℕ → List ℕ → List ℕ
cut_to text path = take (length text) path

then_not_less : (r s t u : Ordering) → s ≡ ordering_reverse r → ordering_then r t ≡ Less → (t ≡ Less → is_lt u ≡ false) → is_lt (ordering_then s u) ≡ false
then_not_less Less s t u back less rest = rw back refl
then_not_less Equal s t u back less rest = rw back (rest less)
then_not_less Greater s t u back less rest = absurd (let never : Greater ≡ Less = less in cc)

-- fronts of paths that rise do not fall
cut_rises : (text p q : List ℕ) → IsBelow p q → is_lt (path_cmp (cut_to text q) (cut_to text p)) ≡ false
cut_rises [] p q below = refl
cut_rises (byte ∷ text) [] [] below = refl
cut_rises (byte ∷ text) [] (y ∷ q) below = refl
cut_rises (byte ∷ text) (x ∷ p) [] below = absurd (let less = below.is_less in let never : Greater ≡ Less = less in cc)
cut_rises (byte ∷ text) (x ∷ p) (y ∷ q) below =
    then_not_less (nat_cmp x y) (nat_cmp y x) (path_cmp p q) (path_cmp (cut_to text q) (cut_to text p)) (nat_cmp_total.antisymm y x) below.is_less
    (λ less. cut_rises text p q (record { is_less = less }))

-- ---- what lies below a folder

abbrev pub below_folder : List ℕ → List ℕ
below_folder folder = folder ++ (slash ∷ [])

then_assoc : (r s t : Ordering) → ordering_then (ordering_then r s) t ≡ ordering_then r (ordering_then s t)
then_assoc Less s t = refl
then_assoc Equal s t = refl
then_assoc Greater s t = refl

-- a path that is as long as the folder at least is compared by its front and the byte after it
pub long_side : (folder path : List ℕ) → length folder ≤ length path
    → ordering_then (path_cmp (take (length folder) path) folder) (path_cmp (take 1 (drop (length folder) path)) (slash ∷ [])) ≡ path_cmp (cut_to (below_folder folder) path) (below_folder folder)
long_side [] path long = refl
long_side (x ∷ folder) [] long = absurd (omega arith)
long_side (x ∷ folder) (y ∷ path) long = then_assoc (nat_cmp y x) _ _ ∙ ap (ordering_then (nat_cmp y x)) (long_side folder path (omega arith))

-- one that is shorter stands where it stands to the folder
pub short_side : (folder path : List ℕ) → length path < length folder → path_cmp path folder ≡ path_cmp (cut_to (below_folder folder) path) (below_folder folder)
short_side [] path short = absurd (omega arith)
short_side (x ∷ folder) [] short = refl
short_side (x ∷ folder) (y ∷ path) short = ap (ordering_then (nat_cmp y x)) (short_side folder path (omega arith))

folder_from_cut : (folder path : List ℕ) → cut_to (below_folder folder) path ≡ below_folder folder → IsFolderOf folder path
folder_from_cut folder path same =
    let rest = drop (length (below_folder folder)) path in
    record {
      more = rest;
      is = sym (take-append-drop (length (below_folder folder)) path) ∙ ap (λ (front : List ℕ). front ++ rest) same ∙ append_assoc folder (slash ∷ []) rest;
    }

cut_from_folder : (folder path : List ℕ) → IsFolderOf folder path → cut_to (below_folder folder) path ≡ below_folder folder
cut_from_folder folder path leads =
    ap (cut_to (below_folder folder)) (leads.is ∙ sym (append_assoc folder (slash ∷ []) leads.more)) ∙ take-append_seam (below_folder folder) leads.more

-- ---- searches by halves

-- on which side of a text the key of a file's path stands
abbrev pub side : (List ℕ → List ℕ) → List ℕ → FileParts → Ordering
side key text file = path_cmp (key file.path) text

any_mapped : {X : Type 0} (P Q : X → Type 0) (items : List X) → ((x : X) → P x → Q x) → Any P items → Any Q items
any_mapped P Q items implies found = (found.0, found.1, found.2, found.3, implies found.1 found.4)

module _ (key : List ℕ → List ℕ) (rises : (p q : List ℕ) → IsBelow p q → is_lt (path_cmp (key q) (key p)) ≡ false) (text : List ℕ) where
  sides_rise : (files : List FileParts) → IsRising (map file_of files) → IsNonDecreasingBy (λ y. ordering_index (side key text y)) files
  sides_rise files rising =
      searchable_from_sorted nat_list_cmp_total (λ (file : FileParts). key file.path) files text
      (λ k d low high.
      let all = map file_of files in
      let below = rising_pair path_of all k (k + 1) (file_of d) (file_of d) (omega arith) (omega (arith, length-map files file_of)) rising in
      let first : (get_or all k (file_of d)).path ≡ (get_or files k d).path = ap path_of (get_or-map file_of files k d) in
      let next : (get_or all (k + 1) (file_of d)).path ≡ (get_or files (k + 1) d).path = ap path_of (get_or-map file_of files (k + 1) d) in
      rises (get_or files k d).path (get_or files (k + 1) d).path (subst (λ (p : List ℕ). IsBelow p (get_or files (k + 1) d).path) first (subst (IsBelow (get_or all k (file_of d)).path) next below)))

  found : (files : List FileParts) (k : ℕ) → k < length files → ((d : FileParts) → side key text (get_or files k d) ≡ Equal) → Any (λ (file : File). key file.path ≡ text) (map file_of files)
  found [] k within equal = absurd (omega arith)
  found (file ∷ files) k within equal =
      let all = file ∷ files in
      let here = get_or all k file in
      (k, file_of here, omega (arith, length-map all file_of), get_or-map file_of all k here ∙ ap file_of (get_or_default all k here file within), path_tied (key here.path) text (equal file))

  missed : (files : List FileParts) (k : ℕ) → ((j : ℕ) (d : FileParts) → 0 ≤ j → j < k → side key text (get_or files j d) ≡ Less)
      → ((j : ℕ) (d : FileParts) → k ≤ j → j < length files → side key text (get_or files j d) ≡ Greater)
      → Any (λ (file : File). key file.path ≡ text) (map file_of files) → ⊥
  missed [] k before after any = let within = any.2 in omega arith
  missed (file ∷ files) k before after any =
      let all = file ∷ files in
      let inside = any.2 in
      let within : any.0 < length all = omega (arith, length-map all file_of) in
      let is : (get_or all any.0 file).path ≡ any.1.path = ap path_of (sym (get_or-map file_of all any.0 file) ∙ get_or_default (map file_of all) any.0 (file_of file) any.1 any.2 ∙ any.3) in
      let tied : side key text (get_or all any.0 file) ≡ Equal = path_itself (key (get_or all any.0 file).path) text (ap key is ∙ any.4) in
      elim (cases_lt any.0 k) as (λ _. ⊥) [
        | inl low ↦ let less = before any.0 file (omega arith) low in let never : Less ≡ Equal = sym less ∙ tied in cc
        | inr high ↦ let greater = after any.0 file high within in let never : Greater ≡ Equal = sym greater ∙ tied in cc
      ]

  -- what the search by halves says
  pub searched : (files : List FileParts) (r : Result ℕ ℕ) → IsRising (map file_of files) → MatchResult r (λ k. k < length files) (λ k. k ≤ length files) → IsBinarySearchResult (side key text) files r
      → (IsTrue (is_ok r) → Any (λ (file : File). key file.path ≡ text) (map file_of files)) × (Any (λ (file : File). key file.path ≡ text) (map file_of files) → IsTrue (is_ok r))
  searched files (Ok k) rising within it = (λ _. found files k within it, λ _. refl)
  searched files (Err k) rising within it = (
    λ h. absurd (let never : false ≡ true = h in cc),
    λ any. absurd (let parts = it (sides_rise files rising) in missed files k parts.0 parts.1 any),
  )

abbrev pub whole : List ℕ → List ℕ
whole path = path

pub whole_rises : (p q : List ℕ) → IsBelow p q → is_lt (path_cmp q p) ≡ false
whole_rises p q below = ap is_lt (greater_from_below p q below)

-- and what it says of a folder
pub below_searched : (folder : List ℕ) (files : List FileParts) (r : Result ℕ ℕ) → IsRising (map file_of files) → MatchResult r (λ k. k < length files) (λ k. k ≤ length files)
    → IsBinarySearchResult (side (cut_to (below_folder folder)) (below_folder folder)) files r
    → (IsTrue (is_ok r) → Any (λ (file : File). IsFolderOf folder file.path) (map file_of files)) × (Any (λ (file : File). IsFolderOf folder file.path) (map file_of files) → IsTrue (is_ok r))
below_searched folder files r rising within it =
    let below = below_folder folder in
    let tells = searched (cut_to below) (cut_rises below) below files r rising within it in (
      λ h. any_mapped (λ (file : File). cut_to below file.path ≡ below) (λ (file : File). IsFolderOf folder file.path) (map file_of files) (λ file. folder_from_cut folder file.path) (tells.0 h),
      λ any. tells.1 (any_mapped (λ (file : File). IsFolderOf folder file.path) (λ (file : File). cut_to below file.path ≡ below) (map file_of files) (λ file. cut_from_folder folder file.path) any),
    )

-- ---- the texts before a path's slashes

-- none of the first bytes is a slash after a file's path
abbrev pub NoneBefore : List ℕ → List File → ℕ → Type 0
NoneBefore path files n = (k : ℕ) → k < n → get_or path k 0 ≡ slash → Any (λ (file : File). file.path ≡ take k path) files → ⊥

pub lies_at : (path : List ℕ) (files : List File) (k : ℕ) → k < length path → get_or path k 0 ≡ slash → Any (λ (file : File). file.path ≡ take k path) files
    → Any (λ (file : File). IsFolderOf file.path path) files
lies_at path files k within is_slash =
    any_mapped (λ (file : File). file.path ≡ take k path) (λ (file : File). IsFolderOf file.path path) files
    (λ file same. record {
      more = drop (suc k) path;
      is = split_at path k 0 within ∙ ap (λ (b : ℕ). take k path ++ b ∷ drop (suc k) path) is_slash ∙ ap (λ (front : List ℕ). front ++ slash ∷ drop (suc k) path) (sym same);
    })

pub lies_nowhere : (path : List ℕ) (files : List File) → NoneBefore path files (length path) → Any (λ (file : File). IsFolderOf file.path path) files → ⊥
lies_nowhere path files none any =
    let folder = any.1.path in
    let leads = any.4 in
    let rest = slash ∷ leads.more in
    let long = ap length leads.is ∙ length-append folder rest in
    let within : length folder < length path = omega arith in
    let is_slash : get_or path (length folder) 0 ≡ slash = ap (λ (l : List ℕ). get_or l (length folder) 0) leads.is ∙ get_or-append_seam folder slash leads.more 0 in
    let front : folder ≡ take (length folder) path = sym (ap (take (length folder)) leads.is ∙ take-append_seam folder rest) in
    none (length folder) within is_slash (any.0, any.1, any.2, any.3, front)
