-- The paths of two trees in their order, and the lines of paths.
use Rattle.std.proofs.Common.{◌≡◌, ◌∙◌, ap, sym, refl, subst, append_assoc, ℕ, ◌+◌, Bool, true, false, List, [], ◌∷◌, ◌++◌, drop, map, slice_get, Option, None, Some, is_some}
use Rattle.std.specs.Prelude.{if◌then◌else◌, ◌&&◌, ◌||◌}
use Rattle.std.specs.List.{flat_map, list_any}
use Rattle.std.specs.Str.{bytes_eq}
use Rattle.std.specs.Cmp.Lexicographic.{bytes_decides, texts_ties}
use Rattle.std.specs.Ordering.{is_eq}
use Rattle.std.specs.declared.cmp.Ordering.{Ordering}
use Rattle.std.specs.declared.cmp.Ordering.TheVariants.{Less, Equal, Greater}
use Rattle.hook_base.specs.declared.file.File.{File}
use Rattle.hook_base.specs.declared.file.FileEntry.{FileEntry}
use Rattle.hook_base.specs.declared.file.Mode.{Mode}
use Rattle.hook_base.specs.declared.file.Mode.TheVariants.{Plain, Executable}
use Rattle.hook_base.specs.Rising.{path_cmp}
use Rattle.hook_base.specs.Trees.{entry_of, path_of}
use Rattle.report_text.specs.Report.{line}
use Rattle.hook_base.specs.SameFiles.{is_same_mode}
use Rattle.repository_text.specs.StatusText.{change_line, change_line_at, in_order, is_same_entry, paths_from, paths_of_both, status_text}
use Rattle.repository_text.specs.StatusWalk.{mark_of}
use Rattle.repository_text.proofs.TextLemmas.{drop-none, drop-some, false_from_not}

-- ---- where the walk goes on

pub both-over : (files others : List File) (i j : ℕ) → slice_get files i ≡ None → slice_get others j ≡ None
    → paths_of_both (drop i files) (drop j others) ≡ []
both-over files others i j none gone =
    ap (λ left. paths_of_both left (drop j others)) (drop-none files i none) ∙ ap (λ left. map path_of left) (drop-none others j gone)

pub both-first : (files others : List File) (i j : ℕ) (file : File) → slice_get files i ≡ Some file → slice_get others j ≡ None
    → paths_of_both (drop i files) (drop j others) ≡ file.path ∷ paths_of_both (drop (i + 1) files) (drop j others)
both-first files others i j file found gone =
    let left = drop-none others j gone in
    ap (λ rest. paths_of_both (drop i files) rest) left ∙ ap (λ rest. paths_of_both rest []) (drop-some files i file found)
    ∙ ap (λ rest. file.path ∷ paths_of_both (drop (i + 1) files) rest) (sym left)

pub both-second : (files others : List File) (i j : ℕ) (other : File) → slice_get files i ≡ None → slice_get others j ≡ Some other
    → paths_of_both (drop i files) (drop j others) ≡ other.path ∷ paths_of_both (drop i files) (drop (j + 1) others)
both-second files others i j other none found =
    let left = drop-none files i none in
    ap (λ rest. paths_of_both rest (drop j others)) left ∙ ap (λ rest. map path_of rest) (drop-some others j other found)
    ∙ ap (λ rest. other.path ∷ paths_of_both rest (drop (j + 1) others)) (sym left)

abbrev goes_on : List File → List File → File → File → Ordering → List (List ℕ)
goes_on rest others_rest file other order =
    in_order order file.path other.path (paths_of_both rest (other ∷ others_rest)) (paths_of_both rest others_rest) (paths_of_both (file ∷ rest) others_rest)

both-there : (files others : List File) (i j : ℕ) (file other : File) (order : Ordering) → slice_get files i ≡ Some file → slice_get others j ≡ Some other
    → path_cmp file.path other.path ≡ order
    → paths_of_both (drop i files) (drop j others) ≡ goes_on (drop (i + 1) files) (drop (j + 1) others) file other order
both-there files others i j file other order found there is =
    ap (λ rest. paths_of_both rest (drop j others)) (drop-some files i file found)
    ∙ ap (λ rest. paths_of_both (file ∷ drop (i + 1) files) rest) (drop-some others j other there)
    ∙ ap (λ o. goes_on (drop (i + 1) files) (drop (j + 1) others) file other o) is

pub both-less : (files others : List File) (i j : ℕ) (file other : File) → slice_get files i ≡ Some file → slice_get others j ≡ Some other
    → path_cmp file.path other.path ≡ Less
    → paths_of_both (drop i files) (drop j others) ≡ file.path ∷ paths_of_both (drop (i + 1) files) (drop j others)
both-less files others i j file other found there is =
    both-there files others i j file other Less found there is
    ∙ ap (λ rest. file.path ∷ paths_of_both (drop (i + 1) files) rest) (sym (drop-some others j other there))

pub both-equal : (files others : List File) (i j : ℕ) (file other : File) → slice_get files i ≡ Some file → slice_get others j ≡ Some other
    → path_cmp file.path other.path ≡ Equal
    → paths_of_both (drop i files) (drop j others) ≡ file.path ∷ paths_of_both (drop (i + 1) files) (drop (j + 1) others)
both-equal files others i j file other found there is = both-there files others i j file other Equal found there is

pub both-greater : (files others : List File) (i j : ℕ) (file other : File) → slice_get files i ≡ Some file → slice_get others j ≡ Some other
    → path_cmp file.path other.path ≡ Greater
    → paths_of_both (drop i files) (drop j others) ≡ other.path ∷ paths_of_both (drop i files) (drop (j + 1) others)
both-greater files others i j file other found there is =
    both-there files others i j file other Greater found there is
    ∙ ap (λ rest. other.path ∷ paths_of_both rest (drop (j + 1) others)) (sym (drop-some files i file found))

-- ---- the lines

same-mode : (mode other : Mode) → is_same_mode mode other ≡ true → mode ≡ other
same-mode Plain Plain same = refl
same-mode Plain Executable same = cc
same-mode Executable Plain same = cc
same-mode Executable Executable same = refl

mode-itself : (mode : Mode) → is_same_mode mode mode ≡ true
mode-itself Plain = refl
mode-itself Executable = refl

both-true : (a b : Bool) → (a && b) ≡ true → (a ≡ true) × (b ≡ true)
both-true true true is = (refl, refl)
both-true true false is = cc
both-true false b is = cc

abbrev entry_with : Mode → List ℕ → FileEntry
entry_with mode bytes = record { mode = mode; bytes = bytes }

same_parts : (mode other : Mode) (bytes more : List ℕ) → mode ≡ other → bytes ≡ more → entry_with mode bytes ≡ entry_with other more
same_parts mode other bytes more modes contents = cc

entry_of_parts : (entry other : FileEntry) → entry.mode ≡ other.mode → entry.bytes ≡ other.bytes → entry ≡ other
entry_of_parts entry other modes bytes = same_parts entry.mode other.mode entry.bytes other.bytes modes bytes

same-entry : (entry other : FileEntry) → is_same_entry entry other ≡ true → entry ≡ other
same-entry entry other same =
    let parts = both-true (is_same_mode entry.mode other.mode) (bytes_eq entry.bytes other.bytes) same in
    entry_of_parts entry other (same-mode entry.mode other.mode parts.0) ((bytes_decides entry.bytes other.bytes).0 parts.1)

entry-itself : (entry : FileEntry) → is_same_entry entry entry ≡ true
entry-itself entry = rw (mode-itself entry.mode) ((bytes_decides entry.bytes entry.bytes).1 refl)

pub line-differs : (path : List ℕ) (staged last : Option FileEntry) → (staged ≡ last → ⊥)
    → change_line path staged last ≡ line (mark_of (is_some staged) (is_some last) ++ path)
line-differs path None None differs = absurd (differs refl)
line-differs path (Some entry) None differs = refl
line-differs path None (Some entry) differs = refl
line-differs path (Some entry) (Some other) differs =
    let apart : is_same_entry entry other ≡ false =
    false_from_not (is_same_entry entry other) (λ same. differs (ap Some (same-entry entry other same))) in
    ap (λ b. if b then [] else line (mark_of true true ++ path)) apart

same-of : (entry other : FileEntry) → ((Some entry ≡ Some other → ⊥) → ⊥) → is_same_entry entry other ≡ true
same-of entry other not_apart =
    elim (is_same_entry entry other) as (λ b. is_same_entry entry other ≡ b → b ≡ true) [
      | true ↦ λ is. refl
      | false ↦ λ is. absurd (not_apart (λ e. let same : entry ≡ other = cc in
          let itself = subst (λ (y : FileEntry). is_same_entry entry y ≡ true) same (entry-itself entry) in cc))
    ] refl

pub line-same : (path : List ℕ) (staged last : Option FileEntry) → ((staged ≡ last → ⊥) → ⊥) → change_line path staged last ≡ []
line-same path None None same = refl
line-same path (Some entry) None same = absurd (same (λ e. cc))
line-same path None (Some entry) same = absurd (same (λ e. cc))
line-same path (Some entry) (Some other) same =
    ap (λ b. if b then [] else line (mark_of true true ++ path)) (same-of entry other same)

abbrev said_line : List ℕ → List ℕ → List ℕ → List ℕ
said_line text mark path = (text ++ mark) ++ line path

pub change-said : (path text mid after mark bytes : List ℕ) (staged last : Option FileEntry) (is_staged is_last : Bool) → (staged ≡ last → ⊥)
    → mark ≡ mark_of is_staged is_last → is_staged ≡ is_some staged → is_last ≡ is_some last → bytes ≡ path
    → mid ≡ text ++ mark → after ≡ mid ++ line bytes → after ≡ text ++ change_line path staged last
change-said path text mid after mark bytes staged last is_staged is_last differs marked first second same begun made =
    made ∙ ap (λ start. start ++ line bytes) begun ∙ ap (λ b. said_line text mark b) same ∙ ap (λ m. said_line text m path) marked
    ∙ ap (λ b. said_line text (mark_of b is_last) path) first ∙ ap (λ b. said_line text (mark_of (is_some staged) b) path) second
    ∙ append_assoc text (mark_of (is_some staged) (is_some last)) (line path)
    ∙ ap (λ l. text ++ l) (sym (append_assoc (mark_of (is_some staged) (is_some last)) path (10 ∷ [])) ∙ sym (line-differs path staged last differs))

nothing-said : (text_of : List ℕ → List ℕ) → ((path : List ℕ) → text_of path ≡ []) → (paths : List (List ℕ)) → flat_map text_of paths ≡ []
nothing-said text_of nothing [] = refl
nothing-said text_of nothing (path ∷ paths) =
    ap (λ text. text ++ flat_map text_of paths) (nothing path) ∙ nothing-said text_of nothing paths

-- where both trees are the same, no path differs
pub status-equal : (files : List File) → status_text files files ≡ []
status-equal files =
    nothing-said (change_line_at files files) (λ path. line-same path (entry_of path files) (entry_of path files) (λ differs. differs refl))
    (paths_of_both files files)

-- ---- the paths of both trees are those of either

abbrev pub has_path : List ℕ → List File → Bool
has_path path files = is_some (entry_of path files)

abbrev any_path : List ℕ → List (List ℕ) → Bool
any_path path paths = list_any (bytes_eq path) paths

tied : (path other : List ℕ) → path_cmp path other ≡ Equal → path ≡ other
tied path other is = (bytes_decides path other).0 (texts_ties path other ∙ ap is_eq is)

has-cons : (path : List ℕ) (file : File) (files : List File) → has_path path (file ∷ files) ≡ (bytes_eq path file.path || has_path path files)
has-cons path file files =
    elim (bytes_eq path file.path) as (λ b. is_some (if b then Some file.entry else entry_of path files) ≡ (b || has_path path files)) [
      | true ↦ refl
      | false ↦ refl
    ]

or-first : (a b c : Bool) → (a || (b || c)) ≡ ((a || b) || c)
or-first true b c = refl
or-first false b c = refl

or-both : (a b c : Bool) → (a || (b || c)) ≡ ((a || b) || (a || c))
or-both true b c = refl
or-both false b c = refl

or-last : (a b c : Bool) → (b || (a || c)) ≡ (a || (b || c))
or-last true true c = refl
or-last true false c = refl
or-last false b c = refl

or-none : (a : Bool) → a ≡ (a || false)
or-none true = refl
or-none false = refl

any-map : (path : List ℕ) (files : List File) → any_path path (map path_of files) ≡ has_path path files
any-map path [] = refl
any-map path (file ∷ files) = ap (λ b. bytes_eq path file.path || b) (any-map path files) ∙ sym (has-cons path file files)

any-from : (path : List ℕ) (file : File) (files : List File)
    → ((others : List File) → any_path path (paths_of_both files others) ≡ (has_path path files || has_path path others))
    → (others : List File) → any_path path (paths_from file.path (paths_of_both files) others) ≡ (has_path path (file ∷ files) || has_path path others)
any-from path file files later [] =
    ap (λ b. bytes_eq path file.path || b) (later []) ∙ or-first (bytes_eq path file.path) (has_path path files) false
    ∙ ap (λ b. b || false) (sym (has-cons path file files))
any-from path file files later (other ∷ others) =
    elim (path_cmp file.path other.path)
    as (λ o. path_cmp file.path other.path ≡ o → any_path path (goes_on files others file other o) ≡ (has_path path (file ∷ files) || has_path path (other ∷ others))) [
      | Less ↦ λ is. ap (λ b. bytes_eq path file.path || b) (later (other ∷ others))
          ∙ or-first (bytes_eq path file.path) (has_path path files) (has_path path (other ∷ others))
          ∙ ap (λ b. b || has_path path (other ∷ others)) (sym (has-cons path file files))
      | Equal ↦ λ is. ap (λ b. bytes_eq path file.path || b) (later others)
          ∙ or-both (bytes_eq path file.path) (has_path path files) (has_path path others)
          ∙ ap (λ b. b || (bytes_eq path file.path || has_path path others)) (sym (has-cons path file files))
          ∙ ap (λ p. has_path path (file ∷ files) || (bytes_eq path p || has_path path others)) (tied file.path other.path is)
          ∙ ap (λ b. has_path path (file ∷ files) || b) (sym (has-cons path other others))
      | Greater ↦ λ is. ap (λ b. bytes_eq path other.path || b) (any-from path file files later others)
          ∙ or-last (has_path path (file ∷ files)) (bytes_eq path other.path) (has_path path others)
          ∙ ap (λ b. has_path path (file ∷ files) || b) (sym (has-cons path other others))
    ] refl

pub paths-of-either : (path : List ℕ) (files others : List File)
    → list_any (bytes_eq path) (paths_of_both files others) ≡ (is_some (entry_of path files) || is_some (entry_of path others))
paths-of-either path [] others = any-map path others
paths-of-either path (file ∷ files) others = any-from path file files (paths-of-either path files) others
