-- Lemmas on rows with distinct keys.
use Rattle.std.specs.Prelude.{◌≡◌, ◌↔◌, ℕ, true, false, List, [], ◌∷◌, Option, None, Some, refl}
use Rattle.std.specs.Cmp.Lexicographic.{bytes_decides, pointwise, pointwise_decides}
use Rattle.std.specs.Str.{bytes_eq}
use Rattle.std.proofs.Common.{ap, sym, ◌∙◌, inl, inr, subst}
use Rattle.std.proofs.lemmas.Bool.{false_from_ne_true}
use Rattle.child_port.specs.declared.answer.Answer.{Answer}
use Rattle.hook_base.specs.declared.file.File.{File}
use Rattle.hook_base.specs.AlikeLemmas.{and_decides}
use Rattle.hook_base.specs.SameFileLemmas.{same_file_decides}
use Rattle.hook_base.specs.SameFiles.{is_same_file}
use Rattle.result_book.specs.declared.book_row.BookRow.{BookRow}
use Rattle.result_book.specs.Contents.{Contents, HasKey, HaveRow, LackRow, HaveDistinctKeys, Finds, is_row_for}

-- any two proofs that keys are distinct are equal
pub HaveDistinctKeys-prop : (rows : List BookRow) → IsProp (HaveDistinctKeys rows)
HaveDistinctKeys-prop [] = Prim.hlevel tt
HaveDistinctKeys-prop (row ∷ rows) = Prim.hlevel (HaveDistinctKeys-prop rows)

pub row_decides : (words : List (List ℕ)) (seen : List File) (row : BookRow)
    → (is_row_for words seen row ≡ true) ↔ HasKey words seen row
row_decides words seen row =
    and_decides (pointwise bytes_eq row.words words) (pointwise is_same_file row.seen seen)
    (pointwise_decides bytes_decides row.words words) (pointwise_decides same_file_decides row.seen seen)

pub no_row_key : (words : List (List ℕ)) (seen : List File) (row : BookRow) → is_row_for words seen row ≡ false
    → ¬ HasKey words seen row
no_row_key words seen row isnt key = let is = (row_decides words seen row).1 key in let never : true ≡ false =
    sym is ∙ isnt in absurd (cc)

pub other_row : (words : List (List ℕ)) (seen : List File) (row : BookRow) → ¬ HasKey words seen row
    → is_row_for words seen row ≡ false
other_row words seen row differs =
    false_from_ne_true (is_row_for words seen row) (λ is. differs ((row_decides words seen row).0 is))

pub same_have : (words others : List (List ℕ)) (seen theirs : List File) (answer : Answer) (rows : List BookRow)
    → words ≡ others → seen ≡ theirs → HaveRow words seen answer rows → HaveRow others theirs answer rows
same_have words others seen theirs answer rows p q have =
    subst (λ (w : List (List ℕ)). HaveRow w theirs answer rows) p
    (subst (λ (s : List File). HaveRow words s answer rows) q have)

pub same_lack : (words others : List (List ℕ)) (seen theirs : List File) (rows : List BookRow) → words ≡ others
    → seen ≡ theirs → LackRow words seen rows → LackRow others theirs rows
same_lack words others seen theirs rows p q lack =
    λ answer have. lack answer (same_have others words theirs seen answer rows (sym p) (sym q) have)

-- rows with distinct keys have one answer for a key
pub HaveRow-one : (words : List (List ℕ)) (seen : List File) (a b : Answer) (rows : List BookRow)
    → HaveDistinctKeys rows → HaveRow words seen a rows → HaveRow words seen b rows → a ≡ b
HaveRow-one words seen a b [] distinct x y = absurd x
HaveRow-one words seen a b (row ∷ rows) distinct (inl x) (inl y) = sym x.1 ∙ y.1
HaveRow-one words seen a b (row ∷ rows) distinct (inl x) (inr y) =
    absurd (same_lack row.words words row.seen seen rows x.0.0 x.0.1 distinct.0 b y)
HaveRow-one words seen a b (row ∷ rows) distinct (inr x) (inl y) =
    absurd (same_lack row.words words row.seen seen rows y.0.0 y.0.1 distinct.0 a x)
HaveRow-one words seen a b (row ∷ rows) distinct (inr x) (inr y) = HaveRow-one words seen a b rows distinct.1 x y

-- a book finds one thing
pub Finds-one : (words : List (List ℕ)) (seen : List File) (contents : Contents) (a b : Option Answer)
    → HaveDistinctKeys contents.rows → Finds words seen contents a → Finds words seen contents b → a ≡ b
Finds-one words seen contents None None distinct x y = refl
Finds-one words seen contents None (Some b) distinct x y = absurd (x b y)
Finds-one words seen contents (Some a) None distinct x y = absurd (y a x)
Finds-one words seen contents (Some a) (Some b) distinct x y =
    ap Some (HaveRow-one words seen a b contents.rows distinct x y)
