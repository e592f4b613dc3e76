-- One line of a block text after those that were read.
use Rattle.std.proofs.Common.{◌≡◌, ℕ, suc, ◌+◌, ◌<◌, ◌≤◌, Bool, true, false, cond, ◌&&◌, ◌||◌, eqb, ltb, List, [], ◌∷◌, ◌++◌, length, take, drop, get_or, Option, Some, None, refl, sym, ap, ◌∙◌, append_assoc, add-one}
use Rattle.std.proofs.Math.Dec.{eqb-suc-zero}
use Rattle.std.proofs.lemmas.Bool.{lt-ltb, le-ltb}
use Rattle.std.proofs.lemmas.List.{append-nil, drop_more, drop_all, take_more}
use Rattle.std.proofs.lemmas.Str.{encodes-append}
use Rattle.std.specs.Char.{encode_utf8}
use Rattle.std.specs.Str.{encode_utf8_all}
use Rattle.yaml_lines.specs.Characters.{is_nil}
use Rattle.yaml_lines.specs.BlockTexts.{LineText, all_spaces, spaces, margin_of, is_ragged, behind_margin, without_margin, between, behind_last, begins_blank}
use Rattle.yaml_lines.specs.declared.header.Header.{Header}
use Rattle.yaml_lines.proofs.Passes.{passed, passed-nil, passed-cons, without_margins}

line_left : (ls : List LineText) (i : ℕ) (l : LineText) → i < length ls → l ≡ get_or ls i l → drop i ls ≡ l ∷ drop (i + 1) ls
line_left ls i l within is = drop_more ls i l within ∙ ap (λ (x : LineText). x ∷ drop (i + 1) ls) (sym is)

-- the margin
margin_of-cons : (column : ℕ) (l : LineText) (ls : List LineText) (b : Bool) → all_spaces l ≡ b
    → margin_of column (l ∷ ls) ≡ cond b (margin_of column ls) (cond (ltb column (spaces l)) (Some (spaces l)) None)
unfolding margin_of
margin_of-cons column l ls b h = ap (λ (b : Bool). cond b (margin_of column ls) (cond (ltb column (spaces l)) (Some (spaces l)) None)) h

margin_of-nil : (column : ℕ) → margin_of column [] ≡ None
unfolding margin_of
margin_of-nil column = refl

pub margin_of-spaces : (column : ℕ) (ls : List LineText) (i : ℕ) (l : LineText) → i < length ls → l ≡ get_or ls i l → all_spaces l ≡ true
    → margin_of column (drop i ls) ≡ margin_of column (drop (i + 1) ls)
margin_of-spaces column ls i l within is h = ap (margin_of column) (line_left ls i l within is) ∙ margin_of-cons column l (drop (i + 1) ls) true h

pub margin_of-deep : (column : ℕ) (ls : List LineText) (i : ℕ) (l : LineText) → i < length ls → l ≡ get_or ls i l → all_spaces l ≡ false → column < spaces l
    → margin_of column (drop i ls) ≡ Some (spaces l)
margin_of-deep column ls i l within is h deep =
    ap (margin_of column) (line_left ls i l within is)
    ∙ (margin_of-cons column l (drop (i + 1) ls) false h ∙ ap (λ (b : Bool). cond b (Some (spaces l)) None) (lt-ltb column (spaces l) deep))

pub margin_of-flat : (column : ℕ) (ls : List LineText) (i : ℕ) (l : LineText) → i < length ls → l ≡ get_or ls i l → all_spaces l ≡ false → spaces l ≤ column → margin_of column (drop i ls) ≡ None
margin_of-flat column ls i l within is h flat =
    ap (margin_of column) (line_left ls i l within is)
    ∙ (margin_of-cons column l (drop (i + 1) ls) false h ∙ ap (λ (b : Bool). cond b (Some (spaces l)) None) (le-ltb column (spaces l) flat))

pub margin_of-end : (column : ℕ) (ls : List LineText) (i : ℕ) → length ls ≤ i → margin_of column (drop i ls) ≡ None
margin_of-end column ls i past = ap (margin_of column) (drop_all i ls past) ∙ margin_of-nil column

-- ragged lines
is_ragged-cons : (m : ℕ) (l : LineText) (ls : List LineText) (a b : Bool) → all_spaces l ≡ a → ltb m (length l.text) ≡ b → is_ragged (Some m) (l ∷ ls) ≡ (a && (b || is_ragged (Some m) ls))
unfolding is_ragged
is_ragged-cons m l ls a b h k =
    ap (λ (x : Bool). x && (ltb m (length l.text) || is_ragged (Some m) ls)) h ∙ ap (λ (x : Bool). a && (x || is_ragged (Some m) ls)) k

is_ragged-nil : (m : ℕ) → is_ragged (Some m) [] ≡ false
unfolding is_ragged
is_ragged-nil m = refl

pub is_ragged-none : (ls : List LineText) → is_ragged None ls ≡ false
unfolding is_ragged
is_ragged-none ls = refl

pub is_ragged-text : (m : ℕ) (ls : List LineText) (i : ℕ) (l : LineText) → i < length ls → l ≡ get_or ls i l → all_spaces l ≡ false → is_ragged (Some m) (drop i ls) ≡ false
is_ragged-text m ls i l within is h =
    ap (is_ragged (Some m)) (line_left ls i l within is) ∙ is_ragged-cons m l (drop (i + 1) ls) false (ltb m (length l.text)) h refl

pub is_ragged-long : (m : ℕ) (ls : List LineText) (i : ℕ) (l : LineText) → i < length ls → l ≡ get_or ls i l → all_spaces l ≡ true → m < length l.text → is_ragged (Some m) (drop i ls) ≡ true
is_ragged-long m ls i l within is h long =
    ap (is_ragged (Some m)) (line_left ls i l within is) ∙ is_ragged-cons m l (drop (i + 1) ls) true true h (lt-ltb m (length l.text) long)

pub is_ragged-short : (m : ℕ) (ls : List LineText) (i : ℕ) (l : LineText) → i < length ls → l ≡ get_or ls i l → all_spaces l ≡ true → length l.text ≤ m
    → is_ragged (Some m) (drop i ls) ≡ is_ragged (Some m) (drop (i + 1) ls)
is_ragged-short m ls i l within is h short =
    ap (is_ragged (Some m)) (line_left ls i l within is) ∙ is_ragged-cons m l (drop (i + 1) ls) true false h (le-ltb m (length l.text) short)

pub is_ragged-end : (m : ℕ) (ls : List LineText) (i : ℕ) → length ls ≤ i → is_ragged (Some m) (drop i ls) ≡ false
is_ragged-end m ls i past = ap (is_ragged (Some m)) (drop_all i ls past) ∙ is_ragged-nil m

-- the text
pub nil_or_not : (cs : List ℕ) (b : Bool) → eqb (length cs) 0 ≡ b → is_nil cs ≡ b
nil_or_not [] b h = h
nil_or_not (c ∷ cs) b h = sym (eqb-suc-zero (length cs)) ∙ h

-- what the code knows of a line
pub record At (ls : List LineText) (i : ℕ) (l : LineText) (m : Option ℕ) (part : List ℕ) (ended : ℕ) : Type 0 where
  pub within : i < length ls
  pub is : l ≡ get_or ls i l
  pub behind : part ≡ behind_margin m l
  pub end : ended ≡ cond l.ended 1 0

pub passed-empty : (h : Header) (m : Option ℕ) (before : Option Bool) (empties ends : ℕ) (ls : List LineText) (i : ℕ) (l : LineText) (part : List ℕ) (ended : ℕ) → At ls i l m part ended
    → is_nil part ≡ true
    → passed h before empties ends (without_margins m (drop i ls)) ≡ passed h before (empties + 1) (ends + ended) (without_margins m (drop (i + 1) ls))
passed-empty h m before empties ends ls i l part ended a n =
    let left = without_margins m (drop (i + 1) ls) in
    ap (λ (xs : List LineText). passed h before empties ends (without_margins m xs)) (line_left ls i l a.within a.is)
    ∙ (passed-cons h before empties ends (without_margin m l) left true (ap is_nil (sym a.behind) ∙ n)
    ∙ (ap (λ (k : ℕ). passed h before (suc empties) (ends + k) left) (sym a.end)
    ∙ ap (λ (k : ℕ). passed h before k (ends + ended) left) (sym (add-one empties))))

pub passed-text : (h : Header) (m : Option ℕ) (before : Option Bool) (empties ends : ℕ) (ls : List LineText) (i : ℕ) (l : LineText) (part : List ℕ) (ended : ℕ) → At ls i l m part ended
    → is_nil part ≡ false
    → passed h before empties ends (without_margins m (drop i ls))
    ≡ between h.folded before empties (begins_blank part) ++ (encode_utf8_all part ++ passed h (Some (begins_blank part)) 0 ended (without_margins m (drop (i + 1) ls)))
passed-text h m before empties ends ls i l part ended a n =
    let left = without_margins m (drop (i + 1) ls) in
    let f : List ℕ → ℕ → List ℕ = λ cs k. between h.folded before empties (begins_blank cs) ++ (encode_utf8_all cs ++ passed h (Some (begins_blank cs)) 0 k left) in
    ap (λ (xs : List LineText). passed h before empties ends (without_margins m xs)) (line_left ls i l a.within a.is)
    ∙ (passed-cons h before empties ends (without_margin m l) left false (ap is_nil (sym a.behind) ∙ n)
    ∙ (ap (λ (cs : List ℕ). f cs (cond l.ended 1 0)) (sym a.behind) ∙ ap (f part) (sym a.end)))

pub passed-end : (h : Header) (m : Option ℕ) (before : Option Bool) (empties ends : ℕ) (ls : List LineText) (i : ℕ) → length ls ≤ i
    → passed h before empties ends (without_margins m (drop i ls)) ≡ behind_last h.chomping before ends
passed-end h m before empties ends ls i past =
    ap (λ (xs : List LineText). passed h before empties ends (without_margins m xs)) (drop_all i ls past) ∙ passed-nil h before empties ends

-- three pushes in a row
pub pushed : (all old mid new first second rest : List ℕ) → all ≡ old ++ (first ++ (second ++ rest)) → mid ≡ old ++ first → new ≡ mid ++ second → all ≡ new ++ rest
pushed all old mid new first second rest e p q =
    e ∙ (sym (append_assoc old first (second ++ rest)) ∙ (ap (λ (xs : List ℕ). xs ++ (second ++ rest)) (sym p) ∙ (sym (append_assoc mid second rest) ∙ ap (λ (xs : List ℕ). xs ++ rest) (sym q))))

one_character : (c : ℕ) → encode_utf8_all (c ∷ []) ≡ encode_utf8 c
one_character c = append-nil (encode_utf8 c)

pub characters_more : (t : List ℕ) (i c : ℕ) (start old new : List ℕ) → i < length t → c ≡ get_or t i c → old ≡ start ++ encode_utf8_all (take i t) → new ≡ old ++ encode_utf8 c
    → new ≡ start ++ encode_utf8_all (take (i + 1) t)
characters_more t i c start old new within is e p =
    let more : take (i + 1) t ≡ take i t ++ c ∷ [] = take_more t i c within ∙ ap (λ (x : ℕ). take i t ++ x ∷ []) (sym is) in
    p ∙ (ap (λ (xs : List ℕ). xs ++ encode_utf8 c) e ∙ (append_assoc start (encode_utf8_all (take i t)) (encode_utf8 c)
    ∙ ap (λ (xs : List ℕ). start ++ xs) (ap (λ (xs : List ℕ). encode_utf8_all (take i t) ++ xs) (sym (one_character c)) ∙ (sym (encodes-append (take i t) (c ∷ [])) ∙ ap encode_utf8_all (sym more)))))
