-- The code's pass over the lines of a block text, with what it keeps, and that it gives the text.
use Rattle.std.proofs.Common.{◌≡◌, ℕ, zero, suc, ◌+◌, Bool, true, false, cond, not, ◌||◌, eqb, List, [], ◌∷◌, ◌++◌, length, map, take, replicate, Option, Some, None, refl, sym, ap, ◌∙◌, arith, append_assoc}
use Rattle.std.proofs.Math.Dec.{eqb-suc-zero}
use Rattle.std.specs.Str.{encode_utf8_all}
use Rattle.yaml_lines.specs.BlockTexts.{LineText, without_margin, has_text, begins_empty, begins_blank, next_begins_blank, line_end, feeds_of, last_ends, joined, between, behind_last}
use Rattle.yaml_lines.specs.Characters.{is_nil}
use Rattle.yaml_lines.specs.declared.header.Chomping.{Chomping}
use Rattle.yaml_lines.specs.declared.header.Chomping.TheVariants.{Strip, Clip, Keep}
use Rattle.yaml_lines.specs.declared.header.Header.{Header}

abbrev pub without_margins : Option ℕ → List LineText → List LineText
without_margins margin lines = map (without_margin margin) lines

-- What the pass puts down from these lines on. `before` says of the last text line whether it begins with a blank, none
-- if there is no text line yet; since then `empties` lines are empty, and `ends` lines, that text line among them, have an
-- end.
unfoldable pub passed : Header → Option Bool → ℕ → ℕ → List LineText → List ℕ
passed h before empties ends [] = behind_last h.chomping before ends
passed h before empties ends (l ∷ ls) =
    cond (is_nil l.text) (passed h before (suc empties) (ends + cond l.ended 1 0) ls)
    (between h.folded before empties (begins_blank l.text) ++ (encode_utf8_all l.text ++ passed h (Some (begins_blank l.text)) 0 (cond l.ended 1 0) ls))

pub passed-nil : (h : Header) (before : Option Bool) (empties ends : ℕ) → passed h before empties ends [] ≡ behind_last h.chomping before ends
unfolding passed
passed-nil h before empties ends = refl

pub passed-cons : (h : Header) (before : Option Bool) (empties ends : ℕ) (l : LineText) (ls : List LineText) (b : Bool) → is_nil l.text ≡ b
    → passed h before empties ends (l ∷ ls)
    ≡ cond b (passed h before (suc empties) (ends + cond l.ended 1 0) ls)
    (between h.folded before empties (begins_blank l.text) ++ (encode_utf8_all l.text ++ passed h (Some (begins_blank l.text)) 0 (cond l.ended 1 0) ls))
unfolding passed
passed-cons h before empties ends l ls b e =
    ap (λ (x : Bool). cond x (passed h before (suc empties) (ends + cond l.ended 1 0) ls)
    (between h.folded before empties (begins_blank l.text) ++ (encode_utf8_all l.text ++ passed h (Some (begins_blank l.text)) 0 (cond l.ended 1 0) ls))) e

pub joined-nil : (h : Header) → joined h [] ≡ []
unfolding joined
joined-nil h = refl

pub joined-cons : (h : Header) (l : LineText) (ls : List LineText) (b : Bool) → has_text ls ≡ b
    → joined h (l ∷ ls) ≡ encode_utf8_all l.text ++ cond b (line_end h.folded l ls ++ joined h ls) (last_ends h.chomping l ls)
unfolding joined
joined-cons h l ls b e = ap (λ (x : Bool). encode_utf8_all l.text ++ cond x (line_end h.folded l ls ++ joined h ls) (last_ends h.chomping l ls)) e

abbrev feeds : ℕ → List ℕ
feeds n = replicate n 10

more_feeds : (n : ℕ) (cs : List ℕ) → feeds (suc n) ++ cs ≡ feeds n ++ (10 ∷ cs)
more_feeds zero cs = refl
more_feeds (suc n) cs = ap (λ (bs : List ℕ). 10 ∷ bs) (more_feeds n cs)

nil_is : (cs : List ℕ) → is_nil cs ≡ true → cs ≡ []
nil_is [] e = refl
nil_is (c ∷ cs) e = cc

-- ---- the ends after the last text line

abbrev count : List LineText → ℕ
count ls = length (feeds_of ls)

one_more : (b : Bool) (n : ℕ) (cs : List ℕ) → length cs ≡ n → length (cond b (10 ∷ []) [] ++ cs) ≡ cond b 1 0 + n
one_more true n cs e = omega (arith, e)
one_more false n cs e = omega (arith, e)

count-cons : (l : LineText) (ls : List LineText) → count (l ∷ ls) ≡ cond l.ended 1 0 + count ls
count-cons l ls = one_more l.ended (count ls) (feeds_of ls) refl

feed_front : (b : Bool) (cs : List ℕ) → cs ≡ feeds (length cs) → cond b (10 ∷ []) [] ++ cs ≡ feeds (length (cond b (10 ∷ []) [] ++ cs))
feed_front true cs e = ap (λ (bs : List ℕ). 10 ∷ bs) e
feed_front false cs e = e

only_feeds : (ls : List LineText) → feeds_of ls ≡ feeds (count ls)
only_feeds [] = refl
only_feeds (l ∷ ls) = feed_front l.ended (feeds_of ls) (only_feeds ls)

first_empty : (b c : Bool) → (not b || c) ≡ false → b ≡ true
first_empty true c e = refl
first_empty false c e = cc

others_empty : (b c : Bool) → (not b || c) ≡ false → c ≡ false
others_empty true c e = e
others_empty false c e = cc

no_text_left : (h : Header) (before : Option Bool) (k e : ℕ) (ls : List LineText) → has_text ls ≡ false → passed h before k e ls ≡ behind_last h.chomping before (e + count ls)
no_text_left h before k e [] none = passed-nil h before k e ∙ ap (behind_last h.chomping before) (omega arith)
no_text_left h before k e (l ∷ ls) none =
    let n : cond l.ended 1 0 + count ls ≡ count (l ∷ ls) = sym (count-cons l ls) in
    passed-cons h before k e l ls true (first_empty (is_nil l.text) (has_text ls) none)
    ∙ (no_text_left h before (suc k) (e + cond l.ended 1 0) ls (others_empty (is_nil l.text) (has_text ls) none)
    ∙ ap (behind_last h.chomping before) (omega (arith, n)))

at_most_one : (n : ℕ) → cond (eqb n 0) [] (10 ∷ []) ≡ take 1 (feeds n)
at_most_one zero = refl
at_most_one (suc n) = ap (λ (b : Bool). cond b [] (10 ∷ [])) (eqb-suc-zero n)

last_ends-are : (chomping : Chomping) (b : Bool) (l : LineText) (ls : List LineText) → is_nil l.text ≡ false → behind_last chomping (Some b) (count (l ∷ ls)) ≡ last_ends chomping l ls
last_ends-are Strip b l ls e = refl
last_ends-are Clip b l ls e =
    at_most_one (count (l ∷ ls)) ∙ (ap (take 1) (sym (only_feeds (l ∷ ls))) ∙ ap (λ (x : Bool). cond x [] (take 1 (feeds_of (l ∷ ls)))) (sym e))
last_ends-are Keep b l ls e = sym (only_feeds (l ∷ ls))

-- ---- the end of one text line before the next

-- what the end of a text line becomes: `blank` says whether it begins with a blank, `next` whether the next text line
-- does, and `gap` whether empty lines stand between
abbrev seam : Bool → Bool → Bool → Bool → List ℕ
seam folded blank next gap = cond (not folded || false || blank || next) (10 ∷ []) (cond gap [] (32 ∷ []))

-- empty lines stand before the next text line: k that were passed, or one at the start of these
abbrev has_gap : ℕ → List LineText → Bool
has_gap zero ls = begins_empty ls
has_gap (suc k) ls = true

line_end-is : (folded : Bool) (l : LineText) (ls : List LineText) → is_nil l.text ≡ false → line_end folded l ls ≡ seam folded (begins_blank l.text) (next_begins_blank ls) (begins_empty ls)
line_end-is folded l ls e =
    ap (λ (x : Bool). cond (not folded || x || begins_blank l.text || next_begins_blank ls) (10 ∷ []) (cond (begins_empty ls) [] (32 ∷ []))) e

between-is : (folded before blank : Bool) (k : ℕ) (l : LineText) (ls : List LineText) → is_nil l.text ≡ false
    → between folded (Some before) k blank ≡ seam folded before blank (has_gap k (l ∷ ls)) ++ feeds k
between-is false before blank k l ls e = refl
between-is true true blank k l ls e = refl
between-is true false true k l ls e = refl
between-is true false false zero l ls e = ap (λ (x : Bool). cond x [] (32 ∷ []) ++ feeds 0) (sym e)
between-is true false false (suc k) l ls e = ap (λ (b : Bool). cond b (32 ∷ []) (feeds (suc k))) (eqb-suc-zero k)

next-empty : (l : LineText) (ls : List LineText) → is_nil l.text ≡ true → next_begins_blank (l ∷ ls) ≡ next_begins_blank ls
next-empty l ls e = ap (λ (x : Bool). cond x (next_begins_blank ls) (begins_blank l.text)) e

next-text : (l : LineText) (ls : List LineText) → is_nil l.text ≡ false → next_begins_blank (l ∷ ls) ≡ begins_blank l.text
next-text l ls e = ap (λ (x : Bool). cond x (next_begins_blank ls) (begins_blank l.text)) e

gap-empty : (k : ℕ) (l : LineText) (ls : List LineText) → is_nil l.text ≡ true → has_gap k (l ∷ ls) ≡ true
gap-empty zero l ls e = e
gap-empty (suc k) l ls e = refl

ended_empty : (a c d : Bool) (cs : List ℕ) → cond (a || true || c || d) (10 ∷ []) cs ≡ 10 ∷ []
ended_empty true c d cs = refl
ended_empty false c d cs = refl

line_end-empty : (folded : Bool) (l : LineText) (ls : List LineText) → is_nil l.text ≡ true → line_end folded l ls ≡ 10 ∷ []
line_end-empty folded l ls e =
    ap (λ (x : Bool). cond (not folded || x || begins_blank l.text || next_begins_blank ls) (10 ∷ []) (cond (begins_empty ls) [] (32 ∷ []))) e
    ∙ ended_empty (not folded) (begins_blank l.text) (next_begins_blank ls) (cond (begins_empty ls) [] (32 ∷ []))

-- an empty line in front of a text line
joined-empty : (h : Header) (l : LineText) (ls : List LineText) → is_nil l.text ≡ true → has_text ls ≡ true → joined h (l ∷ ls) ≡ 10 ∷ joined h ls
joined-empty h l ls e some =
    joined-cons h l ls true some
    ∙ (ap (λ (cs : List ℕ). encode_utf8_all cs ++ (line_end h.folded l ls ++ joined h ls)) (nil_is l.text e)
    ∙ ap (λ (cs : List ℕ). cs ++ joined h ls) (line_end-empty h.folded l ls e))

-- what the pass puts down after a text line, k empty lines after it
abbrev Behind : Header → Bool → ℕ → ℕ → List LineText → Type 0
Behind h before k e ls = passed h (Some before) k e ls ≡ seam h.folded before (next_begins_blank ls) (has_gap k ls) ++ (feeds k ++ joined h ls)

-- a text line with what follows it
text_first : (h : Header) (l : LineText) (ls : List LineText) (some : Bool) → is_nil l.text ≡ false → has_text ls ≡ some
    → (has_text ls ≡ true → Behind h (begins_blank l.text) 0 (cond l.ended 1 0) ls)
    → encode_utf8_all l.text ++ passed h (Some (begins_blank l.text)) 0 (cond l.ended 1 0) ls ≡ joined h (l ∷ ls)
text_first h l ls true e has behind =
    ap (λ (cs : List ℕ). encode_utf8_all l.text ++ cs) (behind has ∙ ap (λ (cs : List ℕ). cs ++ joined h ls) (sym (line_end-is h.folded l ls e)))
    ∙ sym (joined-cons h l ls true has)
text_first h l ls false e has behind =
    ap (λ (cs : List ℕ). encode_utf8_all l.text ++ cs)
    (no_text_left h (Some (begins_blank l.text)) 0 (cond l.ended 1 0) ls has
    ∙ (ap (behind_last h.chomping (Some (begins_blank l.text))) (sym (count-cons l ls)) ∙ last_ends-are h.chomping (begins_blank l.text) l ls e))
    ∙ sym (joined-cons h l ls false has)

later_text : (b c : Bool) → b ≡ true → (not b || c) ≡ true → c ≡ true
later_text true c e h = h
later_text false c e h = cc

-- an empty line more
behind_empty : (h : Header) (before : Bool) (k e : ℕ) (l : LineText) (ls : List LineText) → is_nil l.text ≡ true → has_text ls ≡ true
    → Behind h before (suc k) (e + cond l.ended 1 0) ls → Behind h before k e (l ∷ ls)
behind_empty h before k e l ls nil some more =
    let left : List ℕ = feeds k ++ joined h (l ∷ ls) in
    passed-cons h (Some before) k e l ls true nil
    ∙ (more
    ∙ (ap (λ (cs : List ℕ). seam h.folded before (next_begins_blank ls) true ++ cs)
    (more_feeds k (joined h ls) ∙ ap (λ (cs : List ℕ). feeds k ++ cs) (sym (joined-empty h l ls nil some)))
    ∙ (ap (λ (b : Bool). seam h.folded before b true ++ left) (sym (next-empty l ls nil))
    ∙ ap (λ (b : Bool). seam h.folded before (next_begins_blank (l ∷ ls)) b ++ left) (sym (gap-empty k l ls nil)))))

-- a text line
behind_text : (h : Header) (before : Bool) (k e : ℕ) (l : LineText) (ls : List LineText) → is_nil l.text ≡ false
    → encode_utf8_all l.text ++ passed h (Some (begins_blank l.text)) 0 (cond l.ended 1 0) ls ≡ joined h (l ∷ ls) → Behind h before k e (l ∷ ls)
behind_text h before k e l ls text first =
    let gap : Bool = has_gap k (l ∷ ls) in
    passed-cons h (Some before) k e l ls false text
    ∙ (ap (λ (cs : List ℕ). between h.folded (Some before) k (begins_blank l.text) ++ cs) first
    ∙ (ap (λ (cs : List ℕ). cs ++ joined h (l ∷ ls)) (between-is h.folded before (begins_blank l.text) k l ls text)
    ∙ (append_assoc (seam h.folded before (begins_blank l.text) gap) (feeds k) (joined h (l ∷ ls))
    ∙ ap (λ (b : Bool). seam h.folded before b gap ++ (feeds k ++ joined h (l ∷ ls))) (sym (next-text l ls text)))))

passed_line : (h : Header) (before : Bool) (k e : ℕ) (l : LineText) (ls : List LineText) (b : Bool) → is_nil l.text ≡ b → has_text (l ∷ ls) ≡ true
    → ((before : Bool) (k e : ℕ) → has_text ls ≡ true → Behind h before k e ls) → Behind h before k e (l ∷ ls)
passed_line h before k e l ls true nil some behind =
    let later = later_text (is_nil l.text) (has_text ls) nil some in
    behind_empty h before k e l ls nil later (behind before (suc k) (e + cond l.ended 1 0) later)
passed_line h before k e l ls false text some behind =
    behind_text h before k e l ls text (text_first h l ls (has_text ls) text refl (behind (begins_blank l.text) 0 (cond l.ended 1 0)))

passed_behind : (h : Header) (before : Bool) (k e : ℕ) (ls : List LineText) → has_text ls ≡ true → Behind h before k e ls
passed_behind h before k e [] some = cc
passed_behind h before k e (l ∷ ls) some =
    passed_line h before k e l ls (is_nil l.text) refl some (λ before k e later. passed_behind h before k e ls later)

-- ---- before the first text line

passed_first_line : (h : Header) (k e : ℕ) (l : LineText) (ls : List LineText) (b : Bool) → is_nil l.text ≡ b → has_text (l ∷ ls) ≡ true
    → ((k e : ℕ) → has_text ls ≡ true → passed h None k e ls ≡ feeds k ++ joined h ls) → passed h None k e (l ∷ ls) ≡ feeds k ++ joined h (l ∷ ls)
passed_first_line h k e l ls true nil some first =
    let later = later_text (is_nil l.text) (has_text ls) nil some in
    passed-cons h None k e l ls true nil
    ∙ (first (suc k) (e + cond l.ended 1 0) later
    ∙ (more_feeds k (joined h ls) ∙ ap (λ (cs : List ℕ). feeds k ++ cs) (sym (joined-empty h l ls nil later))))
passed_first_line h k e l ls false text some first =
    passed-cons h None k e l ls false text
    ∙ ap (λ (cs : List ℕ). feeds k ++ cs)
    (text_first h l ls (has_text ls) text refl (λ later. passed_behind h (begins_blank l.text) 0 (cond l.ended 1 0) ls later))

passed_first : (h : Header) (k e : ℕ) (ls : List LineText) → has_text ls ≡ true → passed h None k e ls ≡ feeds k ++ joined h ls
passed_first h k e [] some = cc
passed_first h k e (l ∷ ls) some = passed_first_line h k e l ls (is_nil l.text) refl some (λ k e later. passed_first h k e ls later)

-- ---- all lines

no_ends : (chomping : Chomping) → behind_last chomping None 0 ≡ []
no_ends Strip = refl
no_ends Clip = refl
no_ends Keep = refl

all_ends : (chomping : Chomping) (l : LineText) (ls : List LineText) → is_nil l.text ≡ true → behind_last chomping None (count (l ∷ ls)) ≡ last_ends chomping l ls
all_ends Strip l ls e = refl
all_ends Clip l ls e = ap (λ (x : Bool). cond x [] (take 1 (feeds_of (l ∷ ls)))) (sym e)
all_ends Keep l ls e = sym (only_feeds (l ∷ ls))

passed_all : (h : Header) (ls : List LineText) (b : Bool) → has_text ls ≡ b → passed h None 0 0 ls ≡ joined h ls
passed_all h ls true some = passed_first h 0 0 ls some
passed_all h [] false none = passed-nil h None 0 0 ∙ (no_ends h.chomping ∙ sym (joined-nil h))
passed_all h (l ∷ ls) false none =
    let nil = first_empty (is_nil l.text) (has_text ls) none in
    no_text_left h None 0 0 (l ∷ ls) none
    ∙ (ap (behind_last h.chomping None) (omega arith) ∙ (all_ends h.chomping l ls nil
    ∙ (ap (λ (cs : List ℕ). encode_utf8_all cs ++ last_ends h.chomping l ls) (sym (nil_is l.text nil))
    ∙ sym (joined-cons h l ls false (others_empty (is_nil l.text) (has_text ls) none)))))

pub passed_gives : (h : Header) (ls : List LineText) → passed h None 0 0 ls ≡ joined h ls
passed_gives h ls = passed_all h ls (has_text ls) refl
