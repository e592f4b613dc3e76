-- The lines of a flow.
use Rattle.std.proofs.Common.{◌≡◌, ℕ, suc, ◌+◌, ◌<◌, ◌≤◌, Bool, true, false, cond, ◌&&◌, List, [], ◌∷◌, ◌++◌, length, drop, get_or, refl, sym, ap, ◌∙◌, append_assoc, append-nil, arith}
use Rattle.std.proofs.lemmas.List.{drop_more, drop_all}
use Rattle.std.specs.List.{prefix_len, list_all}
use Rattle.yaml_lines.specs.Entries.{ContentLine}
use Rattle.yaml_profile.specs.Blocks.{further}

-- all pass the test exactly if as many do as there are

counted : (b : Bool) (n m : ℕ) → suc m ≤ cond b (1 + n) 0 → (b ≡ true) × (m ≤ n)
counted true n m h = (refl, omega arith)
counted false n m h = absurd (omega arith)

pub all_pass : {A : Type 0} (test : A → Bool) (xs : List A) → length xs ≤ prefix_len test xs → list_all test xs ≡ true
all_pass test [] h = refl
all_pass test (x ∷ xs) h =
    let here = counted (test x) (prefix_len test xs) (length xs) h in
    ap (λ b. b && list_all test xs) here.0 ∙ all_pass test xs here.1

one_fails_by : (b c : Bool) (n m : ℕ) → cond b (1 + n) 0 < suc m → (n < m → c ≡ false) → (b && c) ≡ false
one_fails_by true c n m h later = later (omega arith)
one_fails_by false c n m h later = refl

pub one_fails : {A : Type 0} (test : A → Bool) (xs : List A) → prefix_len test xs < length xs → list_all test xs ≡ false
one_fails test [] h = absurd (omega arith)
one_fails test (x ∷ xs) h = one_fails_by (test x) (list_all test xs) (prefix_len test xs) (length xs) h (one_fails test xs)

further-nil : further [] ≡ []
unfolding further
further-nil = refl

further-cons : (line : ContentLine) (lines : List ContentLine) → further (line ∷ lines) ≡ 10 ∷ (line.content ++ further lines)
unfolding further
further-cons line lines = refl

-- one line more after the text
pub further-more : (text : List ℕ) (lines : List ContentLine) (i : ℕ) (line : ContentLine) → i < length lines → line ≡ get_or lines i line
    → text ++ further (drop i lines) ≡ ((text ++ 10 ∷ []) ++ line.content) ++ further (drop (i + 1) lines)
further-more text lines i line within is =
    let rest = further (drop (i + 1) lines) in
    ap (λ ls. text ++ further ls) (drop_more lines i line within ∙ ap (λ (x : ContentLine). x ∷ drop (i + 1) lines) (sym is))
    ∙ (ap (λ cs. text ++ cs) (further-cons line (drop (i + 1) lines))
    ∙ (sym (append_assoc text (10 ∷ []) (line.content ++ rest)) ∙ sym (append_assoc (text ++ 10 ∷ []) line.content rest)))

pub further-end : (text : List ℕ) (lines : List ContentLine) (i : ℕ) → length lines ≤ i → text ++ further (drop i lines) ≡ text
further-end text lines i past =
    ap (λ ls. text ++ further ls) (drop_all i lines past) ∙ (ap (λ cs. text ++ cs) further-nil ∙ append-nil text)
