-- The first line of a text, where its first line feed is known.
use Rattle.std.proofs.Common.{◌≡◌, ◌==◌, ℕ, ◌+◌, ◌<◌, ◌≤◌, Bool, true, false, cond, ◌&&◌, ◌||◌, List, [], ◌∷◌, ◌++◌, length, take, drop, slice_index, refl, sym, ap, ◌∙◌, arith, take-append-drop, append_assoc, true≢false}
use Rattle.std.specs.List.{list_any}
use Rattle.std.proofs.lemmas.List.{append-nil, drop_more, drop_all}
use Rattle.yaml_lines.specs.BlockTexts.{LineText}
use Rattle.yaml_lines.specs.Characters.{begins_with}
use Rattle.yaml_lines.specs.Lines.{before_lines, line_texts, without_return}

line_texts-nil : line_texts [] ≡ []
unfolding line_texts
line_texts-nil = refl

line_texts-feed : (cs : List ℕ) → line_texts (10 ∷ cs) ≡ record { text = []; ended = true } ∷ line_texts cs
unfolding line_texts
line_texts-feed cs = refl

line_texts-other : (c : ℕ) (cs : List ℕ) → (c == 10) ≡ false
    → line_texts (c ∷ cs) ≡ cond (c == 13 && begins_with 10 cs) (line_texts cs) (before_lines c (line_texts cs))
unfolding line_texts
line_texts-other c cs h = rw h

no_head : (a b : Bool) → (a || b) ≡ false → a ≡ false
no_head true b h = h
no_head false b h = refl

no_tail : (a b : Bool) → (a || b) ≡ false → b ≡ false
no_tail true b h = absurd (true≢false h)
no_tail false b h = h

and_false : (b : Bool) → (b && false) ≡ false
and_false true = refl
and_false false = refl

feed_line : (b : Bool) (c : ℕ) (ls : List LineText) → cond (b && true) (record { text = []; ended = true } ∷ ls) (record { text = c ∷ []; ended = true } ∷ ls)
    ≡ record { text = cond (b && true) [] (c ∷ []); ended = true } ∷ ls
feed_line true c ls = refl
feed_line false c ls = refl

-- characters without a line feed, and then one, are a line with its end
pub line_texts-ended : (t rest : List ℕ) → list_any (λ c. c == 10) t ≡ false → line_texts (t ++ 10 ∷ rest) ≡ record { text = without_return t; ended = true } ∷ line_texts rest
line_texts-ended [] rest h = line_texts-feed rest
line_texts-ended (c ∷ []) rest h =
    line_texts-other c (10 ∷ rest) (no_head (c == 10) false h)
    ∙ (ap (λ (ls : List LineText). cond (c == 13 && true) ls (before_lines c ls)) (line_texts-feed rest) ∙ feed_line (c == 13) c (line_texts rest))
line_texts-ended (c ∷ d ∷ cs) rest h =
    let later = no_tail (c == 10) (list_any (λ x. x == 10) (d ∷ cs)) h in
    line_texts-other c (d ∷ cs ++ 10 ∷ rest) (no_head (c == 10) (list_any (λ x. x == 10) (d ∷ cs)) h)
    ∙ (ap (λ (b : Bool). cond (c == 13 && b) (line_texts (d ∷ cs ++ 10 ∷ rest)) (before_lines c (line_texts (d ∷ cs ++ 10 ∷ rest)))) (no_head (d == 10) (list_any (λ x. x == 10) cs) later)
    ∙ (ap (λ (b : Bool). cond b (line_texts (d ∷ cs ++ 10 ∷ rest)) (before_lines c (line_texts (d ∷ cs ++ 10 ∷ rest)))) (and_false (c == 13))
    ∙ (ap (before_lines c) (line_texts-ended (d ∷ cs) rest later)
    ∙ ap (λ (b : Bool). record { text = cond b [] (c ∷ without_return (d ∷ cs)); ended = true } ∷ line_texts rest) (sym (and_false (c == 13))))))

-- characters without a line feed are a line without an end
pub line_texts-open : (t : List ℕ) → 0 < length t → list_any (λ c. c == 10) t ≡ false → line_texts t ≡ record { text = t; ended = false } ∷ []
line_texts-open [] some h = absurd (omega arith)
line_texts-open (c ∷ []) some h =
    line_texts-other c [] (no_head (c == 10) false h)
    ∙ (ap (λ (b : Bool). cond b (line_texts []) (before_lines c (line_texts []))) (and_false (c == 13)) ∙ ap (before_lines c) line_texts-nil)
line_texts-open (c ∷ d ∷ cs) some h =
    let later = no_tail (c == 10) (list_any (λ x. x == 10) (d ∷ cs)) h in
    line_texts-other c (d ∷ cs) (no_head (c == 10) (list_any (λ x. x == 10) (d ∷ cs)) h)
    ∙ (ap (λ (b : Bool). cond (c == 13 && b) (line_texts (d ∷ cs)) (before_lines c (line_texts (d ∷ cs)))) (no_head (d == 10) (list_any (λ x. x == 10) cs) later)
    ∙ (ap (λ (b : Bool). cond b (line_texts (d ∷ cs)) (before_lines c (line_texts (d ∷ cs)))) (and_false (c == 13))
    ∙ ap (before_lines c) (line_texts-open (d ∷ cs) (omega arith) later)))

-- the first line and the rest, by the place of the first line feed
pub line_texts-at : (t : List ℕ) (at : ℕ) → at < length t → list_any (λ c. c == 10) (take at t) ≡ false → slice_index t at ≡ 10
    → line_texts t ≡ record { text = without_return (take at t); ended = true } ∷ line_texts (drop (at + 1) t)
line_texts-at t at within none feed =
    let split : t ≡ take at t ++ 10 ∷ drop (at + 1) t =
    sym (take-append-drop at t) ∙ (ap (λ (cs : List ℕ). take at t ++ cs) (drop_more t at 0 within) ∙ ap (λ (c : ℕ). take at t ++ c ∷ drop (at + 1) t) feed) in
    ap line_texts split ∙ line_texts-ended (take at t) (drop (at + 1) t) none

pub line_texts-all : (t : List ℕ) (n : ℕ) → 0 < length t → list_any (λ c. c == 10) t ≡ false → length t ≤ n → line_texts t ≡ record { text = t; ended = false } ∷ line_texts (drop n t)
line_texts-all t n some none past =
    line_texts-open t some none ∙ ap (λ (ls : List LineText). record { text = t; ended = false } ∷ ls) (sym (ap line_texts (drop_all n t past) ∙ line_texts-nil))

-- a line more in front of those that are left
pub lines_push : (done : List LineText) (line : LineText) (rest others whole : List ℕ) → done ++ line_texts rest ≡ line_texts whole → line_texts rest ≡ line ∷ line_texts others
    → (done ++ line ∷ []) ++ line_texts others ≡ line_texts whole
lines_push done line rest others whole together first =
    append_assoc done (line ∷ []) (line_texts others) ∙ (sym (ap (λ (ls : List LineText). done ++ ls) first) ∙ together)

pub lines_end : (done : List LineText) (rest whole : List ℕ) → length rest ≡ 0 → done ++ line_texts rest ≡ line_texts whole → done ≡ line_texts whole
lines_end done [] whole none together = sym (ap (λ (ls : List LineText). done ++ ls) line_texts-nil ∙ append-nil done) ∙ together
lines_end done (c ∷ cs) whole none together = absurd (omega arith)
