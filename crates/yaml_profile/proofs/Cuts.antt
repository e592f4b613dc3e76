-- A cut's first lines, and the parts after them, by how many lines pass the test.
use Rattle.std.proofs.Common.{◌≡◌, ℕ, suc, ◌+◌, Bool, true, false, cond, List, [], ◌∷◌, take, drop, refl, ap, ◌∙◌, arith}
use Rattle.std.specs.List.{prefix_len}
use Rattle.yaml_lines.specs.Entries.{ContentLine}
use Rattle.yaml_profile.specs.Blocks.{Cut, put, cut, parts}

one_plus : (n : ℕ) → suc n ≡ 1 + n
one_plus n = omega arith

before_step : (b : Bool) (p : ContentLine) (ps : List ContentLine) (c : Cut) (n : ℕ) → c.before ≡ take n ps → (put b p c).before ≡ take (cond b (1 + n) 0) (p ∷ ps)
before_step true p ps c n e = ap (λ ls. p ∷ ls) e ∙ ap (λ m. take m (p ∷ ps)) (one_plus n)
before_step false p ps c n e = refl

pub before_is : (t : ContentLine → Bool) (ps : List ContentLine) → (cut t ps).before ≡ take (prefix_len t ps) ps
unfolding cut
before_is t [] = refl
before_is t (p ∷ ps) = before_step (t p) p ps (cut t ps) (prefix_len t ps) (before_is t ps)

parts_step : (t : ContentLine → Bool) (b : Bool) (p : ContentLine) (ps : List ContentLine) (n : ℕ) → (cut t ps).parts ≡ parts t (drop n ps)
    → (put b p (cut t ps)).parts ≡ parts t (drop (cond b (1 + n) 0) (p ∷ ps))
parts_step t true p ps n e = e ∙ ap (λ m. parts t (drop m (p ∷ ps))) (one_plus n)
parts_step t false p ps n e = refl

pub parts_is : (t : ContentLine → Bool) (ps : List ContentLine) → (cut t ps).parts ≡ parts t (drop (prefix_len t ps) ps)
unfolding cut
parts_is t [] = refl
parts_is t (p ∷ ps) = parts_step t (t p) p ps (prefix_len t ps) (parts_is t ps)
