-- How the scans of a line's characters meet their definitions, one character further on.
use Rattle.std.proofs.Common.{take_all, ◌≡◌, ℕ, ◌+◌, ◌-◌, ◌<◌, ◌≤◌, Bool, true, false, cond, ◌&&◌, eqb, List, [], ◌∷◌, ◌++◌, length, take, drop, get_or, Option, Some, None, option_map, refl, sym, ap, ◌∙◌, arith, append_assoc}
use Rattle.std.proofs.lemmas.Bool.{ne_eqb}
use Rattle.std.proofs.lemmas.List.{drop_more, take_more, append-nil, drop_all}
use Rattle.yaml_lines.specs.Characters.{is_blank, is_nil, blank_or_end}
use Rattle.yaml_lines.specs.Lines.{without_return}
use Rattle.yaml_lines.specs.Plain.{Sides, before_side, sides_of, trim_end, uncommented}

and_false : (b : Bool) → (b && false) ≡ false
and_false true = refl
and_false false = refl

-- a list up to and with its place i, where c stands
taken : (t : List ℕ) (i c : ℕ) → i < length t → c ≡ get_or t i c → take (i + 1) t ≡ take i t ++ c ∷ []
taken t i c l e = take_more t i c l ∙ ap (λ (x : ℕ). take i t ++ x ∷ []) (sym e)

left : (t : List ℕ) (i c : ℕ) → i < length t → c ≡ get_or t i c → drop i t ≡ c ∷ drop (i + 1) t
left t i c l e = drop_more t i c l ∙ ap (λ (x : ℕ). x ∷ drop (i + 1) t) (sym e)

-- a blank at the end goes
trim_end_push_blank : (xs : List ℕ) (c : ℕ) → is_blank c ≡ true → trim_end (xs ++ c ∷ []) ≡ trim_end xs
unfolding trim_end
trim_end_push_blank [] c h = ap (λ (b : Bool). cond (b && true) [] (c ∷ [])) h
trim_end_push_blank (x ∷ xs) c h =
    ap (λ (rest : List ℕ). cond (is_blank x && is_nil rest) [] (x ∷ rest)) (trim_end_push_blank xs c h)

some_left : (xs : List ℕ) (c : ℕ) → is_nil (xs ++ c ∷ []) ≡ false
some_left [] c = refl
some_left (x ∷ xs) c = refl

-- another character at the end keeps all
trim_end_push_other : (xs : List ℕ) (c : ℕ) → is_blank c ≡ false → trim_end (xs ++ c ∷ []) ≡ xs ++ c ∷ []
unfolding trim_end
trim_end_push_other [] c h = ap (λ (b : Bool). cond (b && true) [] (c ∷ [])) h
trim_end_push_other (x ∷ xs) c h =
    ap (λ (rest : List ℕ). cond (is_blank x && is_nil rest) [] (x ∷ rest)) (trim_end_push_other xs c h)
    ∙ (ap (λ (b : Bool). cond (is_blank x && b) [] (x ∷ (xs ++ c ∷ []))) (some_left xs c)
    ∙ ap (λ (b : Bool). cond b [] (x ∷ (xs ++ c ∷ []))) (and_false (is_blank x)))

pub trim_end-nil : trim_end [] ≡ []
unfolding trim_end
trim_end-nil = refl

pub trim_end-blank : (t : List ℕ) (n c : ℕ) → 0 < n → n ≤ length t → c ≡ get_or t (n - 1) c → is_blank c ≡ true → trim_end (take (n - 1) t) ≡ trim_end (take n t)
trim_end-blank t n c above within e h =
    let more : n - 1 + 1 ≡ n = omega arith in
    sym (ap (λ (k : ℕ). trim_end (take k t)) (sym more) ∙ (ap trim_end (taken t (n - 1) c (omega arith) e) ∙ trim_end_push_blank (take (n - 1) t) c h))

pub trim_end-other : (t : List ℕ) (n c : ℕ) → 0 < n → n ≤ length t → c ≡ get_or t (n - 1) c → is_blank c ≡ false → trim_end (take n t) ≡ take n t
trim_end-other t n c above within e h =
    let more : n - 1 + 1 ≡ n = omega arith in
    let last : take n t ≡ take (n - 1) t ++ c ∷ [] = ap (λ (k : ℕ). take k t) (sym more) ∙ taken t (n - 1) c (omega arith) e in
    ap trim_end last ∙ (trim_end_push_other (take (n - 1) t) c h ∙ sym last)

-- what stands before a comment, from the part that was passed and what is left
abbrev pub uncommented_from : List ℕ → Bool → ℕ → List ℕ
uncommented_from t free i = take i t ++ uncommented free (drop i t)

uncommented-nil : (free : Bool) → uncommented free [] ≡ []
unfolding uncommented
uncommented-nil free = refl

uncommented-other : (free : Bool) (c : ℕ) (cs : List ℕ) → (free && eqb c 35) ≡ false → uncommented free (c ∷ cs) ≡ c ∷ uncommented (is_blank c) cs
unfolding uncommented
uncommented-other free c cs h = rw h

uncommented-hash : (free : Bool) (c : ℕ) (cs : List ℕ) → (free && eqb c 35) ≡ true → uncommented free (c ∷ cs) ≡ []
unfolding uncommented
uncommented-hash free c cs h = rw h

pub uncommented_from_other : (t : List ℕ) (free : Bool) (i c : ℕ) → i < length t → c ≡ get_or t i c → (free && eqb c 35) ≡ false → uncommented_from t free i ≡ uncommented_from t (is_blank c) (i + 1)
uncommented_from_other t free i c l e h =
    let rest = uncommented (is_blank c) (drop (i + 1) t) in
    ap (λ (cs : List ℕ). take i t ++ uncommented free cs) (left t i c l e)
    ∙ (ap (λ (cs : List ℕ). take i t ++ cs) (uncommented-other free c (drop (i + 1) t) h)
    ∙ (sym (append_assoc (take i t) (c ∷ []) rest) ∙ ap (λ (xs : List ℕ). xs ++ rest) (sym (taken t i c l e))))

pub uncommented_from_hash : (t : List ℕ) (free : Bool) (i c : ℕ) → i < length t → c ≡ get_or t i c → (free && eqb c 35) ≡ true → uncommented_from t free i ≡ take i t
uncommented_from_hash t free i c l e h =
    ap (λ (cs : List ℕ). take i t ++ uncommented free cs) (left t i c l e)
    ∙ (ap (λ (cs : List ℕ). take i t ++ cs) (uncommented-hash free c (drop (i + 1) t) h) ∙ append-nil (take i t))

pub uncommented_from_end : (t : List ℕ) (free : Bool) (i : ℕ) → length t ≤ i → uncommented_from t free i ≡ t
uncommented_from_end t free i l =
    ap (λ (cs : List ℕ). take i t ++ uncommented free cs) (drop_all i t l)
    ∙ (ap (λ (cs : List ℕ). take i t ++ cs) (uncommented-nil free) ∙ (append-nil (take i t) ∙ take_all i t l))

pub is_hash : (free : Bool) (c : ℕ) → free ≡ true → c ≡ 35 → (free && eqb c 35) ≡ true
is_hash free c f e = ap (λ (b : Bool). b && eqb c 35) f ∙ ap (λ (x : ℕ). eqb x 35) e

pub no_hash : (free : Bool) (c : ℕ) → (c ≡ 35 → ⊥) → (free && eqb c 35) ≡ false
no_hash free c e = ap (λ (b : Bool). free && b) (ne_eqb c 35 e) ∙ and_false free

pub not_free : (free : Bool) (c : ℕ) → free ≡ false → (free && eqb c 35) ≡ false
not_free free c f = ap (λ (b : Bool). b && eqb c 35) f

into_cond : (b : Bool) (x : ℕ) (ys zs : List ℕ) → x ∷ cond b ys zs ≡ cond b (x ∷ ys) (x ∷ zs)
into_cond true x ys zs = refl
into_cond false x ys zs = refl

-- a carriage return at the end goes, and another character stays
without_return_push : (xs : List ℕ) (c : ℕ) → without_return (xs ++ c ∷ []) ≡ cond (eqb c 13 && true) xs (xs ++ c ∷ [])
without_return_push [] c = refl
without_return_push (x ∷ xs) c =
    ap (λ (b : Bool). cond (eqb x 13 && b) [] (x ∷ without_return (xs ++ c ∷ []))) (some_left xs c)
    ∙ (ap (λ (b : Bool). cond b [] (x ∷ without_return (xs ++ c ∷ []))) (and_false (eqb x 13))
    ∙ (ap (λ (ys : List ℕ). x ∷ ys) (without_return_push xs c) ∙ into_cond (eqb c 13 && true) x xs (xs ++ c ∷ [])))

last_of : (t : List ℕ) (c : ℕ) → 0 < length t → c ≡ get_or t (length t - 1) c → t ≡ take (length t - 1) t ++ c ∷ []
last_of t c some e =
    let more : length t - 1 + 1 ≡ length t = omega arith in
    sym (take_all (length t) t (omega arith)) ∙ (ap (λ (k : ℕ). take k t) (sym more) ∙ taken t (length t - 1) c (omega arith) e)

pub without_return-return : (t : List ℕ) (c : ℕ) → 0 < length t → c ≡ get_or t (length t - 1) c → c ≡ 13 → without_return t ≡ take (length t - 1) t
without_return-return t c some e h =
    ap without_return (last_of t c some e)
    ∙ (without_return_push (take (length t - 1) t) c
    ∙ ap (λ (x : ℕ). cond (eqb x 13 && true) (take (length t - 1) t) (take (length t - 1) t ++ c ∷ [])) h)

pub without_return-other : (t : List ℕ) (c : ℕ) → 0 < length t → c ≡ get_or t (length t - 1) c → (c ≡ 13 → ⊥) → without_return t ≡ t
without_return-other t c some e h =
    ap without_return (last_of t c some e)
    ∙ (without_return_push (take (length t - 1) t) c
    ∙ (ap (λ (b : Bool). cond (b && true) (take (length t - 1) t) (take (length t - 1) t ++ c ∷ [])) (ne_eqb c 13 h)
    ∙ sym (last_of t c some e)))

pub without_return-nil : (t : List ℕ) → length t ≡ 0 → without_return t ≡ t
without_return-nil [] h = refl
without_return-nil (c ∷ cs) h = absurd (omega arith)

-- both sides of a colon with characters more in front
abbrev pub before_sides : List ℕ → Sides → Sides
before_sides xs sides = record { before = xs ++ sides.before; behind = sides.behind }

before_sides-push : (xs : List ℕ) (c : ℕ) (o : Option Sides) → option_map (before_sides xs) (option_map (before_side c) o) ≡ option_map (before_sides (xs ++ c ∷ [])) o
before_sides-push xs c None = refl
before_sides-push xs c (Some s) =
    let f : List ℕ → Option Sides = λ bs. Some (record { before = bs; behind = s.behind }) in ap f (sym (append_assoc xs (c ∷ []) s.before))

-- what one character does to the search for a colon
abbrev colon_step : Bool → Bool → ℕ → List ℕ → Option Sides
colon_step hash colon c cs = cond hash None (cond colon (Some (record { before = []; behind = cs })) (option_map (before_side c) (sides_of (is_blank c) cs)))

sides_of-cons : (free : Bool) (c : ℕ) (cs : List ℕ) (hash colon : Bool) → (free && eqb c 35) ≡ hash → (eqb c 58 && blank_or_end cs) ≡ colon → sides_of free (c ∷ cs) ≡ colon_step hash colon c cs
unfolding sides_of
sides_of-cons free c cs hash colon h k = ap (λ (b : Bool). colon_step b (eqb c 58 && blank_or_end cs) c cs) h ∙ ap (λ (b : Bool). colon_step hash b c cs) k

sides_of-nil : (free : Bool) → sides_of free [] ≡ None
unfolding sides_of
sides_of-nil free = refl

-- the sides of all, from those of what is left
abbrev pub sides_from : List ℕ → Bool → ℕ → Option Sides
sides_from t free i = option_map (before_sides (take i t)) (sides_of free (drop i t))

same_sides : (o : Option Sides) → option_map (before_sides []) o ≡ o
same_sides None = refl
same_sides (Some s) = refl

pub sides_from_start : (t : List ℕ) → sides_of true t ≡ sides_from t true 0
sides_from_start t = sym (same_sides (sides_of true t))

sides_from_step : (t : List ℕ) (free : Bool) (i c : ℕ) (hash colon : Bool) → i < length t → c ≡ get_or t i c → (free && eqb c 35) ≡ hash → (eqb c 58 && blank_or_end (drop (i + 1) t)) ≡ colon
    → sides_from t free i ≡ option_map (before_sides (take i t)) (colon_step hash colon c (drop (i + 1) t))
sides_from_step t free i c hash colon l e h k =
    let f : Option Sides → Option Sides = option_map (before_sides (take i t)) in
    ap (λ (cs : List ℕ). f (sides_of free cs)) (left t i c l e) ∙ ap f (sides_of-cons free c (drop (i + 1) t) hash colon h k)

pub sides_from_hash : (t : List ℕ) (free : Bool) (i c : ℕ) → i < length t → c ≡ get_or t i c → (free && eqb c 35) ≡ true → sides_from t free i ≡ None
sides_from_hash t free i c l e h = sides_from_step t free i c true (eqb c 58 && blank_or_end (drop (i + 1) t)) l e h refl

pub sides_from_colon : (t : List ℕ) (free : Bool) (i c : ℕ) → i < length t → c ≡ get_or t i c → (free && eqb c 35) ≡ false → (eqb c 58 && blank_or_end (drop (i + 1) t)) ≡ true
    → sides_from t free i ≡ Some (record { before = take i t; behind = drop (i + 1) t })
sides_from_colon t free i c l e h k =
    let g : List ℕ → Option Sides = λ bs. Some (record { before = bs; behind = drop (i + 1) t }) in
    sides_from_step t free i c false true l e h k ∙ ap g (append-nil (take i t))

pub sides_from_other : (t : List ℕ) (free : Bool) (i c : ℕ) → i < length t → c ≡ get_or t i c → (free && eqb c 35) ≡ false → (eqb c 58 && blank_or_end (drop (i + 1) t)) ≡ false
    → sides_from t free i ≡ sides_from t (is_blank c) (i + 1)
sides_from_other t free i c l e h k =
    sides_from_step t free i c false false l e h k
    ∙ (before_sides-push (take i t) c (sides_of (is_blank c) (drop (i + 1) t))
    ∙ ap (λ (xs : List ℕ). option_map (before_sides xs) (sides_of (is_blank c) (drop (i + 1) t))) (sym (taken t i c l e)))

pub sides_from_end : (t : List ℕ) (free : Bool) (i : ℕ) → length t ≤ i → sides_from t free i ≡ None
sides_from_end t free i l = ap (λ (cs : List ℕ). option_map (before_sides (take i t)) (sides_of free cs)) (drop_all i t l) ∙ ap (option_map (before_sides (take i t))) (sides_of-nil free)

pub is_colon : (c : ℕ) (b : Bool) → c ≡ 58 → b ≡ true → (eqb c 58 && b) ≡ true
is_colon c b e h = ap (λ (x : ℕ). eqb x 58 && b) e ∙ h

pub no_colon : (c : ℕ) (b : Bool) → (c ≡ 58 → ⊥) → (eqb c 58 && b) ≡ false
no_colon c b e = ap (λ (x : Bool). x && b) (ne_eqb c 58 e)

pub no_blank_after : (c : ℕ) (b : Bool) → b ≡ false → (eqb c 58 && b) ≡ false
no_blank_after c b h = ap (λ (x : Bool). eqb c 58 && x) h ∙ and_false (eqb c 58)
