-- What the parts between a flow's brackets are, where each begins with an ordinary character and is read as far as the
-- comma or the bracket after it.
use Rattle.std.proofs.Common.{◌≡◌, ℕ, zero, suc, ◌+◌, ◌≤◌, Bool, true, false, cond, not, ◌&&◌, ◌||◌, eqb, List, [], ◌∷◌, ◌++◌, length, map, drop, Option, Some, option_map, option_and_then, refl, sym, ap, ◌∙◌, arith}
use Rattle.std.proofs.lemmas.Bool.{eq-eqb}
use Rattle.std.proofs.lemmas.List.{length-append}
use Rattle.std.specs.List.{list_all}
use Rattle.yaml_lines.specs.Characters.{is_blank, begins_with}
use Rattle.yaml_lines.specs.Plain.{is_indicator}
use Rattle.yaml_flows.specs.Flows.{Found, mapped, next_part, part, parts, parts_within}
use Rattle.yaml_lines.specs.FlowGaps.{behind_gap, after_gap}
use Rattle.yaml_lines.specs.FlowTexts.{is_flow_indicator}
use Rattle.yaml_profile.proofs.Words.{both, or_none, apart, IsOrdinary, no_blank, no_feed, no_hash}

-- ---- where a part begins

pub record Begins (cs : List ℕ) : Type 0 where
  pub first : ℕ
  pub others : List ℕ
  pub is : cs ≡ first ∷ others
  pub ordinary : IsOrdinary first

no_gap_at : (free : Bool) (c : ℕ) (cs : List ℕ) → IsOrdinary c → behind_gap false free (c ∷ cs) ≡ c ∷ cs
unfolding behind_gap
no_gap_at free c cs o =
    ap (λ (b : Bool). cond b (behind_gap (eqb c 35 && not (eqb c 10)) true cs) (c ∷ cs))
    (or_none (is_blank c || eqb c 10) (free && eqb c 35) (or_none (is_blank c) (eqb c 10) (no_blank c o) (no_feed c o)) (none free (eqb c 35) (no_hash c o)))
  where
    none : (a b : Bool) → b ≡ false → (a && b) ≡ false
    none true b e = e
    none false b e = refl

-- nothing stands before a part; a blank may
pub no_gap : (cs rest : List ℕ) → Begins cs → after_gap (cs ++ rest) ≡ cs ++ rest
no_gap cs rest b =
    ap (λ (ds : List ℕ). after_gap (ds ++ rest)) b.is ∙ no_gap_at false b.first (b.others ++ rest) b.ordinary ∙ ap (λ (ds : List ℕ). ds ++ rest) (sym b.is)

pub behind_space : (cs rest : List ℕ) → Begins cs → after_gap (32 ∷ (cs ++ rest)) ≡ cs ++ rest
unfolding behind_gap
behind_space cs rest b =
    ap (λ (ds : List ℕ). behind_gap false true (ds ++ rest)) b.is ∙ no_gap_at true b.first (b.others ++ rest) b.ordinary ∙ ap (λ (ds : List ℕ). ds ++ rest) (sym b.is)

comma_behind : (close : ℕ) (cs : List ℕ) → next_part close (after_gap (44 ∷ cs)) ≡ Some (after_gap cs)
unfolding behind_gap
comma_behind close cs = refl

-- ---- what stands after the first part

module _ {X : Type 0} (close : ℕ) (text : X → List ℕ) where
  unfoldable pub behind : List X → List ℕ
  behind [] = close ∷ []
  behind (x ∷ xs) = 44 ∷ (text x ++ behind xs)

  pub enough : (xs : List X) → length xs + 1 ≤ length (behind xs)
  unfolding behind
  enough [] = omega arith
  enough (x ∷ xs) = let more = enough xs in omega (arith, length-append (text x) (behind xs))

-- ---- the parts in turn

module _ {X A : Type 0} (close : ℕ) (read : List ℕ → Option (Found A)) (text : X → List ℕ) (value : X → A) (good : X → Bool) (begins : (x : X) → good x ≡ true → Begins (text x))
    (reads : (x : X) (stop : ℕ) (more : List ℕ) → good x ≡ true → is_flow_indicator stop ≡ true → read (text x ++ stop ∷ more) ≡ Some (record { value = value x; rest = stop ∷ more }))
    (is_close : (is_indicator close ≡ true) × (is_flow_indicator close ≡ true)) (closes : next_part close (after_gap (close ∷ [])) ≡ Some (close ∷ [])) where
  part_read : (x : X) (stop : ℕ) (more rest : List ℕ) → good x ≡ true → is_flow_indicator stop ≡ true → next_part close (after_gap (stop ∷ more)) ≡ Some rest
      → part close read (text x ++ stop ∷ more) ≡ Some (record { value = value x; rest = rest })
  part_read x stop more rest g ends e =
      ap (λ (o : Option (Found A)). option_and_then (λ found. option_map (λ rest. record { value = found.value; rest = rest }) (next_part close (after_gap found.rest))) o) (reads x stop more g ends)
      ∙ ap (λ (o : Option (List ℕ)). option_map (λ rest. record { value = value x; rest = rest }) o) e

  abbrev in_front : A → Option (Found (List A)) → Option (Found (List A))
  in_front v o = option_map (mapped (λ more. v ∷ more)) o

  one_part : (most : ℕ) (cs rest : List ℕ) (found : Found A) → Begins cs → part close read (cs ++ rest) ≡ Some found
      → parts_within close read (suc most) (cs ++ rest) ≡ in_front found.value (parts_within close read most found.rest)
  unfolding parts_within
  one_part most cs rest found b e =
      let next : Option (Found A) → Option (Found (List A)) = λ p. option_and_then (λ found. in_front found.value (parts_within close read most found.rest)) p in
      let other : begins_with close (cs ++ rest) ≡ false = ap (λ (ds : List ℕ). begins_with close (ds ++ rest)) b.is ∙ apart b.first close is_indicator b.ordinary.no_indicator is_close.0 in
      ap (λ (b : Bool). cond b (Some (record { value = []; rest = drop 1 (cs ++ rest) })) (next (part close read (cs ++ rest)))) other ∙ ap next e

  no_part : (most : ℕ) → parts_within close read (suc most) (close ∷ []) ≡ Some (record { value = []; rest = [] })
  unfolding parts_within
  no_part most =
      ap (λ (b : Bool). cond b (Some (record { value = []; rest = [] })) (option_and_then (λ found. in_front found.value (parts_within close read most found.rest)) (part close read (close ∷ []))))
      (eq-eqb close close refl)

  within : (most : ℕ) (x : X) (xs : List X) → good x ≡ true → list_all good xs ≡ true → length xs + 2 ≤ most
      → parts_within close read most (text x ++ behind close text xs) ≡ Some (record { value = map value (x ∷ xs); rest = [] })
  unfolding behind
  within zero x xs g all fits = absurd (omega arith)
  within (suc zero) x xs g all fits = absurd (omega arith)
  within (suc (suc most)) x [] g all fits =
      one_part (suc most) (text x) (close ∷ []) (record { value = value x; rest = close ∷ [] }) (begins x g) (part_read x close [] (close ∷ []) g is_close.1 closes)
      ∙ ap (in_front (value x)) (no_part most)
  within (suc (suc most)) x (y ∷ ys) g all fits =
      let others = both (good y) (list_all good ys) all in
      let later : List ℕ = text y ++ behind close text ys in
      one_part (suc most) (text x) (44 ∷ later) (record { value = value x; rest = later }) (begins x g)
      (part_read x 44 later later g refl (comma_behind close later ∙ ap Some (no_gap (text y) (behind close text ys) (begins y others.0))))
      ∙ ap (in_front (value x)) (within (suc most) y ys others.0 others.1 (omega arith))

  -- all of them, up to the closing bracket
  pub all_parts : (x : X) (xs : List X) → good x ≡ true → list_all good xs ≡ true → parts close read (text x ++ behind close text xs) ≡ Some (record { value = map value (x ∷ xs); rest = [] })
  all_parts x xs g all =
      let t : List ℕ = text x ++ behind close text xs in
      let some = ap (λ (ds : List ℕ). length ds) (begins x g).is in
      let fits : length xs + 2 ≤ length t = let more = enough close text xs in omega (arith, length-append (text x) (behind close text xs)) in
      ap (λ (ds : List ℕ). parts_within close read (length ds) ds) (no_gap (text x) (behind close text xs) (begins x g)) ∙ within (length t) x xs g all fits
