-- What is read of each row of a table in turn, with the rows that were read before in front.
use Rattle.std.proofs.Common.{◌≡◌, ℕ, ◌+◌, ◌-◌, ◌<◌, ◌≤◌, drop, length, arith, Bool, true, false, cond, List, [], ◌∷◌, ◌++◌, Option, Some, None, option_and_then, refl, sym, ap, ◌∙◌}
use Rattle.yaml_lines.specs.Characters.{begins_with}
use Rattle.yaml_lines.specs.FlowGaps.{after_gap}
use Rattle.yaml_flows.specs.Flows.{Found, part, parts, parts_within, distinct_flow_rows}
use Rattle.yaml_flows.specs.Keys.{Row, keys_differ}
use Rattle.yaml_flows.specs.Views.{fresh_flow_row}
use Rattle.yaml_flows.proofs.Keys.{has_key, doubled}
use Rattle.yaml_flows.proofs.Parts.{none_before, prepend, in_front, part_closed, part_then, part_read, part_refused, no_more}

doubled_in : (rs : List Row) (r : Row) (o : Option (Found (List Row))) → has_key r.0 rs ≡ true → option_and_then distinct_flow_rows (prepend rs (in_front r o)) ≡ None
doubled_in rs r None e = refl
doubled_in rs r (Some later) e = rw (doubled rs later.value r e)

was_seen : (b : Bool) (r : Found Row) → cond b None (Some r) ≡ None → b ≡ true
was_seen true r e = refl
was_seen false r e = absurd (cc)

abbrev key_in : Option (Found Row) → List ℕ
key_in None = []
key_in (Some r) = r.value.0

unseen_by : (seen : List ℕ → Bool) (s r : Found Row) (b : Bool) → seen s.value.0 ≡ b → ◌≡◌ {A = Option (Found Row)} (cond b None (Some s)) (Some r)
    → (◌≡◌ {A = Option (Found Row)} (Some s) (Some r)) × (seen r.value.0 ≡ false)
unseen_by seen s r true e f = absurd (cc)
unseen_by seen s r false e f = (f, ap seen (ap (λ o. key_in o) (sym f)) ∙ e)

-- a row that was read while its key wasn't seen
pub unseen : (seen : List ℕ → Bool) (o : Option (Found Row)) (r : Found Row) → fresh_flow_row seen o ≡ Some r → (o ≡ Some r) × (seen r.value.0 ≡ false)
unseen seen None r e = absurd (cc)
unseen seen (Some s) r e = unseen_by seen s r (seen s.value.0) refl e

-- the rows read so far with those that are left, as those of a table
abbrev pub rows_with : (List ℕ → Option (Found Row)) → List Row → ℕ → List ℕ → Option (Found (List Row))
rows_with read rs most cs = option_and_then distinct_flow_rows (prepend rs (parts_within 125 read most cs))

module _ (read : List ℕ → Option (Found Row)) where
  pub row_read : (n i : ℕ) (cs : List ℕ) (rs : List Row) (r : Found Row) → i < n → begins_with 125 cs ≡ false → part 125 read cs ≡ Some r
      → rows_with read rs (n - i) cs ≡ rows_with read (rs ++ r.value ∷ []) (n - (i + 1)) r.rest
  row_read n i cs rs r within h e = ap (option_and_then distinct_flow_rows) (part_read 125 read n i cs rs r within h e)

  refused_by : (seen : List ℕ → Bool) (n i : ℕ) (cs : List ℕ) (rs : List Row) (o : Option (Found Row)) → i < n → begins_with 125 cs ≡ false → part 125 read cs ≡ o
      → ((q : List ℕ) → seen q ≡ has_key q rs) → fresh_flow_row seen o ≡ None → rows_with read rs (n - i) cs ≡ None
  refused_by seen n i cs rs None within h e same none = ap (option_and_then distinct_flow_rows) (part_refused 125 read n i cs rs within h e)
  refused_by seen n i cs rs (Some r) within h e same none =
      ap (λ (o : Option (Found (List Row))). option_and_then distinct_flow_rows (prepend rs o)) (part_then 125 read n i cs r within h e)
      ∙ doubled_in rs r.value (parts_within 125 read (n - (i + 1)) r.rest) (sym (same r.value.0) ∙ was_seen (seen r.value.0) r none)

  pub row_refused : (seen : List ℕ → Bool) (n i : ℕ) (cs : List ℕ) (rs : List Row) → i < n → begins_with 125 cs ≡ false
      → ((q : List ℕ) → seen q ≡ has_key q rs) → fresh_flow_row seen (part 125 read cs) ≡ None → rows_with read rs (n - i) cs ≡ None
  row_refused seen n i cs rs within h same none = refused_by seen n i cs rs (part 125 read cs) within h refl same none

  pub rows_read : (n i : ℕ) (cs : List ℕ) (rs : List Row) → i < n → begins_with 125 cs ≡ true → keys_differ rs ≡ true
      → rows_with read rs (n - i) cs ≡ Some (record { value = rs; rest = drop 1 cs })
  rows_read n i cs rs within h apart = ap (option_and_then distinct_flow_rows) (part_closed 125 read n i cs rs within h) ∙ rw apart

  pub rows_end : (n i : ℕ) (cs : List ℕ) (rs : List Row) → n ≤ i → rows_with read rs (n - i) cs ≡ None
  rows_end n i cs rs past = ap (option_and_then distinct_flow_rows) (no_more 125 read n i cs rs past)

  -- at the start nothing was read
  pub rows_start : (inner start : List ℕ) (rs : List Row) → start ≡ after_gap inner → rs ≡ [] → option_and_then distinct_flow_rows (parts 125 read inner) ≡ rows_with read rs (length start - 0) start
  rows_start inner start rs e none =
      let fuel : length start ≡ length start - 0 = omega arith in
      ap (λ (cs : List ℕ). option_and_then distinct_flow_rows (parts_within 125 read (length cs) cs)) (sym e)
      ∙ (ap (option_and_then distinct_flow_rows) (none_before (parts_within 125 read (length start) start))
      ∙ (ap (λ (n : ℕ). rows_with read [] n start) fuel ∙ ap (λ (rs : List Row). rows_with read rs (length start - 0) start) (sym none)))
