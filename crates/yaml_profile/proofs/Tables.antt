-- Rows whose keys differ, a row at a time.
use Rattle.std.proofs.Common.{◌≡◌, ℕ, Bool, true, false, not, cond, ◌&&◌, ◌||◌, List, [], ◌∷◌, ◌++◌, Option, Some, None, option_map, option_and_then, String, Global, refl, sym, ap, ◌∙◌, rules}
use Rattle.std.specs.BTreeSet.{BTreeSet, contains_text}
use Rattle.std.specs.Str.{bytes_eq}
use Rattle.yaml_flows.specs.Keys.{Row, keys_differ}
use Rattle.yaml_flows.proofs.Keys.{bytes_eq-flip, flipped, has_key, has_key-push}
use Rattle.yaml_profile.specs.Blocks.{all_of, distinct}
use Rattle.yaml_profile.specs.Rows.{fresh}
use Rattle.yaml_profile.proofs.Lists.{prepend, one_more, refused, all_read}

-- the rows read so far with those of the parts that are left, as those of a table
abbrev pub rows_with : {A : Type 0} → (A → Option Row) → List Row → List A → Option (List Row)
rows_with f rs rest = option_and_then distinct (prepend rs (all_of f rest))

-- an empty set has no key
pub none_seen : (seen : BTreeSet (String Global)) → seen.keys ≡ [] → (q : List ℕ) → contains_text seen q ≡ has_key q []
none_seen seen e q = search (rules, e)

-- ---- one row more

-- what is seen after a row is what was seen before it, and its key
pub seen-push : (q : List ℕ) (rs : List Row) (r : Row) (b : Bool) → b ≡ has_key q rs → cond (bytes_eq r.0 q) true b ≡ has_key q (rs ++ r ∷ [])
seen-push q rs r b e = flipped (bytes_eq r.0 q) b ∙ ap (λ s. s || bytes_eq r.0 q) e ∙ sym (has_key-push q rs r)

-- ---- a key that stands there already

not_both : (a b : Bool) → a ≡ true → (not a && b) ≡ false
not_both true b e = refl
not_both false b e = absurd (cc)

and_false : (a b : Bool) → b ≡ false → (a && b) ≡ false
and_false true b e = e
and_false false b e = refl

later_too : (a b : Bool) → b ≡ true → (a || b) ≡ true
later_too true b e = refl
later_too false b e = e

has_key-within : (k : List ℕ) (rs later : List Row) (r : Row) → bytes_eq k r.0 ≡ true → has_key k (rs ++ r ∷ later) ≡ true
has_key-within k [] later r e = ap (λ b. b || has_key k later) e
has_key-within k (s ∷ rs) later r e = later_too (bytes_eq k s.0) _ (has_key-within k rs later r e)

doubled_by : (s : Row) (rs later : List Row) (r : Row) (b : Bool) → bytes_eq r.0 s.0 ≡ b → (b || has_key r.0 rs) ≡ true
    → (has_key r.0 rs ≡ true → keys_differ (rs ++ r ∷ later) ≡ false) → (not (has_key s.0 (rs ++ r ∷ later)) && keys_differ (rs ++ r ∷ later)) ≡ false
doubled_by s rs later r true e some deeper = not_both _ _ (has_key-within s.0 rs later r (bytes_eq-flip s.0 r.0 ∙ e))
doubled_by s rs later r false e some deeper = and_false _ _ (deeper some)

doubled : (rs later : List Row) (r : Row) → has_key r.0 rs ≡ true → keys_differ (rs ++ r ∷ later) ≡ false
unfolding keys_differ
doubled [] later r e = absurd (cc)
doubled (s ∷ rs) later r e = doubled_by s rs later r (bytes_eq r.0 s.0) refl e (doubled rs later r)

doubled_in : (rs : List Row) (r : Row) (o : Option (List Row)) → has_key r.0 rs ≡ true → option_and_then distinct (prepend rs (option_map (λ ys. r ∷ ys) o)) ≡ None
doubled_in rs r None e = refl
doubled_in rs r (Some later) e = rw (doubled rs later r e)

-- ---- the loop over a table's parts

was_seen : (b : Bool) (r : Row) → cond b None (Some r) ≡ None → b ≡ true
was_seen true r e = refl
was_seen false r e = absurd (cc)

unseen_by : (seen : List ℕ → Bool) (s r : Row) (b : Bool) → seen s.0 ≡ b → ◌≡◌ {A = Option Row} (cond b None (Some s)) (Some r)
    → (◌≡◌ {A = Option Row} (Some s) (Some r)) × (seen r.0 ≡ false)
unseen_by seen s r true e f = absurd (cc)
unseen_by seen s r false e f = (f, ap seen (ap (λ o. key_in o) (sym f)) ∙ e)
  where
    key_in : Option Row → List ℕ
    key_in None = []
    key_in (Some r) = r.0

-- a row that was read while its key wasn't seen
pub unseen : (seen : List ℕ → Bool) (o : Option Row) (r : Row) → fresh seen o ≡ Some r → (o ≡ Some r) × (seen r.0 ≡ false)
unseen seen None r e = absurd (cc)
unseen seen (Some s) r e = unseen_by seen s r (seen s.0) refl e

module _ {A : Type 0} (f : A → Option Row) where
  pub row_read : (rs : List Row) (a : A) (rest : List A) (r : Row) → f a ≡ Some r → rows_with f rs (a ∷ rest) ≡ rows_with f (rs ++ r ∷ []) rest
  row_read rs a rest r e = ap (option_and_then distinct) (one_more f rs a rest r e)

  refused_by : (seen : List ℕ → Bool) (rs : List Row) (a : A) (rest : List A) (o : Option Row) → f a ≡ o → ((q : List ℕ) → seen q ≡ has_key q rs) → fresh seen o ≡ None
      → rows_with f rs (a ∷ rest) ≡ None
  unfolding all_of
  refused_by seen rs a rest None e same none = ap (option_and_then distinct) (refused f rs a rest e)
  refused_by seen rs a rest (Some r) e same none =
      rw e (doubled_in rs r (all_of f rest) (sym (same r.0) ∙ was_seen (seen r.0) r none))

  pub row_refused : (seen : List ℕ → Bool) (rs : List Row) (a : A) (rest : List A) → ((q : List ℕ) → seen q ≡ has_key q rs) → fresh seen (f a) ≡ None → rows_with f rs (a ∷ rest) ≡ None
  row_refused seen rs a rest same none = refused_by seen rs a rest (f a) refl same none

  pub rows_read : (rs : List Row) → keys_differ rs ≡ true → rows_with f rs [] ≡ Some rs
  rows_read rs apart = ap (option_and_then distinct) (all_read f rs) ∙ rw apart
