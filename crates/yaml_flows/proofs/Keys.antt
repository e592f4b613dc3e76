-- Rows whose keys differ, a row at a time, and the keys that were seen.
use Rattle.std.proofs.Common.{◌≡◌, ℕ, ◌<◌, ◌≤◌, Bool, true, false, not, cond, ◌&&◌, ◌||◌, List, [], ◌∷◌, ◌++◌, length, take, map, String, Global, string_bytes, refl, sym, ap, ◌∙◌, arith, rules}
use Rattle.std.proofs.Math.Dec.{ltb}
use Rattle.std.proofs.lemmas.Bool.{ltb-true, ltb-false}
use Rattle.std.proofs.lemmas.List.{length-append, map-append, take_all, take-append-le}
use Rattle.std.proofs.lemmas.List.Folds.{list_any-append}
use Rattle.std.proofs.lemmas.Slice.Eq.{bytes_eq-Decides}
use Rattle.std.specs.BTreeSet.{BTreeSet, contains_text}
use Rattle.std.specs.List.{list_any}
use Rattle.std.specs.Str.{bytes_eq}
use Rattle.yaml_lines.specs.View.{member_view}
use Rattle.yaml_lines.specs.declared.node.Node.{Node}
use Rattle.yaml_flows.specs.Keys.{Row, keys_differ}
use Rattle.yaml_flows.specs.Views.{few, is_key_among, is_seen, seen_later}

abbrev pub has_key : List ℕ → List Row → Bool
has_key k rs = list_any (λ r. bytes_eq k r.0) rs

-- no rows have no equal keys
pub none_apart : keys_differ [] ≡ true
unfolding keys_differ
none_apart = refl

-- an empty set has no key
pub none_later : (later : BTreeSet (String Global)) → later.keys ≡ [] → (q : List ℕ) → contains_text later q ≡ false
none_later later e q = search (rules, e)

-- ---- tests

same_truth : (a b : Bool) → (a ≡ true → b ≡ true) → (b ≡ true → a ≡ true) → a ≡ b
same_truth true b f g = sym (f refl)
same_truth false true f g = g refl
same_truth false false f g = refl

pub bytes_eq-flip : (xs ys : List ℕ) → bytes_eq xs ys ≡ bytes_eq ys xs
bytes_eq-flip xs ys =
    same_truth _ _
    (λ e. (bytes_eq-Decides ys xs).1 (sym ((bytes_eq-Decides xs ys).0 e)))
    (λ e. (bytes_eq-Decides xs ys).1 (sym ((bytes_eq-Decides ys xs).0 e)))

or_false : (b : Bool) → (b || false) ≡ b
or_false true = refl
or_false false = refl

or_parts : (a b : Bool) → (a || b) ≡ false → (a ≡ false) × (b ≡ false)
or_parts true b e = absurd (cc)
or_parts false b e = (refl, e)

and_parts : (a b : Bool) → (a && b) ≡ true → (a ≡ true) × (b ≡ true)
and_parts true b e = (refl, e)
and_parts false b e = absurd (cc)

-- ---- one row more

-- the keys with one more after them
pub has_key-push : (k : List ℕ) (rs : List Row) (r : Row) → has_key k (rs ++ r ∷ []) ≡ (has_key k rs || bytes_eq r.0 k)
has_key-push k rs r =
    list_any-append (λ s. bytes_eq k s.0) rs (r ∷ []) ∙ ap (λ b. has_key k rs || b) (or_false (bytes_eq k r.0) ∙ bytes_eq-flip k r.0)

absent : (k : List ℕ) (rs : List Row) (r : Row) → has_key k rs ≡ false → bytes_eq r.0 k ≡ false → has_key k (rs ++ r ∷ []) ≡ false
absent k rs r e f = has_key-push k rs r ∙ ap (λ b. b || bytes_eq r.0 k) e ∙ f

both : (a b : Bool) → a ≡ false → b ≡ true → (not a && b) ≡ true
both true b e f = absurd (cc)
both false b e f = f

opposite : (a : Bool) → not a ≡ true → a ≡ false
opposite true e = absurd (cc)
opposite false e = refl

pub keys_differ-push : (rs : List Row) (r : Row) → keys_differ rs ≡ true → has_key r.0 rs ≡ false → keys_differ (rs ++ r ∷ []) ≡ true
unfolding keys_differ
keys_differ-push [] r apart new = refl
keys_differ-push (s ∷ rs) r apart new =
    let parts = and_parts (not (has_key s.0 rs)) (keys_differ rs) apart in
    let others = or_parts (bytes_eq r.0 s.0) (has_key r.0 rs) new in
    both _ _ (absent s.0 rs r (opposite _ parts.0) others.0) (keys_differ-push rs r parts.1 others.1)

-- ---- the rows that are looked through, and the keys that are kept of the later ones

pub is_among-rows : (rows : List (String Global × Node)) (q : List ℕ) → is_key_among rows q ≡ has_key q (map member_view rows)
is_among-rows [] q = refl
is_among-rows (r ∷ rows) q = ap (λ b. bytes_eq q (string_bytes r.0) || b) (is_among-rows rows q)

-- no rows have no key
pub is_seen-none : (rows : List (String Global × Node)) (later : List ℕ → Bool) (q : List ℕ) → rows ≡ [] → later q ≡ false → is_seen rows later q ≡ has_key q (map member_view rows)
unfolding is_seen
is_seen-none [] later q none e = e
is_seen-none (r ∷ rows) later q none e = absurd (cc)

-- a row more among those that are looked through
more_rows : (a e c : Bool) → (a || c) ≡ a → ((a || e) || c) ≡ (a || e)
more_rows true e c h = refl
more_rows false true c h = refl
more_rows false false c h = h

pub flipped : (a b : Bool) → cond a true b ≡ (b || a)
flipped true true = refl
flipped true false = refl
flipped false true = refl
flipped false false = refl

-- a key more among those that are kept
more_keys : (a k e c : Bool) → (a || c) ≡ k → (a || cond e true c) ≡ (k || e)
more_keys true true e c h = refl
more_keys true false e c h = absurd (cc)
more_keys false k e c h = flipped e c ∙ ap (λ b. b || e) h

has_key-behind : (rows : List (String Global × Node)) (r : String Global × Node) (q : List ℕ)
    → has_key q (map member_view (rows ++ r ∷ [])) ≡ (has_key q (map member_view rows) || bytes_eq (string_bytes r.0) q)
has_key-behind rows r q = ap (has_key q) (map-append member_view rows (r ∷ [])) ∙ has_key-push q (map member_view rows) (member_view r)

seen_behind : (n : ℕ) (rows : List (String Global × Node)) (r : String Global × Node) (b c d : Bool) (q : List ℕ) → ltb (length rows) n ≡ b
    → (is_key_among (take n rows) q || c) ≡ has_key q (map member_view rows)
    → d ≡ cond b c (cond (bytes_eq (string_bytes r.0) q) true c)
    → (is_key_among (take n (rows ++ r ∷ [])) q || d) ≡ has_key q (map member_view (rows ++ r ∷ []))
seen_behind n rows r true c d q short before after =
    let few : length rows < n = ltb-true (length rows) n short in
    let one_more = length-append rows (r ∷ []) in
    let all : take n rows ≡ rows = take_all n rows (omega arith) in
    let all_more : take n (rows ++ r ∷ []) ≡ rows ++ r ∷ [] = take_all n (rows ++ r ∷ []) (omega arith) in
    let seen : (has_key q (map member_view rows) || c) ≡ has_key q (map member_view rows) =
    ap (λ b. b || c) (sym (ap (λ rs. is_key_among rs q) all ∙ is_among-rows rows q)) ∙ before in
    ap (λ b. b || d) (ap (λ rs. is_key_among rs q) all_more ∙ is_among-rows (rows ++ r ∷ []) q ∙ has_key-behind rows r q)
    ∙ ap (λ d. (has_key q (map member_view rows) || bytes_eq (string_bytes r.0) q) || d) after
    ∙ more_rows _ _ c seen
    ∙ sym (has_key-behind rows r q)
seen_behind n rows r false c d q long before after =
    let many : n ≤ length rows = ltb-false (length rows) n long in
    ap (λ rs. is_key_among rs q || d) (take-append-le n rows (r ∷ []) many)
    ∙ ap (λ d. is_key_among (take n rows) q || d) after
    ∙ more_keys _ _ _ c before
    ∙ sym (has_key-behind rows r q)

-- what is seen after a row is what was seen before it, and its key
pub is_seen-push : (rows : List (String Global × Node)) (r : String Global × Node) (later more : List ℕ → Bool) (q : List ℕ)
    → is_seen rows later q ≡ has_key q (map member_view rows)
    → more q ≡ seen_later (length rows) (string_bytes r.0) later q
    → is_seen (rows ++ r ∷ []) more q ≡ has_key q (map member_view (rows ++ r ∷ []))
unfolding is_seen
is_seen-push rows r later more q before after = seen_behind few rows r _ (later q) (more q) q refl before after

-- ---- a key that stands there already

not_both : (a b : Bool) → a ≡ true → (not a && b) ≡ false
not_both true b e = refl
not_both false b e = absurd (cc)

and_false : (a b : Bool) → b ≡ false → (a && b) ≡ false
and_false true b e = e
and_false false b e = refl

later_too : (a b : Bool) → b ≡ true → (a || b) ≡ true
later_too true b e = refl
later_too false b e = e

has_key-within : (k : List ℕ) (rs later : List Row) (r : Row) → bytes_eq k r.0 ≡ true → has_key k (rs ++ r ∷ later) ≡ true
has_key-within k [] later r e = ap (λ b. b || has_key k later) e
has_key-within k (s ∷ rs) later r e = later_too (bytes_eq k s.0) _ (has_key-within k rs later r e)

doubled_by : (s : Row) (rs later : List Row) (r : Row) (b : Bool) → bytes_eq r.0 s.0 ≡ b → (b || has_key r.0 rs) ≡ true
    → (has_key r.0 rs ≡ true → keys_differ (rs ++ r ∷ later) ≡ false) → (not (has_key s.0 (rs ++ r ∷ later)) && keys_differ (rs ++ r ∷ later)) ≡ false
doubled_by s rs later r true e some deeper = not_both _ _ (has_key-within s.0 rs later r (bytes_eq-flip s.0 r.0 ∙ e))
doubled_by s rs later r false e some deeper = and_false _ _ (deeper some)

pub doubled : (rs later : List Row) (r : Row) → has_key r.0 rs ≡ true → keys_differ (rs ++ r ∷ later) ≡ false
unfolding keys_differ
doubled [] later r e = absurd (cc)
doubled (s ∷ rs) later r e = doubled_by s rs later r (bytes_eq r.0 s.0) refl e (doubled rs later r)
