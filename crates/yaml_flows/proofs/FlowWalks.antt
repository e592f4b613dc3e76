-- What is open after each part of a flow that is read.
use Rattle.std.proofs.Common.{◌≡◌, ℕ, zero, suc, ◌+◌, ◌-◌, ◌<◌, ◌≤◌, Bool, true, false, cond, not, ◌&&◌, ◌||◌, eqb, List, [], ◌∷◌, ◌++◌, length, take, drop, Option, Some, None, option_map, option_and_then, refl, sym, ap, ap₂, ◌∙◌, arith}
use Rattle.std.proofs.lemmas.Bool.{eqb-true, ne_eqb, lt-ltb}
use Rattle.std.specs.List.{list_any, join_with_byte}
use Rattle.yaml_lines.specs.Characters.{begins_with, is_blank, is_nil}
use Rattle.yaml_lines.specs.FlowGaps.{is_feed, blank_or_line_end, is_of_gap, in_comment, behind_gap, after_gap, after_start}
use Rattle.yaml_lines.specs.FlowLines.{Open, state, outside, is_closed, one_deeper, is_opening, is_closing, Behind, behind_text, behind_token, behind_all, skim}
use Rattle.yaml_lines.specs.FlowTexts.{is_flow_indicator, ends_key, is_key_end, begins_plain, plain_extent, FlowText, plain_text, plain_at, quoted_at, text_at}
use Rattle.yaml_lines.specs.Meaning.{Meaning, list, table, meanings_of, members_of, most_nodes}
use Rattle.yaml_lines.specs.Plain.{is_indicator, is_mark_character, trim_end}
use Rattle.yaml_lines.specs.Quoted.{is_quote}
use Rattle.yaml_lines.proofs.FlowSeams.{then_all, all_step, then_lines, lines_seam, longer_behind}
use Rattle.yaml_lines.proofs.FlowTokens.{token_by, token_tests}
use Rattle.yaml_lines.proofs.QuotedSeams.{line_before}
use Rattle.yaml_flows.specs.FlowLaws.{closes_last}
use Rattle.yaml_flows.specs.Flows.{Found, mapped, next_part, part, parts_within, parts, after_flow_colon, flow_row_of, entry, distinct_flow_rows, list_at, table_at, text_node, text_node_at, node, is_end, whole, begins_list_or_table, flow_meaning}
use Rattle.yaml_flows.specs.Keys.{Row, keys_differ}

-- ---- tests

both : (a b : Bool) → (a && b) ≡ true → (a ≡ true) × (b ≡ true)
both true b e = (refl, e)
both false b e = absurd (cc)

or_none : (a b : Bool) → a ≡ false → b ≡ false → (a || b) ≡ false
or_none a b e f = ap₂ (λ x y. x || y) e f

or_true : (a : Bool) → (a || true) ≡ true
or_true true = refl
or_true false = refl

apart_by : (c k : ℕ) (test : ℕ → Bool) (b : Bool) → eqb c k ≡ b → test c ≡ false → test k ≡ true → b ≡ false
apart_by c k test true e f t = absurd (let same = ap test (eqb-true c k e) in cc)
apart_by c k test false e f t = refl

-- what one test tells apart isn't equal
apart : (c k : ℕ) (test : ℕ → Bool) → test c ≡ false → test k ≡ true → eqb c k ≡ false
apart c k test f t = apart_by c k test (eqb c k) refl f t

-- ---- one token

-- the tests of a token's first character
record Tests (st : Open) (c : ℕ) (cs : List ℕ) (opening closing other : Bool) : Type 0 where
  opens : is_opening c ≡ opening
  closes : is_closing c ≡ closing
  others : (eqb c 44 || is_key_end st.quoted c cs) ≡ other

tested : (st : Open) (c : ℕ) (cs : List ℕ) (opening closing other : Bool) → Tests st c cs opening closing other → behind_token st (c ∷ cs) ≡ token_by st cs (text_at (c ∷ cs)) opening closing other
tested st c cs opening closing other t =
    token_tests st c cs
    ∙ (ap (λ (b : Bool). token_by st cs (text_at (c ∷ cs)) b (is_closing c) (eqb c 44 || is_key_end st.quoted c cs)) t.opens
    ∙ (ap (λ (b : Bool). token_by st cs (text_at (c ∷ cs)) opening b (eqb c 44 || is_key_end st.quoted c cs)) t.closes
    ∙ ap (λ (b : Bool). token_by st cs (text_at (c ∷ cs)) opening closing b) t.others))

-- where a bracket is open after the token, the others follow
goes_on : (st : Open) (c : ℕ) (cs : List ℕ) (next : Behind) → behind_token st (c ∷ cs) ≡ next → is_closed next.state ≡ false → behind_all st (c ∷ cs) ≡ behind_all next.state (after_gap next.rest)
goes_on st c cs next is is_open =
    all_step st c cs
    ∙ (ap (λ (b : Behind). then_all (is_closed b.state) b) is
    ∙ ap (λ (b : Bool). then_all b next) is_open)

ends : (st : Open) (c : ℕ) (cs : List ℕ) (next : Behind) → behind_token st (c ∷ cs) ≡ next → is_closed next.state ≡ true → behind_all st (c ∷ cs) ≡ next
ends st c cs next is closed =
    all_step st c cs
    ∙ (ap (λ (b : Behind). then_all (is_closed b.state) b) is
    ∙ ap (λ (b : Bool). then_all b next) closed)

open_at : (d : ℕ) → eqb (suc d) 0 ≡ false
open_at d = ne_eqb (suc d) 0 (λ (e : suc d ≡ 0). omega arith)

opened : (d c : ℕ) (cs : List ℕ) → d < most_nodes → is_opening c ≡ true → behind_all (state d false) (c ∷ cs) ≡ behind_all (state (suc d) false) (after_gap cs)
opened d c cs few opens =
    let deeper : one_deeper d ≡ suc d = ap (λ (b : Bool). cond b (suc d) d) (lt-ltb d most_nodes few) in
    let next : Behind = record { state = state (suc d) false; rest = cs } in
    let is : behind_token (state d false) (c ∷ cs) ≡ next =
    tested (state d false) c cs true (is_closing c) (eqb c 44 || is_key_end false c cs) (record { opens = opens; closes = refl; others = refl })
    ∙ ap (λ (n : ℕ). record { state = state n false; rest = cs }) deeper in
    goes_on (state d false) c cs next is (open_at d)

-- what is open after a closing bracket after which `d` brackets are open, and what is left
abbrev behind_closing : ℕ → List ℕ → Behind
behind_closing zero rest = record { state = outside; rest = rest }
behind_closing (suc d) rest = behind_all (state (suc d) false) (after_gap rest)

closed_token : (d : ℕ) (quoted : Bool) (c : ℕ) (cs : List ℕ) → is_opening c ≡ false → is_closing c ≡ true → behind_token (state (suc d) quoted) (c ∷ cs) ≡ record { state = state d false; rest = cs }
closed_token d quoted c cs opens closes =
    let less : suc d - 1 ≡ d = omega arith in
    tested (state (suc d) quoted) c cs false true (eqb c 44 || is_key_end quoted c cs) (record { opens = opens; closes = closes; others = refl })
    ∙ ap (λ (n : ℕ). record { state = state n false; rest = cs }) less

closed : (d : ℕ) (quoted : Bool) (c : ℕ) (cs : List ℕ) → is_opening c ≡ false → is_closing c ≡ true → behind_all (state (suc d) quoted) (c ∷ cs) ≡ behind_closing d cs
closed zero quoted c cs opens closes = ends (state 1 quoted) c cs (record { state = outside; rest = cs }) (closed_token 0 quoted c cs opens closes) refl
closed (suc d) quoted c cs opens closes =
    goes_on (state (suc (suc d)) quoted) c cs (record { state = state (suc d) false; rest = cs }) (closed_token (suc d) quoted c cs opens closes) (open_at d)

separated : (d : ℕ) (quoted : Bool) (c : ℕ) (cs : List ℕ) → is_opening c ≡ false → is_closing c ≡ false → (eqb c 44 || is_key_end quoted c cs) ≡ true
    → behind_all (state (suc d) quoted) (c ∷ cs) ≡ behind_all (state (suc d) false) (after_gap cs)
separated d quoted c cs opens closes others =
    goes_on (state (suc d) quoted) c cs (record { state = state (suc d) false; rest = cs })
    (tested (state (suc d) quoted) c cs false false true (record { opens = opens; closes = closes; others = others })) (open_at d)

-- ---- a text

-- the first character of a text is no other token
record IsText (c : ℕ) (cs : List ℕ) : Type 0 where
  opens : is_opening c ≡ false
  closes : is_closing c ≡ false
  others : (eqb c 44 || is_key_end false c cs) ≡ false

quoted_first : (c : ℕ) (cs : List ℕ) → is_quote c ≡ true → IsText c cs
quoted_first c cs q = by_quote (eqb c 39) (eqb c 34) refl refl q
  where
    by_quote : (a b : Bool) → eqb c 39 ≡ a → eqb c 34 ≡ b → (a || b) ≡ true → IsText c cs
    by_quote true b e f h = let is = eqb-true c 39 e in record {
      opens = ap is_opening is;
      closes = ap is_closing is;
      others = ap (λ (x : ℕ). eqb x 44 || is_key_end false x cs) is;
    }
    by_quote false true e f h = let is = eqb-true c 34 f in record {
      opens = ap is_opening is;
      closes = ap is_closing is;
      others = ap (λ (x : ℕ). eqb x 44 || is_key_end false x cs) is;
    }
    by_quote false false e f h = absurd (cc)

abbrev no_text : Option FlowText
no_text = None

never : (b : Bool) → cond b no_text no_text ≡ no_text
never true = refl
never false = refl

-- where a key's colon stands, no plain text begins
colon_no_text : (c : ℕ) (cs : List ℕ) → (eqb c 58 && ends_key cs) ≡ true → plain_at (c ∷ cs) ≡ None
unfolding plain_at plain_extent trim_end
colon_no_text c cs e =
    let line : List ℕ = c ∷ cs in
    let front : Bool = is_flow_indicator c || is_feed c || (false && eqb c 35) in
    let more : ℕ = plain_extent (is_blank c) cs in
    let give : Bool → Option FlowText = λ b. cond (begins_plain line) (plain_text (trim_end (take (cond b 0 (1 + more)) line)) line) None in
    ap (λ (b : Bool). give (front || b)) e ∙ (ap give (or_true front) ∙ never (begins_plain line))

colon_by : (b : Bool) (c : ℕ) (cs : List ℕ) (t : FlowText) → (eqb c 58 && ends_key cs) ≡ b → plain_at (c ∷ cs) ≡ Some t → b ≡ false
colon_by true c cs t e is = absurd (let none = colon_no_text c cs e in cc)
colon_by false c cs t e is = refl

begun : (b : Bool) (o : Option FlowText) (t : FlowText) → cond b o None ≡ Some t → b ≡ true
begun true o t e = refl
begun false o t e = absurd (cc)

negated : (b : Bool) → not b ≡ true → b ≡ false
negated true e = absurd (cc)
negated false e = refl

plain_begun : (c : ℕ) (cs : List ℕ) (t : FlowText) → plain_at (c ∷ cs) ≡ Some t → is_indicator c ≡ false
unfolding plain_at begins_plain
plain_begun c cs t e =
    let begins = begun (begins_plain (c ∷ cs)) (plain_text (trim_end (take (plain_extent false (c ∷ cs)) (c ∷ cs))) (c ∷ cs)) t e in
    negated (is_indicator c) (both (not (is_indicator c)) (not (is_mark_character c && blank_or_line_end cs)) begins).0

plain_first : (c : ℕ) (cs : List ℕ) (t : FlowText) → plain_at (c ∷ cs) ≡ Some t → IsText c cs
plain_first c cs t e =
    let none = plain_begun c cs t e in
    let far : (k : ℕ) → is_indicator k ≡ true → eqb c k ≡ false = λ k h. apart c k is_indicator none h in record {
      opens = or_none (eqb c 91) (eqb c 123) (far 91 refl) (far 123 refl);
      closes = or_none (eqb c 93) (eqb c 125) (far 93 refl) (far 125 refl);
      others = or_none (eqb c 44) (is_key_end false c cs) (far 44 refl) (colon_by (eqb c 58 && ends_key cs) c cs t refl e);
    }

text_first_by : (b : Bool) (c : ℕ) (cs : List ℕ) (t : FlowText) → is_quote c ≡ b → cond b (quoted_at (c ∷ cs)) (plain_at (c ∷ cs)) ≡ Some t → IsText c cs
text_first_by true c cs t q e = quoted_first c cs q
text_first_by false c cs t q e = plain_first c cs t e

text_first : (c : ℕ) (cs : List ℕ) (t : FlowText) → text_at (c ∷ cs) ≡ Some t → IsText c cs
unfolding text_at
text_first c cs t e = text_first_by (is_quote c) c cs t refl e

text_none : text_at [] ≡ None
unfolding text_at plain_at begins_plain
text_none = refl

text_walk : (d : ℕ) (cs : List ℕ) (t : FlowText) → text_at cs ≡ Some t → behind_all (state (suc d) false) cs ≡ behind_all (state (suc d) t.quoted) (after_gap t.rest)
text_walk d [] t e = absurd (let none = text_none in cc)
text_walk d (c ∷ cs) t e =
    let first = text_first c cs t e in
    goes_on (state (suc d) false) c cs (record { state = state (suc d) t.quoted; rest = t.rest })
    (tested (state (suc d) false) c cs false false false (record { opens = first.opens; closes = first.closes; others = first.others })
    ∙ ap (behind_text (suc d) cs) e)
    (open_at d)

-- ---- parts between commas

-- what is read, where `suc d` brackets are open, leaves as many open
abbrev Walks : {A : Type 0} → ℕ → (List ℕ → Option (Found A)) → Type 0
Walks {A} d read = (cs : List ℕ) (x : Found A) → read cs ≡ Some x → (q : Bool) × (behind_all (state (suc d) false) cs ≡ behind_all (state (suc d) q) (after_gap x.rest))

module _ (d close : ℕ) (opens : is_opening close ≡ false) (closes : is_closing close ≡ true) where
  closed_alike : (quoted : Bool) (c : ℕ) (cs : List ℕ) → eqb c close ≡ true → behind_all (state (suc d) quoted) (c ∷ cs) ≡ behind_closing d cs
  closed_alike quoted c cs e =
      let is = eqb-true c close e in closed d quoted c cs (ap is_opening is ∙ opens) (ap is_closing is ∙ closes)

  next_by : (a b : Bool) (quoted : Bool) (c : ℕ) (cs next : List ℕ) → eqb c 44 ≡ a → eqb c close ≡ b → cond a (Some (after_gap cs)) (cond b (Some (c ∷ cs)) None) ≡ Some next
      → behind_all (state (suc d) quoted) (c ∷ cs) ≡ behind_all (state (suc d) false) next
  next_by true b quoted c cs next e f is =
      let comma = eqb-true c 44 e in
      let here : after_gap cs ≡ next = cc in
      separated d quoted c cs (ap is_opening comma) (ap is_closing comma) (ap (λ (x : Bool). x || is_key_end quoted c cs) e) ∙ ap (behind_all (state (suc d) false)) here
  next_by false true quoted c cs next e f is =
      let here : c ∷ cs ≡ next = cc in
      closed_alike quoted c cs f ∙ (sym (closed_alike false c cs f) ∙ ap (behind_all (state (suc d) false)) here)
  next_by false false quoted c cs next e f is = absurd (cc)

  next_walk : (quoted : Bool) (cs next : List ℕ) → next_part close cs ≡ Some next → behind_all (state (suc d) quoted) cs ≡ behind_all (state (suc d) false) next
  next_walk quoted [] next e = absurd (cc)
  next_walk quoted (c ∷ cs) next e = next_by (eqb c 44) (eqb c close) quoted c cs next refl refl e

-- a value in front of what follows it, where something does
abbrev with_rest : {A : Type 0} → A → Option (List ℕ) → Option (Found A)
with_rest value o = option_map (λ rest. record { value = value; rest = rest }) o

rest_is : {A : Type 0} (value : A) (o : Option (List ℕ)) (x : Found A) → with_rest value o ≡ Some x → o ≡ Some x.rest
rest_is value None x e = absurd (cc)
rest_is {A} value (Some rest) x e =
    let found : Found A = record { value = value; rest = rest } in
    let same : found ≡ x = cc in ap (λ (f : Found A). Some f.rest) same

-- a reading that gave the same with another value
record Same (A : Type 0) (o : Option (Found A)) (rest : List ℕ) : Type 0 where
  found : Found A
  is : o ≡ Some found
  there : found.rest ≡ rest

same_rest : {A B : Type 0} (f : A → B) (o : Option (Found A)) (x : Found B) → option_map (mapped f) o ≡ Some x → Same A o x.rest
same_rest f None x e = absurd (cc)
same_rest {A} {B} f (Some found) x e =
    let other : Found B = mapped f found in
    let same : other ≡ x = cc in record { found = found; is = refl; there = ap (λ (y : Found B). y.rest) same }

module _ {A : Type 0} (d close : ℕ) (opens : is_opening close ≡ false) (closes : is_closing close ≡ true) (read : List ℕ → Option (Found A)) (walks : Walks d read) where
  abbrev part_from : Option (Found A) → Option (Found A)
  part_from o = option_and_then (λ found. with_rest found.value (next_part close (after_gap found.rest))) o

  part_by : (cs : List ℕ) (o : Option (Found A)) (x : Found A) → read cs ≡ o → part_from o ≡ Some x → behind_all (state (suc d) false) cs ≡ behind_all (state (suc d) false) x.rest
  part_by cs None x is e = absurd (cc)
  part_by cs (Some found) x is e =
      let here = walks cs found is in
      here.1 ∙ next_walk d close opens closes here.0 (after_gap found.rest) x.rest (rest_is found.value (next_part close (after_gap found.rest)) x e)

  part_walk : (cs : List ℕ) (x : Found A) → part close read cs ≡ Some x → behind_all (state (suc d) false) cs ≡ behind_all (state (suc d) false) x.rest
  part_walk cs x e = part_by cs (read cs) x refl e

  -- so many parts leave what they should
  abbrev Through : ℕ → Type 0
  Through most = (cs : List ℕ) (x : Found (List A)) → parts_within close read most cs ≡ Some x → behind_all (state (suc d) false) cs ≡ behind_closing d x.rest

  abbrev more_from : ℕ → Option (Found A) → Option (Found (List A))
  more_from most o = option_and_then (λ found. option_map (mapped (λ more. found.value ∷ more)) (parts_within close read most found.rest)) o

  abbrev parts_from : Bool → ℕ → List ℕ → Option (Found (List A))
  parts_from b most cs = cond b (Some (record { value = []; rest = drop 1 cs })) (more_from most (part close read cs))

  end_by : (cs : List ℕ) (x : Found (List A)) → begins_with close cs ≡ true → parts_from true 0 cs ≡ Some x → behind_all (state (suc d) false) cs ≡ behind_closing d x.rest
  end_by [] x is e = absurd (cc)
  end_by (c ∷ cs) x is e =
      let here : Found (List A) = record { value = []; rest = cs } in
      let same : here ≡ x = cc in
      closed_alike d close opens closes false c cs is ∙ ap (λ (f : Found (List A)). behind_closing d f.rest) same

  more_by : (most : ℕ) (cs : List ℕ) (x : Found (List A)) (o : Option (Found A)) → Through most → part close read cs ≡ o → more_from most o ≡ Some x
      → behind_all (state (suc d) false) cs ≡ behind_closing d x.rest
  more_by most cs x None through is e = absurd (cc)
  more_by most cs x (Some found) through is e =
      let push : List A → List A = λ more. found.value ∷ more in
      let more = same_rest push (parts_within close read most found.rest) x e in
      part_walk cs found is ∙ (through found.rest more.found more.is ∙ ap (behind_closing d) more.there)

  parts_by : (b : Bool) (most : ℕ) (cs : List ℕ) (x : Found (List A)) → Through most → begins_with close cs ≡ b → parts_from b most cs ≡ Some x
      → behind_all (state (suc d) false) cs ≡ behind_closing d x.rest
  parts_by true most cs x through is e = end_by cs x is e
  parts_by false most cs x through is e = more_by most cs x (part close read cs) through refl e

  parts_walk : (most : ℕ) → Through most
  unfolding parts_within
  parts_walk zero = λ cs x e. absurd (cc)
  parts_walk (suc most) = λ cs x e. parts_by (begins_with close cs) most cs x (parts_walk most) refl e

-- ---- a table's entries

key_first : (quoted : Bool) (c : ℕ) (cs : List ℕ) → is_key_end quoted c cs ≡ true → c ≡ 58
key_first quoted c cs e = eqb-true c 58 (both (eqb c 58) (quoted || ends_key cs) e).0

colon_walk_by : (b : Bool) (d : ℕ) (quoted : Bool) (c : ℕ) (cs value : List ℕ) → is_key_end quoted c cs ≡ b → cond b (Some cs) None ≡ Some value
    → behind_all (state (suc d) quoted) (c ∷ cs) ≡ behind_all (state (suc d) false) (after_gap value)
colon_walk_by true d quoted c cs value is e =
    let colon = key_first quoted c cs is in
    let here : cs ≡ value = cc in
    let others : (eqb c 44 || is_key_end quoted c cs) ≡ true = ap (λ (b : Bool). eqb c 44 || b) is ∙ or_true (eqb c 44) in
    separated d quoted c cs (ap is_opening colon) (ap is_closing colon) others ∙ ap (λ (ds : List ℕ). behind_all (state (suc d) false) (after_gap ds)) here
colon_walk_by false d quoted c cs value is e = absurd (cc)

colon_walk : (d : ℕ) (quoted : Bool) (cs value : List ℕ) → after_flow_colon quoted cs ≡ Some value → behind_all (state (suc d) quoted) cs ≡ behind_all (state (suc d) false) (after_gap value)
colon_walk d quoted [] value e = absurd (cc)
colon_walk d quoted (c ∷ cs) value e = colon_walk_by (is_key_end quoted c cs) d quoted c cs value refl e

abbrev row_from : (List ℕ → Option (Found Meaning)) → FlowText → Option (List ℕ) → Option (Found Row)
row_from read key o = option_and_then (λ value. option_map (mapped (λ m. (key.text, m))) (read (after_gap value))) o

value_by : (d : ℕ) (read : List ℕ → Option (Found Meaning)) (key : FlowText) (o : Option (List ℕ)) (x : Found Row) → Walks d read → after_flow_colon key.quoted (after_gap key.rest) ≡ o
    → row_from read key o ≡ Some x
    → (q : Bool) × (behind_all (state (suc d) key.quoted) (after_gap key.rest) ≡ behind_all (state (suc d) q) (after_gap x.rest))
value_by d read key None x walks is e = absurd (cc)
value_by d read key (Some value) x walks is e =
    let row : Meaning → Row = λ m. (key.text, m) in
    let same = same_rest row (read (after_gap value)) x e in
    let here = walks (after_gap value) same.found same.is in
    (here.0, colon_walk d key.quoted (after_gap key.rest) value is ∙ (here.1 ∙ ap (λ (rest : List ℕ). behind_all (state (suc d) here.0) (after_gap rest)) same.there))

entry_by : (d : ℕ) (read : List ℕ → Option (Found Meaning)) (cs : List ℕ) (o : Option FlowText) (x : Found Row) → Walks d read → text_at cs ≡ o → option_and_then (flow_row_of read) o ≡ Some x
    → (q : Bool) × (behind_all (state (suc d) false) cs ≡ behind_all (state (suc d) q) (after_gap x.rest))
entry_by d read cs None x walks is e = absurd (cc)
entry_by d read cs (Some key) x walks is e =
    let here = value_by d read key (after_flow_colon key.quoted (after_gap key.rest)) x walks refl e in (here.0, text_walk d cs key is ∙ here.1)

entry_walk : (d : ℕ) (read : List ℕ → Option (Found Meaning)) → Walks d read → Walks d (entry read)
entry_walk d read walks = λ cs x e. entry_by d read cs (text_at cs) x walks refl e

-- ---- nodes

list_walk : (d : ℕ) (read : List ℕ → Option (Found Meaning)) (cs : List ℕ) (x : Found Meaning) → Walks d read → list_at read cs ≡ Some x
    → behind_all (state (suc d) false) (after_gap cs) ≡ behind_closing d x.rest
list_walk d read cs x walks e =
    let same = same_rest (λ (ms : List Meaning). list (meanings_of ms)) (parts 93 read cs) x e in
    parts_walk d 93 refl refl read walks (length (after_gap cs)) (after_gap cs) same.found same.is ∙ ap (behind_closing d) same.there

distinct_by : (b : Bool) (found x : Found (List Row)) → cond b (Some found) None ≡ Some x → found ≡ x
distinct_by true found x e = cc
distinct_by false found x e = absurd (cc)

distinct_is : (o : Option (Found (List Row))) (x : Found (List Row)) → option_and_then distinct_flow_rows o ≡ Some x → o ≡ Some x
distinct_is None x e = absurd (cc)
distinct_is (Some found) x e = ap Some (distinct_by (keys_differ found.value) found x e)

table_walk : (d : ℕ) (read : List ℕ → Option (Found Meaning)) (cs : List ℕ) (x : Found Meaning) → Walks d read → table_at read cs ≡ Some x
    → behind_all (state (suc d) false) (after_gap cs) ≡ behind_closing d x.rest
table_walk d read cs x walks e =
    let same = same_rest (λ (rs : List Row). table (members_of rs)) (option_and_then distinct_flow_rows (parts 125 (entry read) cs)) x e in
    let rows = distinct_is (parts 125 (entry read) cs) same.found same.is in
    parts_walk d 125 refl refl (entry read) (entry_walk d read walks) (length (after_gap cs)) (after_gap cs) same.found rows ∙ ap (behind_closing d) same.there

abbrev node_by : Bool → Bool → (List ℕ → Option (Found Meaning)) → ℕ → List ℕ → Option (Found Meaning)
node_by a b read c cs = cond a (list_at read cs) (cond b (table_at read cs) (text_node_at (c ∷ cs)))

-- a list or a table, at any depth
bracket_walk : (a b : Bool) (d : ℕ) (read : List ℕ → Option (Found Meaning)) (c : ℕ) (cs : List ℕ) (x : Found Meaning) → d < most_nodes → Walks d read → eqb c 91 ≡ a → eqb c 123 ≡ b → (a || b) ≡ true
    → node_by a b read c cs ≡ Some x → behind_all (state d false) (c ∷ cs) ≡ behind_closing d x.rest
bracket_walk true b d read c cs x few walks f g h e =
    let is = eqb-true c 91 f in opened d c cs few (ap is_opening is) ∙ list_walk d read cs x walks e
bracket_walk false true d read c cs x few walks f g h e =
    let is = eqb-true c 123 g in opened d c cs few (ap is_opening is) ∙ table_walk d read cs x walks e
bracket_walk false false d read c cs x few walks f g h e = absurd (cc)

text_node_by : (d : ℕ) (cs : List ℕ) (o : Option FlowText) (x : Found Meaning) → text_at cs ≡ o → option_map text_node o ≡ Some x
    → (q : Bool) × (behind_all (state (suc d) false) cs ≡ behind_all (state (suc d) q) (after_gap x.rest))
text_node_by d cs None x is e = absurd (cc)
text_node_by d cs (Some t) x is e =
    let same : text_node t ≡ x = cc in
    (t.quoted, text_walk d cs t is ∙ ap (λ (f : Found Meaning). behind_all (state (suc d) t.quoted) (after_gap f.rest)) same)

-- a node where a bracket is open
inner_walk : (a b : Bool) (d : ℕ) (read : List ℕ → Option (Found Meaning)) (c : ℕ) (cs : List ℕ) (x : Found Meaning) → suc d < most_nodes → Walks (suc d) read → eqb c 91 ≡ a → eqb c 123 ≡ b
    → node_by a b read c cs ≡ Some x → (q : Bool) × (behind_all (state (suc d) false) (c ∷ cs) ≡ behind_all (state (suc d) q) (after_gap x.rest))
inner_walk true b d read c cs x few walks f g e = (false, bracket_walk true b (suc d) read c cs x few walks f g refl e)
inner_walk false true d read c cs x few walks f g e = (false, bracket_walk false true (suc d) read c cs x few walks f g refl e)
inner_walk false false d read c cs x few walks f g e = text_node_by d (c ∷ cs) (text_at (c ∷ cs)) x refl e

node_step : (room d : ℕ) (cs : List ℕ) (x : Found Meaning) → suc d < most_nodes → Walks (suc d) (node room) → node (suc room) cs ≡ Some x
    → (q : Bool) × (behind_all (state (suc d) false) cs ≡ behind_all (state (suc d) q) (after_gap x.rest))
unfolding node
node_step room d [] x few walks e = absurd (cc)
node_step room d (c ∷ cs) x few walks e = inner_walk (eqb c 91) (eqb c 123) d (node room) c cs x few walks refl refl e

nothing_in_no_room : (cs : List ℕ) → node zero cs ≡ None
unfolding node
nothing_in_no_room cs = refl

node_walk : (room d : ℕ) → suc d + room ≤ most_nodes → Walks d (node room)
node_walk zero d fits = λ cs x e. absurd (let none = nothing_in_no_room cs in cc)
node_walk (suc room) d fits =
    let few : suc d < most_nodes = omega arith in
    let left : suc (suc d) + room ≤ most_nodes = omega arith in
    λ cs x e. node_step room d cs x few (node_walk room (suc d) left) e

-- ---- the whole flow

-- the flow ends with its last bracket, after which no further line stands
record Closes (cs : List ℕ) : Type 0 where
  rest : List ℕ
  closed_there : behind_all outside cs ≡ record { state = outside; rest = rest }
  last_line : list_any is_feed rest ≡ false

whole_by : (b : Bool) (found : Found Meaning) (m : Meaning) → is_end found.rest ≡ b → cond b (Some found.value) None ≡ Some m → list_any is_feed found.rest ≡ false
whole_by true found m is e = negated (list_any is_feed found.rest) (both (is_nil (after_gap found.rest)) (not (list_any is_feed found.rest)) is).1
whole_by false found m is e = absurd (cc)

record Whole (o : Option (Found Meaning)) : Type 0 where
  found : Found Meaning
  is : o ≡ Some found
  last_line : list_any is_feed found.rest ≡ false

found_whole : (o : Option (Found Meaning)) (m : Meaning) → option_and_then whole o ≡ Some m → Whole o
found_whole None m e = absurd (cc)
found_whole (Some found) m e = record { found = found; is = refl; last_line = whole_by (is_end found.rest) found m refl e }

begins_by : (b : Bool) (o : Option Meaning) (m : Meaning) → cond b o None ≡ Some m → (b ≡ true) × (o ≡ Some m)
begins_by true o m e = (refl, e)
begins_by false o m e = absurd (cc)

top_walk : (room c : ℕ) (cs : List ℕ) (found : Found Meaning) → room ≤ most_nodes → (eqb c 91 || eqb c 123) ≡ true → node room (c ∷ cs) ≡ Some found
    → behind_all outside (c ∷ cs) ≡ record { state = outside; rest = found.rest }
unfolding node
top_walk zero c cs found fits begins e = absurd (cc)
top_walk (suc room) c cs found fits begins e =
    let few : 0 < most_nodes = omega arith in
    let left : 1 + room ≤ most_nodes = omega arith in
    bracket_walk (eqb c 91) (eqb c 123) 0 (node room) c cs found few (node_walk room 0 left) refl refl begins e

flow_walk : (room c : ℕ) (cs : List ℕ) (m : Meaning) → room ≤ most_nodes → flow_meaning room (c ∷ cs) ≡ Some m → Closes (c ∷ cs)
unfolding flow_meaning
flow_walk room c cs m fits e =
    let begun_by = begins_by (begins_list_or_table (c ∷ cs)) (option_and_then whole (node room (c ∷ cs))) m e in
    let read = found_whole (node room (c ∷ cs)) m begun_by.1 in record {
      rest = read.found.rest;
      closed_there = top_walk room c cs read.found fits begun_by.0 read.is;
      last_line = read.last_line;
    }

flow_begins : (room : ℕ) (cs : List ℕ) (m : Meaning) → flow_meaning room cs ≡ Some m → begins_list_or_table cs ≡ true
unfolding flow_meaning
flow_begins room cs m e = (begins_by (begins_list_or_table cs) (option_and_then whole (node room cs)) m e).0

-- ---- its lines

-- a bracket begins no gap
no_gap_by : (a b : Bool) (c : ℕ) (cs : List ℕ) → eqb c 91 ≡ a → eqb c 123 ≡ b → (a || b) ≡ true → after_start (c ∷ cs) ≡ c ∷ cs
unfolding behind_gap
no_gap_by true b c cs f g h = ap (λ (x : ℕ). cond (is_of_gap false true x) (behind_gap (in_comment false c) true cs) (c ∷ cs)) (eqb-true c 91 f)
no_gap_by false true c cs f g h = ap (λ (x : ℕ). cond (is_of_gap false true x) (behind_gap (in_comment false c) true cs) (c ∷ cs)) (eqb-true c 123 g)
no_gap_by false false c cs f g h = absurd (cc)

no_gap : (c : ℕ) (cs : List ℕ) → begins_list_or_table (c ∷ cs) ≡ true → after_start (c ∷ cs) ≡ c ∷ cs
no_gap c cs e = no_gap_by (eqb c 91) (eqb c 123) c cs refl refl e

a_feed : (cs s : List ℕ) → list_any is_feed (line_before s cs) ≡ true
a_feed [] s = refl
a_feed (c ∷ cs) s = ap (λ (b : Bool). is_feed c || b) (a_feed cs s) ∙ or_true (is_feed c)

-- the flow is over after these lines, and no further line stands there
record Ends (st : Open) (text : List ℕ) : Type 0 where
  rest : List ℕ
  there : behind_all st (after_start text) ≡ record { state = outside; rest = rest }
  last_line : list_any is_feed rest ≡ false

abbrev Opens : Open → List ℕ → Type 0
Opens st line = is_nil (after_start line) ≡ true → is_closed st ≡ false

-- a further line: the flow is open before it
line_by : (b : Bool) (here : Behind) (s : List ℕ) (rest : List ℕ) → is_closed here.state ≡ b → then_lines s here ≡ record { state = outside; rest = rest } → list_any is_feed rest ≡ false → b ≡ false
line_by false here s rest is e none = refl
line_by true here s rest is e none =
    let over : longer_behind s here ≡ record { state = outside; rest = rest } = ap (λ (b : Bool). cond b (longer_behind s here) (behind_all here.state (after_start s))) (sym is) ∙ e in
    let feed : list_any is_feed rest ≡ true = ap (λ (b : Behind). list_any is_feed b.rest) (sym over) ∙ a_feed here.rest s in
    absurd (cc)

skimmed : (st : Open) (line : List ℕ) → skim st line ≡ (behind_all st (after_start line)).state
unfolding skim
skimmed st line = refl

lines_walk : (lines : List (List ℕ)) (st : Open) (line : List ℕ) → Opens st line → Ends st (join_with_byte 10 (line ∷ lines)) → closes_last st (line ∷ lines) ≡ true
unfolding closes_last
lines_walk [] st line opens over = ap is_closed (skimmed st line) ∙ ap (λ (b : Behind). is_closed b.state) over.there
lines_walk (next ∷ lines) st line opens over =
    let s : List ℕ = join_with_byte 10 (next ∷ lines) in
    let here : Behind = behind_all st (after_start line) in
    let seam : then_lines s here ≡ record { state = outside; rest = over.rest } = sym (lines_seam s st line opens) ∙ over.there in
    let is_open : is_closed here.state ≡ false = line_by (is_closed here.state) here s over.rest refl seam over.last_line in
    let open_behind : is_closed (skim st line) ≡ false = ap is_closed (skimmed st line) ∙ is_open in
    let rest_there : behind_all here.state (after_start s) ≡ record { state = outside; rest = over.rest } =
    ap (λ (b : Bool). cond b (longer_behind s here) (behind_all here.state (after_start s))) (sym is_open) ∙ seam in
    let more : Ends (skim st line) s = record { rest = over.rest; there = ap (λ (x : Open). behind_all x (after_start s)) (skimmed st line) ∙ rest_there; last_line = over.last_line } in
    ap (λ (b : Bool). not b && closes_last (skim st line) (next ∷ lines)) open_behind ∙ lines_walk lines (skim st line) next (λ nothing. open_behind) more

nothing_read : (room : ℕ) (m : Meaning) → flow_meaning room [] ≡ Some m → ⊥
nothing_read room m e = let begins = flow_begins room [] m e in cc

first_by : (room c : ℕ) (cs : List ℕ) (lines : List (List ℕ)) (more : List ℕ) → join_with_byte 10 ((c ∷ cs) ∷ lines) ≡ c ∷ more → (m : Meaning) → room ≤ most_nodes
    → flow_meaning room (c ∷ more) ≡ Some m → closes_last outside ((c ∷ cs) ∷ lines) ≡ true
first_by room c cs lines more is m fits e =
    let begins = flow_begins room (c ∷ more) m e in
    let walk = flow_walk room c more m fits e in
    let opens : Opens outside (c ∷ cs) = λ nothing. absurd (let some = ap is_nil (no_gap c cs begins) in cc) in
    let over : Ends outside (join_with_byte 10 ((c ∷ cs) ∷ lines)) = record {
      rest = walk.rest;
      there = ap (λ (ds : List ℕ). behind_all outside (after_start ds)) is ∙ (ap (behind_all outside) (no_gap c more begins) ∙ walk.closed_there);
      last_line = walk.last_line;
    } in
    lines_walk lines outside (c ∷ cs) opens over

first_line : (room : ℕ) (line : List ℕ) (lines : List (List ℕ)) (m : Meaning) → room ≤ most_nodes → flow_meaning room (join_with_byte 10 (line ∷ lines)) ≡ Some m
    → closes_last outside (line ∷ lines) ≡ true
first_line room [] [] m fits e = absurd (nothing_read room m e)
first_line room [] (next ∷ lines) m fits e = absurd (let begins = flow_begins room (10 ∷ join_with_byte 10 (next ∷ lines)) m e in cc)
first_line room (c ∷ cs) [] m fits e = first_by room c cs [] cs refl m fits e
first_line room (c ∷ cs) (next ∷ lines) m fits e = first_by room c cs (next ∷ lines) (cs ++ 10 ∷ join_with_byte 10 (next ∷ lines)) refl m fits e

pub closes : (room : ℕ) (lines : List (List ℕ)) (m : Meaning) → room ≤ most_nodes → flow_meaning room (join_with_byte 10 lines) ≡ Some m → closes_last outside lines ≡ true
closes room [] m fits e = absurd (nothing_read room m e)
closes room (line ∷ lines) m fits e = first_line room line lines m fits e
