-- What a line's last value holds, the line holds.
use Rattle.std.proofs.Common.{◌≡◌, ℕ, zero, suc, ◌+◌, ◌*◌, Bool, true, false, cond, not, ◌&&◌, ◌||◌, eqb, List, [], ◌∷◌, ◌++◌, length, drop, Option, Some, None, option_map, option_and_then, refl, ap₂}
use Rattle.std.specs.List.{prefix_len, list_all, list_any}
use Rattle.std.specs.Char.{encode_utf8}
use Rattle.yaml_lines.specs.BlockTexts.{LineText, spaces}
use Rattle.yaml_lines.specs.Characters.{is_blank, blank_or_end, comment_or_end, trim_start}
use Rattle.yaml_lines.specs.Entries.{KeyAndValue, value_behind, plain_entry, behind_colon, quoted_entry, entry_of_line}
use Rattle.yaml_lines.specs.LineLaws.{is_block, begins_text, holds_no_bar}
use Rattle.yaml_lines.specs.Lines.{ColumnValue, value_at, last_value}
use Rattle.yaml_lines.specs.Plain.{begins_plain, Sides, before_side, sides_of}
use Rattle.yaml_lines.specs.Quoted.{QuotedStep, Quoted, is_quote, behind, after_quote, single_step, coded, pair_of, two_digits, four_digits, named, escaped, double_step, step_of, quoted_within, quoted_of}

both : (a b : Bool) → (a && b) ≡ true → (a ≡ true) × (b ≡ true)
both true b e = (refl, e)
both false b e = absurd (cc)

-- characters that all pass a test
module _ (p : ℕ → Bool) where
  abbrev Held : List ℕ → Type 0
  Held cs = list_all p cs ≡ true

  -- what is given, if something is, holds such characters
  abbrev Each : {A : Type 0} → (A → List ℕ) → Option A → Type 0
  Each rest None = Unit {0}
  Each rest (Some x) = Held (rest x)

  held_behind : (c : ℕ) (cs : List ℕ) → Held (c ∷ cs) → Held cs
  held_behind c cs h = (both (p c) (list_all p cs) h).1

  held_drop : (n : ℕ) (cs : List ℕ) → Held cs → Held (drop n cs)
  held_drop zero cs h = h
  held_drop (suc n) [] h = h
  held_drop (suc n) (c ∷ cs) h = held_drop n cs (held_behind c cs h)

  -- ---- a quoted text

  abbrev OfStep : Option QuotedStep → Type 0
  OfStep o = Each (λ step. step.rest) o

  abbrev OfQuoted : Option Quoted → Type 0
  OfQuoted o = Each (λ q. q.rest) o

  after_by : (b : Bool) (c : ℕ) (cs : List ℕ) → Held (c ∷ cs) → OfStep (Some (cond b (record { character = Some 39; rest = cs }) (record { character = None; rest = c ∷ cs })))
  after_by true c cs h = held_behind c cs h
  after_by false c cs h = h

  after_held : (cs : List ℕ) → Held cs → OfStep (Some (after_quote cs))
  after_held [] h = h
  after_held (c ∷ cs) h = after_by (eqb c 39) c cs h

  single_by : (a b : Bool) (c : ℕ) (cs : List ℕ) → Held cs → OfStep (cond a (Some (after_quote cs)) (cond b None (Some (record { character = Some c; rest = cs }))))
  single_by true b c cs h = after_held cs h
  single_by false true c cs h = tt
  single_by false false c cs h = h

  single_held : (cs : List ℕ) → Held cs → OfStep (single_step cs)
  unfolding single_step
  single_held [] h = tt
  single_held (c ∷ cs) h = single_by (eqb c 39) (eqb c 10) c cs (held_behind c cs h)

  coded_by : (b : Bool) (code : ℕ) (rest : List ℕ) → Held rest → OfStep (cond b None (Some (record { character = Some code; rest = rest })))
  coded_by true code rest h = tt
  coded_by false code rest h = h

  coded_held : (code : ℕ) (rest : List ℕ) → Held rest → OfStep (coded rest code)
  coded_held code rest h = coded_by _ code rest h

  two_by : (o : Option ℕ) (rest : List ℕ) → Held rest → OfStep (option_and_then (coded rest) o)
  two_by None rest h = tt
  two_by (Some code) rest h = coded_held code rest h

  two_held : (cs : List ℕ) → Held cs → OfStep (two_digits cs)
  unfolding two_digits
  two_held [] h = tt
  two_held (a ∷ []) h = tt
  two_held (a ∷ b ∷ rest) h = two_by (pair_of a b) rest (held_behind b rest (held_behind a (b ∷ rest) h))

  four_by : (o q : Option ℕ) (rest : List ℕ) → Held rest → OfStep (option_and_then (λ high. option_and_then (λ low. coded rest (high * 256 + low)) q) o)
  four_by None q rest h = tt
  four_by (Some high) None rest h = tt
  four_by (Some high) (Some low) rest h = coded_held (high * 256 + low) rest h

  four_held : (cs : List ℕ) → Held cs → OfStep (four_digits cs)
  unfolding four_digits
  four_held [] h = tt
  four_held (a ∷ []) h = tt
  four_held (a ∷ b ∷ []) h = tt
  four_held (a ∷ b ∷ c ∷ []) h = tt
  four_held (a ∷ b ∷ c ∷ d ∷ rest) h =
      four_by (pair_of a b) (pair_of c d) rest (held_behind d rest (held_behind c (d ∷ rest) (held_behind b (c ∷ d ∷ rest) (held_behind a (b ∷ c ∷ d ∷ rest) h))))

  named_by : (o : Option ℕ) (cs : List ℕ) → Held cs → OfStep (option_map (λ d. record { character = Some d; rest = cs }) o)
  named_by None cs h = tt
  named_by (Some d) cs h = h

  escaped_by : (a b : Bool) (c : ℕ) (cs : List ℕ) → Held cs → OfStep (cond a (two_digits cs) (cond b (four_digits cs) (option_map (λ d. record { character = Some d; rest = cs }) (named c))))
  escaped_by true b c cs h = two_held cs h
  escaped_by false true c cs h = four_held cs h
  escaped_by false false c cs h = named_by (named c) cs h

  escaped_held : (cs : List ℕ) → Held cs → OfStep (escaped cs)
  unfolding escaped
  escaped_held [] h = tt
  escaped_held (c ∷ cs) h = escaped_by (eqb c 120) (eqb c 117) c cs (held_behind c cs h)

  double_by : (a b d : Bool) (c : ℕ) (cs : List ℕ) → Held cs
      → OfStep (cond a (Some (record { character = None; rest = cs })) (cond b (escaped cs) (cond d None (Some (record { character = Some c; rest = cs })))))
  double_by true b d c cs h = h
  double_by false true d c cs h = escaped_held cs h
  double_by false false true c cs h = tt
  double_by false false false c cs h = h

  double_held : (cs : List ℕ) → Held cs → OfStep (double_step cs)
  unfolding double_step
  double_held [] h = tt
  double_held (c ∷ cs) h = double_by (eqb c 34) (eqb c 92) (eqb c 10) c cs (held_behind c cs h)

  step_by : (b : Bool) (cs : List ℕ) → Held cs → OfStep (cond b (single_step cs) (double_step cs))
  step_by true cs h = single_held cs h
  step_by false cs h = double_held cs h

  front_held : (c : ℕ) (o : Option Quoted) → OfQuoted o → OfQuoted (option_map (λ q. record { text = encode_utf8 c ++ q.text; rest = q.rest }) o)
  front_held c None h = tt
  front_held c (Some q) h = h

  behind_held : (read : List ℕ → Option Quoted) (rest : List ℕ) (character : Option ℕ) → ((cs : List ℕ) → Held cs → OfQuoted (read cs)) → Held rest → OfQuoted (behind read rest character)
  behind_held read rest None more h = h
  behind_held read rest (Some c) more h = front_held c (read rest) (more rest h)

  steps_held : (read : List ℕ → Option Quoted) (o : Option QuotedStep) → ((cs : List ℕ) → Held cs → OfQuoted (read cs)) → OfStep o
      → OfQuoted (option_and_then (λ step. behind read step.rest step.character) o)
  steps_held read None more h = tt
  steps_held read (Some step) more h = behind_held read step.rest step.character more h

  within_held : (mark most : ℕ) (cs : List ℕ) → Held cs → OfQuoted (quoted_within mark most cs)
  unfolding quoted_within
  within_held mark zero cs h = tt
  within_held mark (suc most) cs h = steps_held (quoted_within mark most) (step_of mark cs) (within_held mark most) (step_by (eqb mark 39) cs h)

  quoted_by : (b : Bool) (mark : ℕ) (cs : List ℕ) → Held cs → OfQuoted (cond b (quoted_within mark (length cs) cs) None)
  quoted_by true mark cs h = within_held mark (length cs) cs h
  quoted_by false mark cs h = tt

  -- ---- an entry

  abbrev OfEntry : Option KeyAndValue → Type 0
  OfEntry o = Each (λ entry. entry.value) o

  abbrev OfSides : Option Sides → Type 0
  OfSides o = Each (λ sides. sides.behind) o

  sides_by : (a b : Bool) (c : ℕ) (cs : List ℕ) (o : Option Sides) → Held cs → OfSides o → OfSides (cond a None (cond b (Some (record { before = []; behind = cs })) (option_map (before_side c) o)))
  sides_by true b c cs o h more = tt
  sides_by false true c cs o h more = h
  sides_by false false c cs None h more = tt
  sides_by false false c cs (Some sides) h more = more

  sides_held : (free : Bool) (cs : List ℕ) → Held cs → OfSides (sides_of free cs)
  unfolding sides_of
  sides_held free [] h = tt
  sides_held free (c ∷ cs) h =
      let behind = held_behind c cs h in sides_by (free && eqb c 35) (eqb c 58 && blank_or_end cs) c cs (sides_of (is_blank c) cs) behind (sides_held (is_blank c) cs behind)

  value_by : (b : Bool) (cs : List ℕ) → Held cs → Held (cond b [] cs)
  value_by true cs h = refl
  value_by false cs h = h

  value_held : (cs : List ℕ) → Held cs → Held (value_behind cs)
  value_held cs h = value_by (comment_or_end (trim_start cs)) (trim_start cs) (held_drop (prefix_len is_blank cs) cs h)

  plain_held : (o : Option Sides) → OfSides o → OfEntry (option_map plain_entry o)
  plain_held None h = tt
  plain_held (Some sides) h = value_held sides.behind h

  colon_by : (b : Bool) (text cs : List ℕ) → Held cs → OfEntry (option_map (λ ds. record { key = text; value = value_behind ds }) (cond b (Some cs) None))
  colon_by true text cs h = value_held cs h
  colon_by false text cs h = tt

  colon_held : (text cs : List ℕ) → Held cs → OfEntry (option_map (λ ds. record { key = text; value = value_behind ds }) (behind_colon cs))
  colon_held text [] h = tt
  colon_held text (c ∷ cs) h = colon_by (eqb c 58 && blank_or_end cs) text cs (held_behind c cs h)

  quoted_held : (o : Option Quoted) → OfQuoted o → OfEntry (option_and_then quoted_entry o)
  quoted_held None h = tt
  quoted_held (Some q) h = colon_held q.text (trim_start q.rest) (held_drop (prefix_len is_blank q.rest) q.rest h)

  entry_by : (a b : Bool) (o : Option Quoted) (q : Option Sides) → OfQuoted o → OfSides q → OfEntry (cond a (option_and_then quoted_entry o) (cond b (option_map plain_entry q) None))
  entry_by true b o q h k = quoted_held o h
  entry_by false true o q h k = plain_held q k
  entry_by false false o q h k = tt

  entry_held : (c : ℕ) (cs : List ℕ) → Held (c ∷ cs) → OfEntry (entry_of_line (c ∷ cs))
  unfolding entry_of_line quoted_of
  entry_held c cs h =
      entry_by (is_quote c) (begins_plain (c ∷ cs)) (cond (is_quote c) (quoted_within c (length cs) cs) None) (sides_of true (c ∷ cs)) (quoted_by (is_quote c) c cs (held_behind c cs h))
      (sides_held true (c ∷ cs) h)

  -- ---- the last value

  abbrev OfValue : Option ColumnValue → Type 0
  OfValue o = Each (λ value. value.content) o

  at_held : (at : ℕ) (dash : Option ℕ) (content : List ℕ) (o : Option KeyAndValue) → Held content → OfEntry o → OfValue (value_at at dash content o)
  at_held at None content None h k = tt
  at_held at (Some column) content None h k = h
  at_held at dash content (Some entry) h k = k

  last_by : (a b : Bool) (blank dashed here : Option ColumnValue) → OfValue blank → OfValue dashed → OfValue here → OfValue (cond a blank (cond b dashed here))
  last_by true b blank dashed here f g h = f
  last_by false true blank dashed here f g h = g
  last_by false false blank dashed here f g h = h

  last_held : (at : ℕ) (dash : Option ℕ) (cs : List ℕ) → Held cs → OfValue (last_value at dash cs)
  unfolding last_value
  last_held at dash [] h = tt
  last_held at dash (c ∷ cs) h =
      let behind = held_behind c cs h in
      last_by (is_blank c) (eqb c 45 && blank_or_end cs) (last_value (at + 1) dash cs) (last_value (at + 1) (Some at) cs) (value_at at dash (c ∷ cs) (entry_of_line (c ∷ cs)))
      (last_held (at + 1) dash cs behind) (last_held (at + 1) (Some at) cs behind) (at_held at dash (c ∷ cs) (entry_of_line (c ∷ cs)) h (entry_held c cs h))

-- ---- no block text

neither_bar : ℕ → Bool
neither_bar c = not (eqb c 124 || eqb c 62)

negated : (b : Bool) → not b ≡ true → b ≡ false
negated true e = absurd (cc)
negated false e = refl

no_block : (value : Option ColumnValue) → OfValue neither_bar value → is_block value ≡ false
unfolding neither_bar
no_block None h = refl
no_block (Some value) h = no_bar value.content h
  where
    no_bar : (cs : List ℕ) → Held neither_bar cs → is_block (Some (record { column = 0; content = cs })) ≡ false
    no_bar [] h = refl
    no_bar (c ∷ cs) h = negated (eqb c 124 || eqb c 62) (both (neither_bar c) (list_all neither_bar cs) h).0

no_text : (line : LineText) → holds_no_bar line ≡ true → begins_text line ≡ false
unfolding neither_bar
no_text line h =
    no_block (last_value (spaces line) None (drop (spaces line) line.text)) (last_held neither_bar (spaces line) None (drop (spaces line) line.text) (held_drop neither_bar (spaces line) line.text h))

or_none : (a b : Bool) → a ≡ false → b ≡ false → (a || b) ≡ false
or_none a b e f = ap₂ (λ x y. x || y) e f

pub no_texts : (lines : List LineText) → list_all holds_no_bar lines ≡ true → list_any begins_text lines ≡ false
no_texts [] h = refl
no_texts (line ∷ lines) h =
    let parts = both (holds_no_bar line) (list_all holds_no_bar lines) h in or_none (begins_text line) (list_any begins_text lines) (no_text line parts.0) (no_texts lines parts.1)
