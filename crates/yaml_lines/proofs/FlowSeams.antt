-- No token of a flow goes over a line's end: what is open after some lines is what is open after the first of them, and
-- then after the others.
use Rattle.std.proofs.Common.{◌≡◌, ℕ, zero, suc, ◌+◌, ◌-◌, ◌≤◌, Bool, true, false, cond, not, ◌&&◌, ◌||◌, eqb, List, [], ◌∷◌, length, take, drop, Option, Some, None, option_map, refl, sym, ap, ◌∙◌, arith, length-drop}
use Rattle.std.proofs.lemmas.List.{length-take-le, take-append-le, drop-append-le}
use Rattle.std.specs.Str.{encode_utf8_all}
use Rattle.yaml_lines.specs.Characters.{is_blank, is_nil}
use Rattle.yaml_lines.specs.FlowGaps.{is_feed, blank_or_line_end, is_of_gap, in_comment, behind_gap, after_gap, after_start}
use Rattle.yaml_lines.specs.FlowLines.{is_closed, is_opening, is_closing, Behind, behind_text, behind_token, behind_tokens, behind_all}
use Rattle.yaml_lines.specs.FlowTexts.{is_flow_indicator, ends_key, is_key_end, begins_plain, ends_plain, plain_extent, FlowText, plain_text, plain_at, quoted_text, quoted_at, text_at}
use Rattle.yaml_lines.specs.Plain.{is_indicator, is_mark_character, trim_end}
use Rattle.yaml_lines.specs.Quoted.{Quoted, begins_quoted, quoted_of}
use Rattle.yaml_lines.specs.declared.flow_state.FlowState.{FlowState}
use Rattle.yaml_lines.proofs.FlowTokens.{token_by, token_tests, then_tokens, tokens_nil, tokens_step}
use Rattle.yaml_lines.proofs.QuotedSeams.{line_before, longer_quoted, quoted_seam, Within, quoted_shorter}

abbrev longer : List ℕ → FlowText → FlowText
longer s t = record { text = t.text; quoted = t.quoted; rest = line_before s t.rest }

-- ---- a plain text

key_end_seam : (cs s : List ℕ) → ends_key (line_before s cs) ≡ ends_key cs
key_end_seam [] s = refl
key_end_seam (c ∷ cs) s = refl

line_end_seam : (cs s : List ℕ) → blank_or_line_end (line_before s cs) ≡ blank_or_line_end cs
line_end_seam [] s = refl
line_end_seam (c ∷ cs) s = refl

begins_seam : (c : ℕ) (cs s : List ℕ) → begins_plain (c ∷ line_before s cs) ≡ begins_plain (c ∷ cs)
unfolding begins_plain
begins_seam c cs s = ap (λ (b : Bool). not (is_indicator c) && not (is_mark_character c && b)) (line_end_seam cs s)

extent_seam : (blank : Bool) (cs s : List ℕ) → plain_extent blank (line_before s cs) ≡ plain_extent blank cs
unfolding plain_extent
extent_seam blank [] s = refl
extent_seam blank (c ∷ cs) s =
    ap (λ (b : Bool). cond (is_flow_indicator c || is_feed c || (blank && eqb c 35) || (eqb c 58 && b)) 0 (1 + plain_extent (is_blank c) (line_before s cs))) (key_end_seam cs s)
    ∙ ap (λ (n : ℕ). cond (ends_plain blank (c ∷ cs)) 0 (1 + n)) (extent_seam (is_blank c) cs s)

extent_fits : (blank : Bool) (cs : List ℕ) → plain_extent blank cs ≤ length cs
unfolding plain_extent
extent_fits blank [] = omega arith
extent_fits blank (c ∷ cs) = fits_by (ends_plain blank (c ∷ cs)) (plain_extent (is_blank c) cs) (length cs) (extent_fits (is_blank c) cs)
  where
    fits_by : (b : Bool) (k n : ℕ) → k ≤ n → cond b 0 (1 + k) ≤ suc n
    fits_by true k n h = omega arith
    fits_by false k n h = omega arith

trim_fits : (cs : List ℕ) → length (trim_end cs) ≤ length cs
unfolding trim_end
trim_fits [] = omega arith
trim_fits (c ∷ cs) = fits_by (is_blank c && is_nil (trim_end cs)) c (trim_end cs) (length cs) (trim_fits cs)
  where
    fits_by : (b : Bool) (c : ℕ) (rest : List ℕ) (n : ℕ) → length rest ≤ n → length (cond b [] (c ∷ rest)) ≤ suc n
    fits_by true c rest n h = omega arith
    fits_by false c rest n h = omega arith

part_by : (b : Bool) (part rest s : List ℕ)
    → cond b None (Some (record { text = encode_utf8_all part; quoted = false; rest = line_before s rest }))
    ≡ option_map (longer s) (cond b None (Some (record { text = encode_utf8_all part; quoted = false; rest = rest })))
part_by true part rest s = refl
part_by false part rest s = refl

part_seam : (part cs s : List ℕ) → length part ≤ length cs → plain_text part (line_before s cs) ≡ option_map (longer s) (plain_text part cs)
part_seam part cs s fits =
    let give : List ℕ → Option FlowText = λ rest. cond (is_nil part) None (Some (record { text = encode_utf8_all part; quoted = false; rest = rest })) in
    ap give (drop-append-le (length part) cs (10 ∷ s) fits) ∙ part_by (is_nil part) part (drop (length part) cs) s

if_begun : (b : Bool) (s : List ℕ) (o : Option FlowText) → cond b (option_map (longer s) o) None ≡ option_map (longer s) (cond b o None)
if_begun true s o = refl
if_begun false s o = refl

plain_seam : (c : ℕ) (cs s : List ℕ) → plain_at (c ∷ line_before s cs) ≡ option_map (longer s) (plain_at (c ∷ cs))
unfolding plain_at
plain_seam c cs s =
    let line : List ℕ = c ∷ cs in
    let all : List ℕ = line_before s line in
    let n : ℕ = plain_extent false line in
    let part : List ℕ = trim_end (take n line) in
    let extent : n ≤ length line = extent_fits false line in
    let fits : length part ≤ length line = omega (arith, trim_fits (take n line), length-take-le n line extent) in
    ap (λ (b : Bool). cond b (plain_text (trim_end (take (plain_extent false all) all)) all) None) (begins_seam c cs s)
    ∙ (ap (λ (k : ℕ). cond (begins_plain line) (plain_text (trim_end (take k all)) all) None) (extent_seam false line s)
    ∙ (ap (λ (ds : List ℕ). cond (begins_plain line) (plain_text (trim_end ds) all) None) (take-append-le n line (10 ∷ s) extent)
    ∙ (ap (λ (o : Option FlowText). cond (begins_plain line) o None) (part_seam part line s fits)
    ∙ if_begun (begins_plain line) s (plain_text part line))))

-- ---- a text

quoted_text_seam : (s : List ℕ) (o : Option Quoted) → option_map quoted_text (option_map (longer_quoted s) o) ≡ option_map (longer s) (option_map quoted_text o)
quoted_text_seam s None = refl
quoted_text_seam s (Some q) = refl

text_by : (b : Bool) (c : ℕ) (cs s : List ℕ) → cond b (quoted_at (c ∷ line_before s cs)) (plain_at (c ∷ line_before s cs)) ≡ option_map (longer s) (cond b (quoted_at (c ∷ cs)) (plain_at (c ∷ cs)))
text_by true c cs s = ap (option_map quoted_text) (quoted_seam (c ∷ cs) s) ∙ quoted_text_seam s (quoted_of (c ∷ cs))
text_by false c cs s = plain_seam c cs s

text_seam : (c : ℕ) (cs s : List ℕ) → text_at (c ∷ line_before s cs) ≡ option_map (longer s) (text_at (c ∷ cs))
unfolding text_at
text_seam c cs s = text_by (begins_quoted (c ∷ cs)) c cs s

-- a text takes a character
abbrev TextWithin : ℕ → Option FlowText → Type 0
TextWithin n o = Within (λ t. t.rest) n o

part_within : (part : List ℕ) (c : ℕ) (cs : List ℕ) → TextWithin (length cs) (plain_text part (c ∷ cs))
part_within [] c cs = tt
part_within (p ∷ part) c cs = let left : length (drop (length part) cs) ≡ length cs - length part = length-drop (length part) cs in omega arith

quoted_within : (n : ℕ) (o : Option Quoted) → Within (λ q. q.rest) n o → TextWithin n (option_map quoted_text o)
quoted_within n None h = tt
quoted_within n (Some q) h = h

plain_within : (b : Bool) (part : List ℕ) (c : ℕ) (cs : List ℕ) → TextWithin (length cs) (cond b (plain_text part (c ∷ cs)) None)
plain_within true part c cs = part_within part c cs
plain_within false part c cs = tt

text_within_by : (b : Bool) (c : ℕ) (cs : List ℕ) → TextWithin (length cs) (cond b (quoted_at (c ∷ cs)) (plain_at (c ∷ cs)))
unfolding plain_at
text_within_by true c cs = quoted_within (length cs) (quoted_of (c ∷ cs)) (quoted_shorter c cs)
text_within_by false c cs = plain_within (begins_plain (c ∷ cs)) (trim_end (take (plain_extent false (c ∷ cs)) (c ∷ cs))) c cs

text_within : (c : ℕ) (cs : List ℕ) → TextWithin (length cs) (text_at (c ∷ cs))
unfolding text_at
text_within c cs = text_within_by (begins_quoted (c ∷ cs)) c cs

-- ---- a gap

-- what stands after a gap, with further lines after it: if the gap goes on to the line's end, what stands after that of
-- the next line's start
abbrev pub then_line : List ℕ → List ℕ → List ℕ
then_line s [] = after_start s
then_line s (c ∷ cs) = line_before s (c ∷ cs)

gap_by : (b : Bool) (c : ℕ) (cs s behind : List ℕ) (longer_behind : List ℕ) → longer_behind ≡ then_line s behind
    → cond b longer_behind (c ∷ line_before s cs) ≡ then_line s (cond b behind (c ∷ cs))
gap_by true c cs s behind longer_behind e = e
gap_by false c cs s behind longer_behind e = refl

gap_seam : (comment free : Bool) (cs s : List ℕ) → behind_gap comment free (line_before s cs) ≡ then_line s (behind_gap comment free cs)
unfolding behind_gap
gap_seam true free [] s = refl
gap_seam false free [] s = refl
gap_seam comment free (c ∷ cs) s =
    gap_by (is_of_gap comment free c) c cs s (behind_gap (in_comment comment c) true cs) (behind_gap (in_comment comment c) true (line_before s cs)) (gap_seam (in_comment comment c) true cs s)

gap_fits : (comment free : Bool) (cs : List ℕ) → length (behind_gap comment free cs) ≤ length cs
unfolding behind_gap
gap_fits comment free [] = omega arith
gap_fits comment free (c ∷ cs) = by_test (is_of_gap comment free c) c (behind_gap (in_comment comment c) true cs) cs (gap_fits (in_comment comment c) true cs)
  where
    by_test : (b : Bool) (c : ℕ) (behind cs : List ℕ) → length behind ≤ length cs → length (cond b behind (c ∷ cs)) ≤ suc (length cs)
    by_test true c behind cs h = omega arith
    by_test false c behind cs h = omega arith

-- ---- a token

abbrev pub longer_behind : List ℕ → Behind → Behind
longer_behind s b = record { state = b.state; rest = line_before s b.rest }

behind_text_seam : (depth : ℕ) (cs s : List ℕ) (o : Option FlowText) → behind_text depth (line_before s cs) (option_map (longer s) o) ≡ longer_behind s (behind_text depth cs o)
behind_text_seam depth cs s None = refl
behind_text_seam depth cs s (Some t) = refl

token_seam_by : (st : FlowState) (cs s : List ℕ) (o : Option FlowText) (opening closing other : Bool)
    → token_by st (line_before s cs) (option_map (longer s) o) opening closing other ≡ longer_behind s (token_by st cs o opening closing other)
token_seam_by st cs s o true closing other = refl
token_seam_by st cs s o false true other = refl
token_seam_by st cs s o false false true = refl
token_seam_by st cs s o false false false = behind_text_seam st.depth cs s o

token_seam : (st : FlowState) (c : ℕ) (cs s : List ℕ) → behind_token st (c ∷ line_before s cs) ≡ longer_behind s (behind_token st (c ∷ cs))
token_seam st c cs s =
    token_tests st c (line_before s cs)
    ∙ (ap (λ (o : Option FlowText). token_by st (line_before s cs) o (is_opening c) (is_closing c) (eqb c 44 || is_key_end st.quoted c (line_before s cs))) (text_seam c cs s)
    ∙ (ap (λ (b : Bool). token_by st (line_before s cs) (option_map (longer s) (text_at (c ∷ cs))) (is_opening c) (is_closing c) (eqb c 44 || (eqb c 58 && (st.quoted || b)))) (key_end_seam cs s)
    ∙ (token_seam_by st cs s (text_at (c ∷ cs)) (is_opening c) (is_closing c) (eqb c 44 || is_key_end st.quoted c cs)
    ∙ ap (longer_behind s) (sym (token_tests st c cs)))))

text_rest_fits : (depth : ℕ) (cs : List ℕ) (o : Option FlowText) → TextWithin (length cs) o → length (behind_text depth cs o).rest ≤ length cs
text_rest_fits depth cs None h = omega arith
text_rest_fits depth cs (Some t) h = h

token_fits_by : (st : FlowState) (cs : List ℕ) (o : Option FlowText) (opening closing other : Bool) → TextWithin (length cs) o → length (token_by st cs o opening closing other).rest ≤ length cs
token_fits_by st cs o true closing other h = omega arith
token_fits_by st cs o false true other h = omega arith
token_fits_by st cs o false false true h = omega arith
token_fits_by st cs o false false false h = text_rest_fits st.depth cs o h

token_fits : (st : FlowState) (c : ℕ) (cs : List ℕ) → length (behind_token st (c ∷ cs)).rest ≤ length cs
unfolding behind_token
token_fits st c cs = token_fits_by st cs (text_at (c ∷ cs)) (is_opening c) (is_closing c) (eqb c 44 || is_key_end st.quoted c cs) (text_within c cs)

-- ---- all tokens

fuel_by : (m n : ℕ) (closed : Bool) (next : Behind) → behind_tokens m next.state (after_gap next.rest) ≡ behind_tokens n next.state (after_gap next.rest)
    → then_tokens m closed next ≡ then_tokens n closed next
fuel_by m n true next e = refl
fuel_by m n false next e = e

-- a turn for each character is enough
enough : (m n : ℕ) (st : FlowState) (cs : List ℕ) → length cs ≤ m → length cs ≤ n → behind_tokens m st cs ≡ behind_tokens n st cs
enough m n st [] f g = tokens_nil m st ∙ sym (tokens_nil n st)
enough zero n st (c ∷ cs) f g = absurd (omega arith)
enough (suc m) zero st (c ∷ cs) f g = absurd (omega arith)
enough (suc m) (suc n) st (c ∷ cs) f g =
    let next : Behind = behind_token st (c ∷ cs) in
    let left : length next.rest ≤ length cs = token_fits st c cs in
    let fits : length (after_gap next.rest) ≤ length next.rest = gap_fits false false next.rest in
    tokens_step m st c cs
    ∙ (fuel_by m n (is_closed next.state) next (enough m n next.state (after_gap next.rest) (omega arith) (omega arith)) ∙ sym (tokens_step n st c cs))

-- the token that stands first, and those after it unless it closes the flow
abbrev pub then_all : Bool → Behind → Behind
then_all closed next = cond closed next (behind_all next.state (after_gap next.rest))

all_by : (m : ℕ) (closed : Bool) (next : Behind) → length (after_gap next.rest) ≤ m → then_tokens m closed next ≡ then_all closed next
all_by m true next fits = refl
all_by m false next fits = enough m (length (after_gap next.rest)) next.state (after_gap next.rest) fits (omega arith)

pub all_nil : (st : FlowState) → behind_all st [] ≡ record { state = st; rest = [] }
all_nil st = tokens_nil 0 st

pub all_step : (st : FlowState) (c : ℕ) (cs : List ℕ) → behind_all st (c ∷ cs) ≡ then_all (is_closed (behind_token st (c ∷ cs)).state) (behind_token st (c ∷ cs))
all_step st c cs =
    let next : Behind = behind_token st (c ∷ cs) in
    let left : length next.rest ≤ length cs = token_fits st c cs in
    let fits : length (after_gap next.rest) ≤ length next.rest = gap_fits false false next.rest in
    tokens_step (length cs) st c cs ∙ all_by (length cs) (is_closed next.state) next (omega arith)

-- what is open after a line and the lines after it
abbrev pub then_lines : List ℕ → Behind → Behind
then_lines s b = cond (is_closed b.state) (longer_behind s b) (behind_all b.state (after_start s))

-- a flow is open where the line holds nothing more
abbrev IsOpenAt : FlowState → List ℕ → Type 0
IsOpenAt st cs = is_nil cs ≡ true → is_closed st ≡ false

nothing_left : (st : FlowState) (s : List ℕ) → is_closed st ≡ false → behind_all st (after_start s) ≡ then_lines s (behind_all st [])
nothing_left st s is_open =
    let here : Behind = record { state = st; rest = [] } in
    ap (λ (b : Bool). cond b (longer_behind s here) (behind_all st (after_start s))) (sym is_open) ∙ ap (then_lines s) (sym (all_nil st))

token_and_lines : (s : List ℕ) (next : Behind) (closed : Bool) → is_closed next.state ≡ closed
    → (closed ≡ false → behind_all next.state (then_line s (after_gap next.rest)) ≡ then_lines s (behind_all next.state (after_gap next.rest)))
    → then_all closed (longer_behind s next) ≡ then_lines s (then_all closed next)
token_and_lines s next true is more = ap (λ (b : Bool). cond b (longer_behind s next) (behind_all next.state (after_start s))) (sym is)
token_and_lines s next false is more = ap (behind_all next.state) (gap_seam false false next.rest s) ∙ more refl

all_seam : (n : ℕ) (s : List ℕ) (st : FlowState) (cs : List ℕ) → length cs ≤ n → IsOpenAt st cs → behind_all st (then_line s cs) ≡ then_lines s (behind_all st cs)
all_seam n s st [] fits is_open = nothing_left st s (is_open refl)
all_seam zero s st (c ∷ cs) fits is_open = absurd (omega arith)
all_seam (suc n) s st (c ∷ cs) fits is_open =
    let next : Behind = behind_token st (c ∷ cs) in
    let left : length next.rest ≤ length cs = token_fits st c cs in
    let shorter : length (after_gap next.rest) ≤ length next.rest = gap_fits false false next.rest in
    all_step st c (line_before s cs)
    ∙ (ap (λ (b : Behind). then_all (is_closed b.state) b) (token_seam st c cs s)
    ∙ (token_and_lines s next (is_closed next.state) refl (λ is. all_seam n s next.state (after_gap next.rest) (omega arith) (λ nothing. is))
    ∙ ap (then_lines s) (sym (all_step st c cs))))

-- what is open after a line, and then after those that follow it
pub lines_seam : (s : List ℕ) (st : FlowState) (line : List ℕ) → (is_nil (after_start line) ≡ true → is_closed st ≡ false)
    → behind_all st (after_start (line_before s line)) ≡ then_lines s (behind_all st (after_start line))
lines_seam s st line is_open = ap (behind_all st) (gap_seam false true line s) ∙ all_seam (length (after_start line)) s st (after_start line) (omega arith) is_open
