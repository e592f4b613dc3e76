-- The tokens of a flow, one after another.
use Rattle.std.proofs.Common.{◌≡◌, ℕ, zero, suc, ◌+◌, ◌-◌, ◌<◌, ◌≤◌, Bool, true, false, cond, ◌||◌, eqb, List, [], ◌∷◌, length, take, drop, Option, Some, None, option_map, refl, sym, ap, ◌∙◌, arith}
use Rattle.std.proofs.lemmas.Bool.{eqb-true, eq-eqb}
use Rattle.std.specs.Str.{encode_utf8_all}
use Rattle.yaml_lines.specs.Characters.{is_nil}
use Rattle.yaml_lines.specs.FlowGaps.{after_gap}
use Rattle.yaml_lines.specs.FlowLines.{state, is_closed, one_deeper, is_opening, is_closing, Behind, behind_text, behind_token, behind_tokens}
use Rattle.yaml_lines.specs.FlowTexts.{FlowText, is_key_end, begins_plain, plain_extent, plain_text, plain_at, quoted_text, quoted_at, text_at}
use Rattle.yaml_lines.specs.Plain.{trim_end}
use Rattle.yaml_lines.specs.Quoted.{Quoted, begins_quoted, quoted_of}
use Rattle.yaml_lines.specs.declared.flow_state.FlowState.{FlowState}

-- ---- a text is quoted if it begins with a quote

-- the text, if there is one, is quoted or not
abbrev pub Is : Bool → Option FlowText → Type 0
Is quoted None = Unit {0}
Is quoted (Some t) = t.quoted ≡ quoted

quoted_is : (o : Option Quoted) → Is true (option_map quoted_text o)
quoted_is None = tt
quoted_is (Some q) = refl

part_is : (b : Bool) (part rest : List ℕ) → Is false (cond b None (Some (record { text = encode_utf8_all part; quoted = false; rest = rest })))
part_is true part rest = tt
part_is false part rest = refl

plain_is : (b : Bool) (part cs : List ℕ) → Is false (cond b (plain_text part cs) None)
plain_is true part cs = part_is (is_nil part) part (drop (length part) cs)
plain_is false part cs = tt

text_by : (b : Bool) (cs : List ℕ) → Is b (cond b (quoted_at cs) (plain_at cs))
unfolding plain_at
text_by true cs = quoted_is (quoted_of cs)
text_by false cs = plain_is (begins_plain cs) (trim_end (take (plain_extent false cs) cs)) cs

pub text_is : (cs : List ℕ) → Is (begins_quoted cs) (text_at cs)
unfolding text_at
text_is cs = text_by (begins_quoted cs) cs

abbrev rest_of : Option FlowText → Option (List ℕ)
rest_of o = option_map (λ t. t.rest) o

some_by : (depth : ℕ) (quoted : Bool) (others rest : List ℕ) (o : Option FlowText) → Is quoted o → Some rest ≡ rest_of o
    → behind_text depth others o ≡ record { state = state depth quoted; rest = rest }
some_by depth quoted others rest None is e = absurd (cc)
some_by depth quoted others rest (Some t) is e =
    let same : rest ≡ t.rest = cc in
    ap (λ (b : Bool). record { state = state depth b; rest = t.rest }) is ∙ ap (λ (cs : List ℕ). record { state = state depth quoted; rest = cs }) (sym same)

pub text_some : (depth : ℕ) (cs others rest : List ℕ) → Some rest ≡ rest_of (text_at cs) → behind_text depth others (text_at cs) ≡ record { state = state depth (begins_quoted cs); rest = rest }
text_some depth cs others rest e = some_by depth (begins_quoted cs) others rest (text_at cs) (text_is cs) e

none_by : (depth : ℕ) (others : List ℕ) (o : Option FlowText) → None ≡ rest_of o → behind_text depth others o ≡ record { state = state depth false; rest = others }
none_by depth others None e = refl
none_by depth others (Some t) e = absurd (cc)

pub text_none : (depth : ℕ) (cs others : List ℕ) → None ≡ rest_of (text_at cs) → behind_text depth others (text_at cs) ≡ record { state = state depth false; rest = others }
text_none depth cs others e = none_by depth others (text_at cs) e

-- ---- one token

-- the token by the tests of its first character
abbrev pub token_by : FlowState → List ℕ → Option FlowText → Bool → Bool → Bool → Behind
token_by st cs o opening closing other =
    cond opening (record { state = state (one_deeper st.depth) false; rest = cs })
    (cond closing (record { state = state (st.depth - 1) false; rest = cs })
    (cond other (record { state = state st.depth false; rest = cs }) (behind_text st.depth cs o)))

pub token_tests : (st : FlowState) (c : ℕ) (cs : List ℕ) → behind_token st (c ∷ cs) ≡ token_by st cs (text_at (c ∷ cs)) (is_opening c) (is_closing c) (eqb c 44 || is_key_end st.quoted c cs)
unfolding behind_token
token_tests st c cs = refl

-- ---- one token and those after it

pub tokens_nil : (most : ℕ) (s : FlowState) → behind_tokens most s [] ≡ record { state = s; rest = [] }
unfolding behind_tokens
tokens_nil zero s = refl
tokens_nil (suc most) s = refl

pub tokens_none : (s : FlowState) (cs : List ℕ) → behind_tokens zero s cs ≡ record { state = s; rest = cs }
unfolding behind_tokens
tokens_none s cs = refl

abbrev pub then_tokens : ℕ → Bool → Behind → Behind
then_tokens most closed next = cond closed next (behind_tokens most next.state (after_gap next.rest))

pub tokens_step : (most : ℕ) (s : FlowState) (c : ℕ) (cs : List ℕ) → behind_tokens (suc most) s (c ∷ cs) ≡ then_tokens most (is_closed (behind_token s (c ∷ cs)).state) (behind_token s (c ∷ cs))
unfolding behind_tokens
tokens_step most s c cs = refl

-- after the token that stands first, which closes the flow or not
pub tokens_first : (n i : ℕ) (s : FlowState) (cs : List ℕ) (next : Behind) (closed : Bool) → i < n → (length cs ≡ 0 → ⊥) → next ≡ behind_token s cs → is_closed next.state ≡ closed
    → behind_tokens (n - i) s cs ≡ then_tokens (n - (i + 1)) closed next
tokens_first n i s [] next closed within some is e = absurd (some refl)
tokens_first n i s (c ∷ cs) next closed within some is e =
    let fuel : n - i ≡ suc (n - (i + 1)) = omega arith in
    ap (λ (m : ℕ). behind_tokens m s (c ∷ cs)) fuel
    ∙ (tokens_step (n - (i + 1)) s c cs
    ∙ (ap (λ (b : Behind). then_tokens (n - (i + 1)) (is_closed b.state) b) (sym is)
    ∙ ap (λ (b : Bool). then_tokens (n - (i + 1)) b next) e))

-- ---- the tokens in turn

-- what is open after all, by what is open so far and the characters that are left
abbrev open_from : ℕ → ℕ → FlowState → List ℕ → FlowState
open_from n i s cs = (behind_tokens (n - i) s cs).state

none_left : (cs : List ℕ) → eqb (length cs) 0 ≡ true → cs ≡ []
none_left [] e = refl
none_left (c ∷ cs) e = absurd (let none = eqb-true (length (c ∷ cs)) 0 e in omega arith)

some_left : (cs : List ℕ) → eqb (length cs) 0 ≡ false → (length cs ≡ 0 → ⊥)
some_left cs e none = absurd (let empty = eq-eqb (length cs) 0 none in cc)

pub open_empty : (n i : ℕ) (s : FlowState) (cs : List ℕ) → eqb (length cs) 0 ≡ true → open_from n i s cs ≡ s
open_empty n i s cs e =
    ap (λ (ds : List ℕ). (behind_tokens (n - i) s ds).state) (none_left cs e) ∙ ap (λ (b : Behind). b.state) (tokens_nil (n - i) s)

pub open_over : (n i : ℕ) (s : FlowState) (cs : List ℕ) (next : Behind) → i < n → eqb (length cs) 0 ≡ false → next ≡ behind_token s cs → is_closed next.state ≡ true → open_from n i s cs ≡ next.state
open_over n i s cs next within some is e = ap (λ (b : Behind). b.state) (tokens_first n i s cs next true within (some_left cs some) is e)

pub open_on : (n i : ℕ) (s : FlowState) (cs : List ℕ) (next : Behind) → i < n → eqb (length cs) 0 ≡ false → next ≡ behind_token s cs → is_closed next.state ≡ false
    → open_from n i s cs ≡ open_from n (i + 1) next.state (after_gap next.rest)
open_on n i s cs next within some is e = ap (λ (b : Behind). b.state) (tokens_first n i s cs next false within (some_left cs some) is e)

pub open_end : (n i : ℕ) (s : FlowState) (cs : List ℕ) → n ≤ i → open_from n i s cs ≡ s
open_end n i s cs past =
    let fuel : n - i ≡ 0 = omega arith in
    ap (λ (m : ℕ). (behind_tokens m s cs).state) fuel ∙ ap (λ (b : Behind). b.state) (tokens_none s cs)
