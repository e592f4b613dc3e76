-- Lines that say nothing leave nothing.
use Rattle.std.proofs.Common.{◌≡◌, ℕ, Bool, true, false, cond, not, ◌&&◌, ◌||◌, List, [], ◌∷◌, drop, Option, Some, None, option_map, option_and_then, refl, sym, ap, ◌∙◌}
use Rattle.std.specs.List.{prefix_len, list_all, list_any}
use Rattle.yaml_lines.specs.BlockTexts.{LineText, header_of, margin_of}
use Rattle.yaml_lines.specs.Characters.{is_space, is_allowed, begins_with, comment_or_end, trim_start}
use Rattle.yaml_lines.specs.Entries.{ContentLine}
use Rattle.yaml_lines.specs.FlowLines.{outside, is_closed, skim, state_behind}
use Rattle.yaml_lines.specs.LineLaws.{says_nothing, saying, is_block, begins_text}
use Rattle.yaml_lines.specs.Lines.{ColumnValue, last_value, Left, standing, bare, with_text, with_value, with_flow, left_of, left_at_line, before_content_lines, all_content_lines, document, content_lines_from}
use Rattle.yaml_lines.specs.declared.flow_state.FlowState.{FlowState}
use Rattle.yaml_lines.proofs.Left.{left_of-nothing}

-- ---- what a line leaves that begins no block text

-- a place or none, and the flow that is open after it
record Calm : Type 0 where
  content_line : Option ContentLine
  flow : FlowState

abbrev left_by_calm : Calm → Left
left_by_calm calm = record { content_line = calm.content_line; next = standing 0 calm.flow }

abbrev value_state : List ℕ → Option ColumnValue → FlowState
value_state content None = state_behind content
value_state content (Some value) = state_behind value.content

abbrev flow_behind : FlowState → ℕ → List ℕ → FlowState
flow_behind flow indent content = cond (is_closed flow) (value_state content (last_value indent None content)) (skim flow content)

abbrev bare_calm : ℕ → List ℕ → FlowState → Calm
bare_calm indent content flow = record { content_line = Some (record { indent = indent; content = content; block = None }); flow = flow }

abbrev calm_by : Bool → Bool → Bool → FlowState → ℕ → List ℕ → Option Calm
calm_by allowed nothing tab flow indent content =
    cond (not allowed) None (cond nothing (Some (record { content_line = None; flow = flow })) (cond tab None (Some (bare_calm indent content (flow_behind flow indent content)))))

abbrev calm_of : FlowState → List ℕ → Option Calm
calm_of flow text =
    calm_by (list_all is_allowed text) (comment_or_end (trim_start text)) (begins_with 9 (drop (prefix_len is_space text) text)) flow (prefix_len is_space text) (drop (prefix_len is_space text) text)

no_text : (indent : ℕ) (content : List ℕ) (later : List LineText) (value : Option ColumnValue) → is_block value ≡ false
    → with_value indent content later value ≡ Some (bare indent content (value_state content value))
unfolding with_value
no_text indent content later None e = refl
no_text indent content later (Some value) e =
    ap (λ (b : Bool). cond b (option_and_then (with_text indent content later (margin_of value.column later)) (header_of value.content)) (Some (bare indent content (state_behind value.content)))) e

calm_flow : (closed : Bool) (flow : FlowState) (indent : ℕ) (content : List ℕ) (later : List LineText) (value : Option ColumnValue) → is_block value ≡ false
    → cond closed (with_value indent content later value) (Some (bare indent content (skim flow content))) ≡ Some (bare indent content (cond closed (value_state content value) (skim flow content)))
calm_flow true flow indent content later value e = no_text indent content later value e
calm_flow false flow indent content later value e = refl

with_flow-calm : (flow : FlowState) (indent : ℕ) (content : List ℕ) (later : List LineText) → is_block (last_value indent None content) ≡ false
    → with_flow flow indent content later ≡ Some (bare indent content (flow_behind flow indent content))
unfolding with_flow
with_flow-calm flow indent content later e = calm_flow (is_closed flow) flow indent content later (last_value indent None content) e

each_test : (a b c : Bool) (flow : FlowState) (indent : ℕ) (content : List ℕ)
    → cond (not a) None (cond b (Some (record { content_line = None; next = standing 0 flow })) (cond c None (Some (bare indent content (flow_behind flow indent content)))))
    ≡ option_map left_by_calm (calm_by a b c flow indent content)
each_test false b c flow indent content = refl
each_test true true c flow indent content = refl
each_test true false true flow indent content = refl
each_test true false false flow indent content = refl

left_of-calm : (flow : FlowState) (line : LineText) (later : List LineText) → begins_text line ≡ false → left_of flow line.text later ≡ option_map left_by_calm (calm_of flow line.text)
unfolding left_of
left_of-calm flow line later e =
    let n : ℕ = prefix_len is_space line.text in
    let content : List ℕ = drop n line.text in
    let allowed : Bool = list_all is_allowed line.text in
    let nothing : Bool = comment_or_end (trim_start line.text) in
    let tab : Bool = begins_with 9 content in
    ap (λ (o : Option Left). cond (not allowed) None (cond nothing (Some (record { content_line = None; next = standing 0 flow })) (cond tab None o))) (with_flow-calm flow n content later e)
    ∙ each_test allowed nothing tab flow n content

-- ---- the content lines

both : (a b : Bool) → (a && b) ≡ true → (a ≡ true) × (b ≡ true)
both true b e = (refl, e)
both false b e = absurd (cc)

neither : (a b : Bool) → (a || b) ≡ false → (a ≡ false) × (b ≡ false)
neither true b e = absurd (cc)
neither false b e = (refl, e)

unplaced : (o : Option (List ContentLine)) → option_map (before_content_lines None) o ≡ o
unplaced None = refl
unplaced (Some ps) = refl

places_step : (flow : FlowState) (line : LineText) (lines : List LineText)
    → all_content_lines (standing 0 flow) (line ∷ lines) ≡ option_and_then (λ left. option_map (before_content_lines left.content_line) (all_content_lines left.next lines))
    (left_of flow line.text lines)
unfolding all_content_lines left_at_line
places_step flow line lines = refl

-- the content lines of these lines are those of the others, whatever flow is open
abbrev AreAlike : List LineText → List LineText → Type 0
AreAlike lines others = (flow : FlowState) → all_content_lines (standing 0 flow) lines ≡ all_content_lines (standing 0 flow) others

behind_calm : (o : Option Calm) (lines others : List LineText) → AreAlike lines others
    → option_and_then (λ left. option_map (before_content_lines left.content_line) (all_content_lines left.next lines)) (option_map left_by_calm o)
    ≡ option_and_then (λ left. option_map (before_content_lines left.content_line) (all_content_lines left.next others)) (option_map left_by_calm o)
behind_calm None lines others same = refl
behind_calm (Some calm) lines others same = ap (option_map (before_content_lines calm.content_line)) (same calm.flow)

one_line : (line : LineText) (lines others : List LineText) → begins_text line ≡ false → AreAlike lines others → AreAlike (line ∷ lines) (line ∷ others)
one_line line lines others e same flow =
    let rest : List LineText → Option Left → Option (List ContentLine) = λ ls o. option_and_then (λ left. option_map (before_content_lines left.content_line) (all_content_lines left.next ls)) o in
    (places_step flow line lines ∙ ap (rest lines) (left_of-calm flow line lines e))
    ∙ (behind_calm (calm_of flow line.text) lines others same
    ∙ sym (places_step flow line others ∙ ap (rest others) (left_of-calm flow line others e)))

no_line : (line : LineText) (lines others : List LineText) → says_nothing line ≡ true → AreAlike lines others → AreAlike lines (line ∷ others)
no_line line lines others e same flow =
    let parts = both (list_all is_allowed line.text) (comment_or_end (trim_start line.text)) e in
    same flow
    ∙ (sym (unplaced (all_content_lines (standing 0 flow) others))
    ∙ sym (places_step flow line others
    ∙ ap (λ (o : Option Left). option_and_then (λ left. option_map (before_content_lines left.content_line) (all_content_lines left.next others)) o)
    (left_of-nothing flow line.text others parts.0 parts.1)))

by_line : (b : Bool) (line : LineText) (lines others : List LineText) → says_nothing line ≡ b → begins_text line ≡ false → AreAlike lines others
    → AreAlike (cond (not b) (line ∷ lines) lines) (line ∷ others)
by_line true line lines others e none_begins same = no_line line lines others e same
by_line false line lines others e none_begins same = one_line line lines others none_begins same

saying_alike : (lines : List LineText) → list_any begins_text lines ≡ false → AreAlike (saying lines) lines
saying_alike [] none_begins = λ flow. refl
saying_alike (line ∷ lines) none_begins =
    let parts = neither (begins_text line) (list_any begins_text lines) none_begins in
    by_line (says_nothing line) line (saying lines) lines refl parts.0 (saying_alike lines parts.1)

pub saying_places : (flow : FlowState) (lines : List LineText) → list_any begins_text lines ≡ false → all_content_lines (standing 0 flow) (saying lines) ≡ all_content_lines (standing 0 flow) lines
saying_places flow lines none_begins = saying_alike lines none_begins flow

pub saying_text : (lines : List LineText) → list_any begins_text lines ≡ false → content_lines_from (saying lines) ≡ content_lines_from lines
unfolding content_lines_from
saying_text lines none_begins = ap (option_and_then document) (saying_places outside lines none_begins)
