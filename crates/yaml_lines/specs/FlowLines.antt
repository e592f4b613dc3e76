-- Which lines are within a flow: those before which one of its brackets is open. What is open is counted
-- over the flow's tokens: brackets, commas, the colons of keys, and texts, with gaps between them. The
-- meaning of a flow uses the same definitions. No token goes over a line's end. The count is right for a
-- flow that is read. For another it doesn't matter, since the reader of flows refuses it. (YAML 1.2.2,
-- section 7.4 "Flow Collection Styles".)
use Rattle.std.specs.Prelude.{ℕ, zero, suc, Bool, false, ◌-◌, ◌||◌, List, [], ◌∷◌, Option, Some, None, length, nat_lt, ◌==◌, if◌then◌else◌}
use Rattle.yaml_lines.specs.FlowGaps.{after_gap, after_start}
use Rattle.yaml_lines.specs.FlowTexts.{FlowText, is_key_end, text_at}
use Rattle.yaml_lines.specs.Meaning.{most_nodes}
use Rattle.yaml_lines.specs.declared.flow_state.FlowState.{FlowState}

-- what is open at a place of a flow
abbrev pub Open : Type 0
Open = FlowState

-- so many brackets are open, and the last token was a quoted text or another one
abbrev pub state : ℕ → Bool → Open
state depth quoted = record { depth = depth; quoted = quoted }

-- no flow has begun, or it is over
abbrev pub outside : Open
outside = state 0 false

-- no bracket is open
abbrev pub is_closed : Open → Bool
is_closed s = s.depth == 0

-- One bracket more. Brackets are counted up to the most nodes that may be nested: a flow that is read never
-- has more open.
abbrev pub one_deeper : ℕ → ℕ
one_deeper depth = if nat_lt depth most_nodes then suc depth else depth

-- `[` or `{`
abbrev pub is_opening : ℕ → Bool
is_opening c = c == 91 || c == 123

-- `]` or `}`
abbrev pub is_closing : ℕ → Bool
is_closing c = c == 93 || c == 125

-- what is open after a token, and the characters that follow it
pub record Behind : Type 0 where
  pub state : Open
  pub rest : List ℕ

-- after the text, if one comes first, otherwise after one character
abbrev pub behind_text : ℕ → List ℕ → Option FlowText → Behind
behind_text depth cs None = record { state = state depth false; rest = cs }
behind_text depth cs (Some text) = record { state = state depth text.quoted; rest = text.rest }

-- After the token that the characters begin with: a bracket, a comma, the colon of a key, or a text. A
-- character that begins none of them is skipped.
unfoldable pub behind_token : Open → List ℕ → Behind
behind_token s [] = record { state = s; rest = [] }
behind_token s (c ∷ cs) =
    if is_opening c then record { state = state (one_deeper s.depth) false; rest = cs }
    else (if is_closing c then record { state = state (s.depth - 1) false; rest = cs }
    else (if c == 44 || is_key_end s.quoted c cs then record { state = state s.depth false; rest = cs }
    else behind_text s.depth cs (text_at (c ∷ cs))))

-- After these tokens, at most `most` of them. The flow is over once no bracket is open.
unfoldable pub behind_tokens : ℕ → Open → List ℕ → Behind
behind_tokens zero s cs = record { state = s; rest = cs }
behind_tokens (suc most) s [] = record { state = s; rest = [] }
behind_tokens (suc most) s (c ∷ cs) =
    let next = behind_token s (c ∷ cs) in
    if is_closed next.state then next else behind_tokens most next.state (after_gap next.rest)

-- after all tokens of these characters, each of which takes a character, or after the flow's last bracket
abbrev pub behind_all : Open → List ℕ → Behind
behind_all s cs = behind_tokens (length cs) s cs

-- what is open after a line with these characters, if `s` was open before it
unfoldable pub skim : Open → List ℕ → Open
skim s line = (behind_all s (after_start line)).state

abbrev pub begins_flow : List ℕ → Bool
begins_flow [] = false
begins_flow (c ∷ _) = is_opening c

-- what is open after a line outside of flows that has this as its last value
abbrev pub state_behind : List ℕ → Open
state_behind value = if begins_flow value then skim outside value else outside
