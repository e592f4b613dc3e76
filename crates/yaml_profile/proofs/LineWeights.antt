-- The content lines of a text take no more bytes than the text, and neither does a block text.
use Rattle.std.proofs.Common.{◌≡◌, ℕ, zero, suc, ◌+◌, ◌≤◌, Bool, true, false, cond, not, ◌&&◌, eqb, ltb, List, [], ◌∷◌, ◌++◌, length, map, take, drop, Option, Some, None, refl, ap, arith}
use Rattle.std.specs.Prelude.{⊤}
use Rattle.std.specs.List.{AllByRecursion, prefix_len, list_all, list_any}
use Rattle.std.specs.Str.{chars, is_utf8, encode_utf8_all}
use Rattle.std.proofs.lemmas.List.{length-append}
use Rattle.std.proofs.lemmas.Str.{encodes-chars, IsUtf8-from_is_utf8}
use Rattle.yaml_lines.specs.BlockTexts.{LineText, header_of, margin_of, begins_block, extent, is_ragged, behind_margin, without_margin, has_text, line_end, feeds_of, last_ends, joined, block_text}
use Rattle.yaml_lines.specs.Characters.{characters_of, most_bytes, without_mark, is_space, is_allowed, begins_with, comment_or_end, trim_start, is_nil}
use Rattle.yaml_lines.specs.Entries.{ContentLine}
use Rattle.yaml_lines.specs.FlowLines.{Open, outside, is_closed, skim, state_behind}
use Rattle.yaml_lines.specs.Lines.{before_lines, line_texts, last_value, ColumnValue, Left, standing, bare, with_text, with_value, with_flow, left_of, left_by, left_at_line, before_content_lines, all_content_lines, is_mark, is_start, unmarked, document, content_lines_from, content_lines_of, content_lines_of_bytes}
use Rattle.yaml_lines.specs.declared.header.Chomping.{Chomping}
use Rattle.yaml_lines.specs.declared.header.Chomping.TheVariants.{Strip, Clip, Keep}
use Rattle.yaml_lines.specs.declared.header.Header.{Header}
use Rattle.yaml_profile.proofs.Holds.{Holds, HoldsOfAny, map_to, then_any, then_to, either, if_true}
use Rattle.yaml_profile.proofs.Weights.{weight, weight-cons, one_less, drop_within}

-- ---- the lines of a text

-- one if the line has an end: it is said to have one, or other lines follow
abbrev ends : LineText → List LineText → ℕ
ends l [] = cond l.ended 1 0
ends l (m ∷ ms) = 1

abbrev bytes_of : List LineText → ℕ
bytes_of [] = 0
bytes_of (l ∷ ls) = weight l.text + (ends l ls + bytes_of ls)

at_most_one : (b : Bool) → cond b 1 0 ≤ 1
at_most_one true = omega arith
at_most_one false = omega arith

most_ends : (l : LineText) (ls : List LineText) → ends l ls ≤ 1
most_ends l [] = at_most_one l.ended
most_ends l (m ∷ ms) = omega arith

before_bytes : (c : ℕ) (ls : List LineText) → bytes_of (before_lines c ls) ≤ weight (c ∷ []) + bytes_of ls
before_bytes c [] = omega arith
before_bytes c (l ∷ []) = let more = weight-cons c l.text in let one = weight-cons c [] in omega arith
before_bytes c (l ∷ (m ∷ ms)) = let more = weight-cons c l.text in let one = weight-cons c [] in omega arith

fewer_bytes : (n : ℕ) (b : Bool) (ls ms : List LineText) → bytes_of ls ≤ n → bytes_of ms ≤ n → bytes_of (cond b ls ms) ≤ n
fewer_bytes n true ls ms h k = h
fewer_bytes n false ls ms h k = k

line_bytes : (cs : List ℕ) → bytes_of (line_texts cs) ≤ weight cs
unfolding line_texts
line_bytes [] = omega arith
line_bytes (c ∷ cs) =
    let rest : bytes_of (line_texts cs) ≤ weight cs = line_bytes cs in
    let less : 1 + weight cs ≤ weight (c ∷ cs) = one_less c cs in
    let end : ends (record { text = []; ended = true }) (line_texts cs) ≤ 1 = most_ends (record { text = []; ended = true }) (line_texts cs) in
    let more : bytes_of (before_lines c (line_texts cs)) ≤ weight (c ∷ []) + bytes_of (line_texts cs) = before_bytes c (line_texts cs) in
    let all = weight-cons c cs in
    let one = weight-cons c [] in
    fewer_bytes (weight (c ∷ cs)) (eqb c 10) (record { text = []; ended = true } ∷ line_texts cs) _ (omega arith)
    (fewer_bytes (weight (c ∷ cs)) (eqb c 13 && begins_with 10 cs) (line_texts cs) (before_lines c (line_texts cs)) (omega arith) (omega arith))

-- ---- block texts

joined_by : (h : Header) (l : LineText) (ls : List LineText) (b : Bool) → has_text ls ≡ b
    → joined h (l ∷ ls) ≡ encode_utf8_all l.text ++ cond b (line_end h.folded l ls ++ joined h ls) (last_ends h.chomping l ls)
unfolding joined
joined_by h l ls b e = ap (λ (x : Bool). encode_utf8_all l.text ++ cond x (line_end h.folded l ls ++ joined h ls) (last_ends h.chomping l ls)) e

-- the line feed of a line that has an end
abbrev feed : Bool → List ℕ
feed b = cond b (10 ∷ []) []

feed_of : (b : Bool) (n : ℕ) → length (feed b ++ []) ≤ n + (cond b 1 0 + 0)
feed_of true n = omega arith
feed_of false n = omega arith

more_feeds : (b : Bool) (n : ℕ) (bytes : List ℕ) (m : ℕ) → length bytes ≤ m → length (feed b ++ bytes) ≤ n + (1 + m)
more_feeds true n bytes m h = omega arith
more_feeds false n bytes m h = omega arith

feed_bytes : (ls : List LineText) → length (feeds_of ls) ≤ bytes_of ls
feed_bytes [] = omega arith
feed_bytes (l ∷ []) = feed_of l.ended (weight l.text)
feed_bytes (l ∷ (m ∷ ms)) = more_feeds l.ended (weight l.text) (feeds_of (m ∷ ms)) (bytes_of (m ∷ ms)) (feed_bytes (m ∷ ms))

-- a line feed, nothing or a space
abbrev seam : Bool → Bool → List ℕ
seam a b = cond a (10 ∷ []) (cond b [] (32 ∷ []))

one_end : (a b : Bool) → length (seam a b) ≤ 1
one_end true b = omega arith
one_end false true = omega arith
one_end false false = omega arith

clipped : (b : Bool) (bytes : List ℕ) → length (cond b [] (take 1 bytes)) ≤ length bytes
clipped true bytes = omega arith
clipped false [] = omega arith
clipped false (c ∷ bytes) = omega arith

last_bytes : (chomping : Chomping) (l : LineText) (ls : List LineText) → length (last_ends chomping l ls) ≤ length (feeds_of (l ∷ ls))
last_bytes Strip l ls = omega arith
last_bytes Clip l ls = clipped (is_nil l.text) (feeds_of (l ∷ ls))
last_bytes Keep l ls = omega arith

-- the feeds of the last text line and of the lines after it
feeds_left : (l : LineText) (ls : List LineText) → length (feeds_of (l ∷ ls)) ≤ ends l ls + bytes_of ls
feeds_left l [] = let one : length (feed l.ended ++ []) ≤ 0 + (cond l.ended 1 0 + 0) = feed_of l.ended 0 in omega arith
feeds_left l (m ∷ ms) =
    let more : length (feed l.ended ++ feeds_of (m ∷ ms)) ≤ 0 + (1 + bytes_of (m ∷ ms)) = more_feeds l.ended 0 (feeds_of (m ∷ ms)) (bytes_of (m ∷ ms)) (feed_bytes (m ∷ ms)) in
    omega arith

joined_line : (h : Header) (l : LineText) (ls : List LineText) (b : Bool) → has_text ls ≡ b → length (joined h ls) ≤ bytes_of ls → length (joined h (l ∷ ls)) ≤ bytes_of (l ∷ ls)
joined_line h l [] true some rest = cc
joined_line h l (m ∷ ms) true some rest =
    let same = ap (λ (bytes : List ℕ). length bytes) (joined_by h l (m ∷ ms) true some) in
    let parts = length-append (encode_utf8_all l.text) (line_end h.folded l (m ∷ ms) ++ joined h (m ∷ ms)) in
    let behind = length-append (line_end h.folded l (m ∷ ms)) (joined h (m ∷ ms)) in
    let end : length (line_end h.folded l (m ∷ ms)) ≤ 1 = one_end _ _ in
    omega arith
joined_line h l ls false none rest =
    let same = ap (λ (bytes : List ℕ). length bytes) (joined_by h l ls false none) in
    let parts = length-append (encode_utf8_all l.text) (last_ends h.chomping l ls) in
    let last : length (last_ends h.chomping l ls) ≤ length (feeds_of (l ∷ ls)) = last_bytes h.chomping l ls in
    let left : length (feeds_of (l ∷ ls)) ≤ ends l ls + bytes_of ls = feeds_left l ls in
    omega arith

joined_bytes : (h : Header) (ls : List LineText) → length (joined h ls) ≤ bytes_of ls
unfolding joined
joined_bytes h [] = omega arith
joined_bytes h (l ∷ ls) = joined_line h l ls (has_text ls) refl (joined_bytes h ls)

behind_within : (margin : Option ℕ) (l : LineText) → weight (behind_margin margin l) ≤ weight l.text
behind_within None l = omega arith
behind_within (Some margin) l = drop_within margin l.text

stripped_bytes : (margin : Option ℕ) (ls : List LineText) → bytes_of (map (without_margin margin) ls) ≤ bytes_of ls
stripped_bytes margin [] = omega arith
stripped_bytes margin (l ∷ []) = let part = behind_within margin l in omega arith
stripped_bytes margin (l ∷ (m ∷ ms)) =
    let part = behind_within margin l in
    let rest : bytes_of (map (without_margin margin) (m ∷ ms)) ≤ bytes_of (m ∷ ms) = stripped_bytes margin (m ∷ ms) in
    omega arith

no_more : (i : ℕ) (l : LineText) → ends l (take i []) ≤ cond l.ended 1 0
no_more zero l = omega arith
no_more (suc i) l = omega arith

fewer_ends : (i : ℕ) (l : LineText) (ls : List LineText) → ends l (take i ls) ≤ ends l ls
fewer_ends i l [] = no_more i l
fewer_ends zero l (m ∷ ms) = at_most_one l.ended
fewer_ends (suc i) l (m ∷ ms) = omega arith

taken_bytes : (i : ℕ) (ls : List LineText) → bytes_of (take i ls) ≤ bytes_of ls
taken_bytes zero ls = omega arith
taken_bytes (suc i) [] = omega arith
taken_bytes (suc i) (l ∷ ls) =
    let rest : bytes_of (take i ls) ≤ bytes_of ls = taken_bytes i ls in
    let end : ends l (take i ls) ≤ ends l ls = fewer_ends i l ls in
    omega arith

block_bytes : (h : Header) (margin : Option ℕ) (i : ℕ) (ls : List LineText) → length (block_text h margin (take i ls)) ≤ bytes_of ls
block_bytes h margin i ls =
    let joint : length (joined h (map (without_margin margin) (take i ls))) ≤ bytes_of (map (without_margin margin) (take i ls)) = joined_bytes h (map (without_margin margin) (take i ls)) in
    let stripped : bytes_of (map (without_margin margin) (take i ls)) ≤ bytes_of (take i ls) = stripped_bytes margin (take i ls) in
    let taken : bytes_of (take i ls) ≤ bytes_of ls = taken_bytes i ls in
    omega arith

-- ---- content lines

-- a block text, if there is one, has no more bytes
abbrev pub BlockWithin : ℕ → Option (List ℕ) → Type 0
BlockWithin n None = ⊤
BlockWithin n (Some bytes) = length bytes ≤ n

abbrev pub HasBlockWithin : ℕ → ContentLine → Type 0
HasBlockWithin n p = BlockWithin n p.block

-- what the contents of these lines take, each with its end
abbrev pub total : List ContentLine → ℕ
total [] = 0
total (p ∷ ps) = 1 + (weight p.content + total ps)

-- the lines' block texts have no more bytes than this, and their contents take no more than that
abbrev pub Fit : ℕ → ℕ → List ContentLine → Type 0
Fit n m ps = AllByRecursion (HasBlockWithin n) ps × (total ps ≤ m)

-- what a line leaves takes no more than the line, and its block text has no more bytes than this
abbrev LineWithin : ℕ → ℕ → Option ContentLine → Type 0
LineWithin n w None = ⊤
LineWithin n w (Some p) = HasBlockWithin n p × (weight p.content ≤ w)

abbrev LeftWithin : ℕ → ℕ → Left → Type 0
LeftWithin n w left = LineWithin n w left.content_line

with_text_within : (n w indent : ℕ) (content : List ℕ) (later : List LineText) (margin : Option ℕ) (h : Header) → bytes_of later ≤ n → weight content ≤ w
    → Holds (LeftWithin n w) (with_text indent content later margin h)
unfolding with_text
with_text_within n w indent content later margin h few less =
    let block : length (block_text h margin (take (extent margin later) later)) ≤ bytes_of later = block_bytes h margin (extent margin later) later in
    either (LeftWithin n w) (is_ragged margin later) None _ tt (omega arith, less)

with_value_within : (n w indent : ℕ) (content : List ℕ) (later : List LineText) (value : Option ColumnValue) → bytes_of later ≤ n → weight content ≤ w
    → Holds (LeftWithin n w) (with_value indent content later value)
unfolding with_value
with_value_within n w indent content later None few less = (tt, less)
with_value_within n w indent content later (Some value) few less =
    either (LeftWithin n w) (begins_block value.content) _ (Some (bare indent content (state_behind value.content)))
    (then_any (LeftWithin n w) (with_text indent content later (margin_of value.column later))
    (λ h. with_text_within n w indent content later (margin_of value.column later) h few less) (header_of value.content))
    (tt, less)

with_flow_within : (n w : ℕ) (flow : Open) (indent : ℕ) (content : List ℕ) (later : List LineText) → bytes_of later ≤ n → weight content ≤ w
    → Holds (LeftWithin n w) (with_flow flow indent content later)
unfolding with_flow
with_flow_within n w flow indent content later few less =
    either (LeftWithin n w) (is_closed flow) _ (Some (bare indent content (skim flow content)))
    (with_value_within n w indent content later (last_value indent None content) few less) (tt, less)

left_of_within : (n : ℕ) (flow : Open) (text : List ℕ) (later : List LineText) → bytes_of later ≤ n → Holds (LeftWithin n (weight text)) (left_of flow text later)
unfolding left_of
left_of_within n flow text later few =
    let P = LeftWithin n (weight text) in
    let content : List ℕ = drop (prefix_len is_space text) text in
    either P (not (list_all is_allowed text)) None _ tt
    (either P (comment_or_end (trim_start text)) (Some (record { content_line = None; next = standing 0 flow })) _ tt
    (either P (begins_with 9 content) None _ tt
    (with_flow_within n (weight text) flow (prefix_len is_space text) content later few (drop_within (prefix_len is_space text) text))))

left_by_within : (n taken : ℕ) (flow : Open) (text : List ℕ) (later : List LineText) → bytes_of later ≤ n → Holds (LeftWithin n (weight text)) (left_by taken flow text later)
left_by_within n zero flow text later few = left_of_within n flow text later few
left_by_within n (suc taken) flow text later few = if_true (LeftWithin n (weight text)) (list_all is_allowed text) _ (λ _. tt)

left_at_within : (n : ℕ) (text : List ℕ) (later : List LineText) → bytes_of later ≤ n → HoldsOfAny (LeftWithin n (weight text)) (λ at. left_at_line at text later)
unfolding left_at_line
left_at_within n text later few at = left_by_within n at.taken at.flow text later few

-- a content line for each line, in place of the line's end
abbrev room : List LineText → ℕ
room [] = 0
room (l ∷ ls) = 1 + (weight l.text + room ls)

room_of : (ls : List LineText) → room ls ≤ 1 + bytes_of ls
room_of [] = omega arith
room_of (l ∷ []) = omega arith
room_of (l ∷ (m ∷ ms)) = let rest : room (m ∷ ms) ≤ 1 + bytes_of (m ∷ ms) = room_of (m ∷ ms) in omega arith

put_first : (n w m : ℕ) (p : Option ContentLine) (ps : List ContentLine) → LineWithin n w p → Fit n m ps → Fit n (1 + (w + m)) (before_content_lines p ps)
put_first n w m None ps h k = let few = k.1 in (k.0, omega arith)
put_first n w m (Some p) ps h k = let few = k.1 in let less = h.1 in ((h.0, k.0), omega arith)

lines_within : (n : ℕ) (ls : List LineText) → bytes_of ls ≤ n → HoldsOfAny (Fit n (room ls)) (λ at. all_content_lines at ls)
unfolding all_content_lines
lines_within n [] few at = (tt, omega arith)
lines_within n (l ∷ ls) few at =
    then_to (LeftWithin n (weight l.text)) (Fit n (room (l ∷ ls))) _
    (λ left h. map_to (Fit n (room ls)) (Fit n (room (l ∷ ls))) (before_content_lines left.content_line)
    (λ ps k. put_first n (weight l.text) (room ls) left.content_line ps h k) (all_content_lines left.next ls) (lines_within n ls (omega arith) left.next))
    (left_at_line at l.text ls) (left_at_within n l.text ls (omega arith) at)

unmarked_within : (n m : ℕ) (ps : List ContentLine) → Fit n m ps → Holds (Fit n m) (unmarked ps)
unmarked_within n m ps h = either (Fit n m) (list_any is_mark ps) None (Some ps) tt h

document_within : (n m : ℕ) (ps : List ContentLine) → Fit n m ps → Holds (Fit n m) (document ps)
unfolding document
document_within n m [] h = h
document_within n m (p ∷ ps) h =
    let few = h.1 in
    either (Fit n m) (is_start p) (unmarked ps) (unmarked (p ∷ ps)) (unmarked_within n m ps (h.0.1, omega arith)) (unmarked_within n m (p ∷ ps) h)

abbrev Takes : ℕ → List ℕ → Type 0
Takes n cs = weight cs ≤ n

no_heavier : (n : ℕ) (b : Bool) (cs ds : List ℕ) → weight cs ≤ n → weight ds ≤ n → weight (cond b cs ds) ≤ n
no_heavier n true cs ds h k = h
no_heavier n false cs ds h k = k

mark_within : (n : ℕ) (cs : List ℕ) → weight cs ≤ n → weight (without_mark cs) ≤ n
mark_within n [] h = h
mark_within n (c ∷ cs) h = let less : 1 + weight cs ≤ weight (c ∷ cs) = one_less c cs in no_heavier n (eqb c 65279) cs (c ∷ cs) (omega arith) h

same_length : (cs bytes : List ℕ) → encode_utf8_all cs ≡ bytes → weight cs ≤ length bytes
same_length cs bytes e = let same : weight cs ≡ length bytes = ap (λ (xs : List ℕ). length xs) e in omega arith

characters_within : (bytes : List ℕ) → Holds (Takes (length bytes)) (characters_of bytes)
unfolding characters_of
characters_within bytes =
    either (Takes (length bytes)) (ltb most_bytes (length bytes)) None _ tt
    (if_true (Takes (length bytes)) (is_utf8 bytes) (without_mark (chars bytes))
    (λ e. mark_within (length bytes) (chars bytes) (same_length (chars bytes) bytes (encodes-chars bytes (IsUtf8-from_is_utf8 bytes e)))))

from_within : (n : ℕ) (ls : List LineText) → bytes_of ls ≤ n → Holds (Fit n (suc n)) (content_lines_from ls)
unfolding content_lines_from
from_within n ls few =
    let rooms = room_of ls in
    then_to (Fit n (room ls)) (Fit n (suc n)) document (λ ps h. let total = h.1 in document_within n (suc n) ps (h.0, omega arith)) (all_content_lines (standing 0 outside) ls)
    (lines_within n ls few (standing 0 outside))

of_within : (n : ℕ) (cs : List ℕ) → weight cs ≤ n → Holds (Fit n (suc n)) (content_lines_of cs)
unfolding content_lines_of
of_within n cs h = let lines : bytes_of (line_texts cs) ≤ weight cs = line_bytes cs in from_within n (line_texts cs) (omega arith)

pub content_lines_fit : (bytes : List ℕ) → Holds (Fit (length bytes) (suc (length bytes))) (content_lines_of_bytes bytes)
unfolding content_lines_of_bytes
content_lines_fit bytes =
    then_to (Takes (length bytes)) (Fit (length bytes) (suc (length bytes))) content_lines_of (λ cs h. of_within (length bytes) cs h) (characters_of bytes) (characters_within bytes)
