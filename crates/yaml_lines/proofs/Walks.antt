-- The content lines of a text in one walk over its lines, next to the definition, which first takes all content lines and then looks
-- for marks.
use Rattle.std.proofs.Common.{◌≡◌, ℕ, ◌+◌, ◌<◌, ◌≤◌, Bool, true, false, cond, ◌&&◌, ◌||◌, ◌==◌, List, [], ◌∷◌, ◌++◌, length, drop, get_or, Option, Some, None, option_map, option_and_then, refl, sym, ap, ◌∙◌, append_assoc}
use Rattle.std.specs.List.{list_any}
use Rattle.std.proofs.lemmas.List.{append-nil, drop_more, drop_all}
use Rattle.yaml_lines.specs.BlockTexts.{LineText}
use Rattle.yaml_lines.specs.Characters.{blank_or_end, comment_or_end, trim_start, begins_with}
use Rattle.yaml_lines.specs.Entries.{ContentLine}
use Rattle.yaml_lines.specs.FlowLines.{outside}
use Rattle.yaml_lines.specs.declared.line_state.LineState.{LineState}
use Rattle.yaml_lines.specs.Lines.{Left, standing, left_at_line, before_content_lines, all_content_lines, three, is_mark, is_start, unmarked, document, content_lines_from}

-- the content lines before those of the later lines, which `later` gives if a `---` may still stand first, or not
abbrev pub with_place : Bool → Option ContentLine → (Bool → Option (List ContentLine)) → Option (List ContentLine)
with_place fresh None later = later fresh
with_place fresh (Some p) later = cond (is_mark p) (cond (fresh && is_start p) (later false) None) (option_map (λ ps. p ∷ ps) (later false))

unfoldable pub walk : LineState → Bool → List LineText → Option (List ContentLine)
walk at fresh [] = Some []
walk at fresh (l ∷ ls) = option_and_then (λ left. with_place fresh left.content_line (λ b. walk left.next b ls)) (left_at_line at l.text ls)

-- no content lines at all
abbrev no_places : Option (List ContentLine)
no_places = None

one_more : (m n : Bool) (p : ContentLine) (ps : List ContentLine) → cond (m || n) None (Some (p ∷ ps)) ≡ cond m None (option_map (λ qs. p ∷ qs) (cond n None (Some ps)))
one_more true n p ps = refl
one_more false true p ps = refl
one_more false false p ps = refl

none_left : (m : Bool) → cond m no_places no_places ≡ no_places
none_left true = refl
none_left false = refl

place_later : (o : Option ContentLine) (rest later : Option (List ContentLine)) → option_and_then unmarked rest ≡ later
    → option_and_then unmarked (option_map (before_content_lines o) rest) ≡ with_place false o (λ _. later)
place_later None None later e = e
place_later None (Some ps) later e = e
place_later (Some p) None later e = sym (none_left (is_mark p)) ∙ ap (λ (o : Option (List ContentLine)). cond (is_mark p) None (option_map (λ qs. p ∷ qs) o)) e
place_later (Some p) (Some ps) later e =
    one_more (is_mark p) (list_any is_mark ps) p ps ∙ ap (λ (o : Option (List ContentLine)). cond (is_mark p) None (option_map (λ qs. p ∷ qs) o)) e

-- `with_place` looks at `later` with `false` alone, but where there is no place
seen_false : (o : Option ContentLine) (later : Bool → Option (List ContentLine)) → with_place false o (λ _. later false) ≡ with_place false o later
seen_false None later = refl
seen_false (Some p) later = refl

line_later : (o : Option Left) (all : LineState → Option (List ContentLine)) (later : LineState → Bool → Option (List ContentLine))
    → ((k : LineState) → option_and_then unmarked (all k) ≡ later k false)
    → option_and_then unmarked (option_and_then (λ left. option_map (before_content_lines left.content_line) (all left.next)) o)
    ≡ option_and_then (λ left. with_place false left.content_line (later left.next)) o
line_later None all later e = refl
line_later (Some left) all later e = place_later left.content_line (all left.next) (later left.next false) (e left.next) ∙ seen_false left.content_line (later left.next)

walk_later : (ls : List LineText) (at : LineState) → option_and_then unmarked (all_content_lines at ls) ≡ walk at false ls
unfolding walk all_content_lines
walk_later [] at = refl
walk_later (l ∷ ls) at = line_later (left_at_line at l.text ls) (λ k. all_content_lines k ls) (λ k b. walk k b ls) (walk_later ls)

-- a `---` that stands alone is a mark
marked : (a b e f c d : Bool) → (a && b && (e && f)) ≡ true → (a && ((b && e) || c || d)) ≡ true
marked true true true f c d h = refl
marked true true false f c d h = cc
marked true false e f c d h = cc
marked false b e f c d h = cc

pub is_mark-start : (p : ContentLine) → is_start p ≡ true → is_mark p ≡ true
is_mark-start p h =
    marked (p.indent == 0) (three 45 p.content) (blank_or_end (drop 3 p.content)) (comment_or_end (trim_start (drop 3 p.content))) (three 46 p.content && blank_or_end (drop 3 p.content))
    (begins_with 37 p.content) h

start_or_not : (s m n : Bool) (p : ContentLine) (ps : List ContentLine) → (s ≡ true → m ≡ true)
    → cond s (cond n None (Some ps)) (cond (m || n) None (Some (p ∷ ps))) ≡ cond m (cond s (cond n None (Some ps)) None) (option_map (λ qs. p ∷ qs) (cond n None (Some ps)))
start_or_not true true n p ps h = refl
start_or_not true false n p ps h = cc (h refl)
start_or_not false true n p ps h = refl
start_or_not false false n p ps h = one_more false n p ps

nothing : (s m : Bool) → cond m (cond s no_places no_places) no_places ≡ no_places
nothing s false = refl
nothing s true = none_left s

place_first : (o : Option ContentLine) (rest : Option (List ContentLine)) (later : Bool → Option (List ContentLine)) → option_and_then document rest ≡ later true
    → option_and_then unmarked rest ≡ later false
    → option_and_then document (option_map (before_content_lines o) rest) ≡ with_place true o later
unfolding document
place_first None None later d u = d
place_first None (Some ps) later d u = d
place_first (Some p) None later d u =
    sym (nothing (is_start p) (is_mark p)) ∙ ap (λ (o : Option (List ContentLine)). cond (is_mark p) (cond (is_start p) o None) (option_map (λ qs. p ∷ qs) o)) u
place_first (Some p) (Some ps) later d u =
    start_or_not (is_start p) (is_mark p) (list_any is_mark ps) p ps (is_mark-start p)
    ∙ ap (λ (o : Option (List ContentLine)). cond (is_mark p) (cond (is_start p) o None) (option_map (λ qs. p ∷ qs) o)) u

line_first : (o : Option Left) (all : LineState → Option (List ContentLine)) (later : LineState → Bool → Option (List ContentLine))
    → ((k : LineState) → option_and_then document (all k) ≡ later k true) → ((k : LineState) → option_and_then unmarked (all k) ≡ later k false)
    → option_and_then document (option_and_then (λ left. option_map (before_content_lines left.content_line) (all left.next)) o)
    ≡ option_and_then (λ left. with_place true left.content_line (later left.next)) o
line_first None all later d u = refl
line_first (Some left) all later d u = place_first left.content_line (all left.next) (later left.next) (d left.next) (u left.next)

walk_first : (ls : List LineText) (at : LineState) → option_and_then document (all_content_lines at ls) ≡ walk at true ls
unfolding walk all_content_lines document
walk_first [] at = refl
walk_first (l ∷ ls) at = line_first (left_at_line at l.text ls) (λ k. all_content_lines k ls) (λ k b. walk k b ls) (walk_first ls) (walk_later ls)

-- the content lines of a text are those that were read, and those of the walk over what is left
abbrev pub walked : List ContentLine → Bool → LineState → List LineText → ℕ → Option (List ContentLine)
walked read fresh at ls i = option_map (λ ps. read ++ ps) (walk at fresh (drop i ls))

unmoved : (o : Option (List ContentLine)) → option_map (λ ps. [] ++ ps) o ≡ o
unmoved None = refl
unmoved (Some ps) = refl

pub walked_start : (ls : List LineText) (read : List ContentLine) → read ≡ [] → content_lines_from ls ≡ walked read true (standing 0 outside) ls 0
unfolding content_lines_from
walked_start ls read e = walk_first ls (standing 0 outside) ∙ (sym (unmoved (walk (standing 0 outside) true ls)) ∙ ap (λ (ps : List ContentLine). walked ps true (standing 0 outside) ls 0) (sym e))

walk-nil : (at : LineState) (fresh : Bool) → walk at fresh [] ≡ Some []
unfolding walk
walk-nil at fresh = refl

pub walked_end : (read : List ContentLine) (fresh : Bool) (at : LineState) (ls : List LineText) (i : ℕ) → length ls ≤ i → walked read fresh at ls i ≡ Some read
walked_end read fresh at ls i past =
    ap (λ (rest : List LineText). option_map (λ ps. read ++ ps) (walk at fresh rest)) (drop_all i ls past)
    ∙ (ap (option_map (λ ps. read ++ ps)) (walk-nil at fresh) ∙ ap Some (append-nil read))

walk-cons : (at : LineState) (fresh : Bool) (l : LineText) (ls : List LineText)
    → walk at fresh (l ∷ ls) ≡ option_and_then (λ left. with_place fresh left.content_line (λ b. walk left.next b ls)) (left_at_line at l.text ls)
unfolding walk
walk-cons at fresh l ls = refl

-- where the walk stands, and what the line there leaves
pub record Stands (at : LineState) (ls : List LineText) (i : ℕ) (l : LineText) (o : Option Left) : Type 0 where
  pub within : i < length ls
  pub is : l ≡ get_or ls i l
  pub left : left_at_line at l.text (drop (i + 1) ls) ≡ o

walked_step : (read : List ContentLine) (fresh : Bool) (at : LineState) (ls : List LineText) (i : ℕ) (l : LineText) (o : Option Left) → Stands at ls i l o
    → walked read fresh at ls i ≡ option_map (λ ps. read ++ ps) (option_and_then (λ left. with_place fresh left.content_line (λ b. walk left.next b (drop (i + 1) ls))) o)
walked_step read fresh at ls i l o s =
    let rest = drop (i + 1) ls in
    let add : Option (List ContentLine) → Option (List ContentLine) = option_map (λ ps. read ++ ps) in
    ap (λ (lines : List LineText). add (walk at fresh lines)) (drop_more ls i l s.within ∙ ap (λ (x : LineText). x ∷ rest) (sym s.is))
    ∙ (ap add (walk-cons at fresh l rest) ∙ ap (λ (x : Option Left). add (option_and_then (λ left. with_place fresh left.content_line (λ b. walk left.next b rest)) x)) s.left)

pub walked_fault : (read : List ContentLine) (fresh : Bool) (at : LineState) (ls : List LineText) (i : ℕ) (l : LineText) → Stands at ls i l None → walked read fresh at ls i ≡ None
walked_fault read fresh at ls i l s = walked_step read fresh at ls i l None s

pub walked_nothing : (read : List ContentLine) (fresh : Bool) (at : LineState) (ls : List LineText) (i : ℕ) (l : LineText) (more : LineState)
    → Stands at ls i l (Some (record { content_line = None; next = more }))
    → walked read fresh at ls i ≡ walked read fresh more ls (i + 1)
walked_nothing read fresh at ls i l more s = walked_step read fresh at ls i l (Some (record { content_line = None; next = more })) s

added : (read : List ContentLine) (p : ContentLine) (o : Option (List ContentLine)) → option_map (λ ps. read ++ ps) (option_map (λ ps. p ∷ ps) o) ≡ option_map (λ ps. (read ++ p ∷ []) ++ ps) o
added read p None = refl
added read p (Some ps) = ap Some (sym (append_assoc read (p ∷ []) ps))

pub walked_place : (read : List ContentLine) (fresh : Bool) (at : LineState) (ls : List LineText) (i : ℕ) (l : LineText) (p : ContentLine) (more : LineState)
    → Stands at ls i l (Some (record { content_line = Some p; next = more })) → is_mark p ≡ false
    → walked read fresh at ls i ≡ walked (read ++ p ∷ []) false more ls (i + 1)
walked_place read fresh at ls i l p more s m =
    let later = walk more false (drop (i + 1) ls) in
    walked_step read fresh at ls i l (Some (record { content_line = Some p; next = more })) s
    ∙ (ap (λ (b : Bool). option_map (λ ps. read ++ ps) (cond b (cond (fresh && is_start p) later None) (option_map (λ ps. p ∷ ps) later))) m ∙ added read p later)

pub walked_mark : (read : List ContentLine) (fresh : Bool) (at : LineState) (ls : List LineText) (i : ℕ) (l : LineText) (p : ContentLine) (more : LineState)
    → Stands at ls i l (Some (record { content_line = Some p; next = more })) → is_mark p ≡ true
    → (fresh && is_start p) ≡ false → walked read fresh at ls i ≡ None
walked_mark read fresh at ls i l p more s m f =
    let later = walk more false (drop (i + 1) ls) in
    walked_step read fresh at ls i l (Some (record { content_line = Some p; next = more })) s
    ∙ (ap (λ (b : Bool). option_map (λ ps. read ++ ps) (cond b (cond (fresh && is_start p) later None) (option_map (λ ps. p ∷ ps) later))) m
    ∙ ap (λ (b : Bool). option_map (λ ps. read ++ ps) (cond b later None)) f)

pub walked_begin : (read : List ContentLine) (fresh : Bool) (at : LineState) (ls : List LineText) (i : ℕ) (l : LineText) (p : ContentLine) (more : LineState)
    → Stands at ls i l (Some (record { content_line = Some p; next = more })) → is_mark p ≡ true
    → (fresh && is_start p) ≡ true → walked read fresh at ls i ≡ walked read false more ls (i + 1)
walked_begin read fresh at ls i l p more s m f =
    let later = walk more false (drop (i + 1) ls) in
    walked_step read fresh at ls i l (Some (record { content_line = Some p; next = more })) s
    ∙ (ap (λ (b : Bool). option_map (λ ps. read ++ ps) (cond b (cond (fresh && is_start p) later None) (option_map (λ ps. p ∷ ps) later))) m
    ∙ ap (λ (b : Bool). option_map (λ ps. read ++ ps) (cond b later None)) f)
