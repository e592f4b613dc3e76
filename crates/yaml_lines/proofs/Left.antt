-- What one line leaves, from the tests that the code makes of it.
use Rattle.std.proofs.Common.{◌≡◌, ℕ, ◌+◌, ◌<◌, ◌≤◌, Bool, true, false, cond, not, ◌&&◌, eqb, List, [], ◌∷◌, length, drop, get_or, Option, Some, None, Result, Ok, Err, refl, sym, ap, ◌∙◌, arith}
use Rattle.std.proofs.lemmas.Bool.{ne_eqb}
use Rattle.std.proofs.lemmas.List.{drop_more, drop_all}
use Rattle.std.specs.List.{prefix_len, list_all}
use Rattle.yaml_lines.specs.BlockTexts.{LineText}
use Rattle.yaml_lines.specs.Characters.{is_allowed, is_blank, is_space, begins_with, blank_or_end, comment_or_end, trim_start}
use Rattle.yaml_lines.specs.Entries.{entry_of_line}
use Rattle.yaml_lines.specs.Faults.{Gives, GivesSurely}
use Rattle.yaml_lines.specs.Lines.{ColumnValue, Left, standing, value_at, last_value, with_flow, left_of}
use Rattle.yaml_lines.specs.declared.flow_state.FlowState.{FlowState}
use Rattle.yaml_lines.specs.declared.fault.YamlFault.{YamlFault}

-- what takes no memory gives as what may take it does
pub Gives-from_surely : {A B : Type 0} (see : A → B) (r : Result A YamlFault) (m n : Option B) → GivesSurely see r m → n ≡ m → Gives see r n
Gives-from_surely see (Ok x) m n h e = e ∙ h
Gives-from_surely see (Err fault) m n h e = λ _. e ∙ h

abbrev by_tests : Bool → Bool → FlowState → ℕ → List ℕ → List LineText → Option Left
by_tests allowed nothing flow n content later =
    cond (not allowed) None (cond nothing (Some (record { content_line = None; next = standing 0 flow })) (cond (begins_with 9 content) None (with_flow flow n content later)))

left_of-tests : (flow : FlowState) (text : List ℕ) (later : List LineText) (a b : Bool) → list_all is_allowed text ≡ a → comment_or_end (trim_start text) ≡ b
    → left_of flow text later ≡ by_tests a b flow (prefix_len is_space text) (drop (prefix_len is_space text) text) later
unfolding left_of
left_of-tests flow text later a b h k =
    let n = prefix_len is_space text in
    ap (λ (x : Bool). by_tests x (comment_or_end (trim_start text)) flow n (drop n text) later) h ∙ ap (λ (x : Bool). by_tests a x flow n (drop n text) later) k

pub left_of-bad : (flow : FlowState) (text : List ℕ) (later : List LineText) → list_all is_allowed text ≡ false → left_of flow text later ≡ None
left_of-bad flow text later h = left_of-tests flow text later false (comment_or_end (trim_start text)) h refl

pub left_of-nothing : (flow : FlowState) (text : List ℕ) (later : List LineText) → list_all is_allowed text ≡ true → comment_or_end (trim_start text) ≡ true
    → left_of flow text later ≡ Some (record { content_line = None; next = standing 0 flow })
left_of-nothing flow text later h k = left_of-tests flow text later true true h k

-- the content after the indentation
pub record Indented (text content : List ℕ) (n : ℕ) : Type 0 where
  pub good : list_all is_allowed text ≡ true
  pub some : comment_or_end (trim_start text) ≡ false
  pub counted : n ≡ prefix_len is_space text
  pub behind : content ≡ drop n text

pub left_of-some : (flow : FlowState) (text content : List ℕ) (later : List LineText) (n : ℕ) (tab : Bool) → Indented text content n → begins_with 9 content ≡ tab
    → left_of flow text later ≡ cond tab None (with_flow flow n content later)
left_of-some flow text content later n tab i t =
    let f : Bool → ℕ → List ℕ → Option Left = λ b m cs. cond b None (with_flow flow m cs later) in
    left_of-tests flow text later true false i.good i.some
    ∙ (ap (λ (m : ℕ). f (begins_with 9 (drop m text)) m (drop m text)) (sym i.counted)
    ∙ (ap (λ (cs : List ℕ). f (begins_with 9 cs) n cs) (sym i.behind) ∙ ap (λ (b : Bool). f b n content) t))

-- the walk over dashes
pub last_value-tests : (at : ℕ) (dash : Option ℕ) (c : ℕ) (cs : List ℕ) (a b : Bool) → is_blank c ≡ a → (eqb c 45 && blank_or_end cs) ≡ b
    → last_value at dash (c ∷ cs) ≡ cond a (last_value (at + 1) dash cs) (cond b (last_value (at + 1) (Some at) cs) (value_at at dash (c ∷ cs) (entry_of_line (c ∷ cs))))
unfolding last_value
last_value-tests at dash c cs a b h k =
    let f : Bool → Bool → Option ColumnValue = λ a b. cond a (last_value (at + 1) dash cs) (cond b (last_value (at + 1) (Some at) cs) (value_at at dash (c ∷ cs) (entry_of_line (c ∷ cs)))) in
    ap (λ (x : Bool). f x (eqb c 45 && blank_or_end cs)) h ∙ ap (λ (x : Bool). f a x) k

pub last_value-nil : (at : ℕ) (dash : Option ℕ) → last_value at dash [] ≡ None
unfolding last_value
last_value-nil at dash = refl

-- where the walk stands
pub record OnLine (t : List ℕ) (i c : ℕ) : Type 0 where
  pub within : i < length t
  pub is : c ≡ get_or t i c

left : (t : List ℕ) (i c : ℕ) → OnLine t i c → drop i t ≡ c ∷ drop (i + 1) t
left t i c o = drop_more t i c o.within ∙ ap (λ (x : ℕ). x ∷ drop (i + 1) t) (sym o.is)

next_column : (indent i : ℕ) → indent + i + 1 ≡ indent + (i + 1)
next_column indent i = omega arith

pub last_value-blank : (indent : ℕ) (dash : Option ℕ) (t : List ℕ) (i c : ℕ) → OnLine t i c → is_blank c ≡ true
    → last_value (indent + i) dash (drop i t) ≡ last_value (indent + (i + 1)) dash (drop (i + 1) t)
last_value-blank indent dash t i c o h =
    ap (last_value (indent + i) dash) (left t i c o)
    ∙ (last_value-tests (indent + i) dash c (drop (i + 1) t) true (eqb c 45 && blank_or_end (drop (i + 1) t)) h refl
    ∙ ap (λ (n : ℕ). last_value n dash (drop (i + 1) t)) (next_column indent i))

dash_not_blank : (c : ℕ) → c ≡ 45 → is_blank c ≡ false
dash_not_blank c e = ap is_blank e

pub last_value-dash : (indent : ℕ) (dash : Option ℕ) (t : List ℕ) (i c : ℕ) → OnLine t i c → c ≡ 45 → blank_or_end (drop (i + 1) t) ≡ true
    → last_value (indent + i) dash (drop i t) ≡ last_value (indent + (i + 1)) (Some (indent + i)) (drop (i + 1) t)
last_value-dash indent dash t i c o e h =
    ap (last_value (indent + i) dash) (left t i c o)
    ∙ (last_value-tests (indent + i) dash c (drop (i + 1) t) false true (dash_not_blank c e) (ap (λ (x : ℕ). eqb x 45 && blank_or_end (drop (i + 1) t)) e ∙ h)
    ∙ ap (λ (n : ℕ). last_value n (Some (indent + i)) (drop (i + 1) t)) (next_column indent i))

pub last_value-value : (indent : ℕ) (dash : Option ℕ) (t : List ℕ) (i c : ℕ) → OnLine t i c → is_blank c ≡ false → (eqb c 45 && blank_or_end (drop (i + 1) t)) ≡ false
    → last_value (indent + i) dash (drop i t) ≡ value_at (indent + i) dash (drop i t) (entry_of_line (drop i t))
last_value-value indent dash t i c o h k =
    ap (last_value (indent + i) dash) (left t i c o)
    ∙ (last_value-tests (indent + i) dash c (drop (i + 1) t) false false h k
    ∙ ap (λ (cs : List ℕ). value_at (indent + i) dash cs (entry_of_line cs)) (sym (left t i c o)))

pub last_value-end : (indent : ℕ) (dash : Option ℕ) (t : List ℕ) (i : ℕ) → length t ≤ i → last_value (indent + i) dash (drop i t) ≡ None
last_value-end indent dash t i past = ap (last_value (indent + i) dash) (drop_all i t past) ∙ last_value-nil (indent + i) dash

pub last_value-start : (indent : ℕ) (dash : Option ℕ) (t : List ℕ) → last_value indent dash t ≡ last_value (indent + 0) dash t
last_value-start indent dash t = let e : indent ≡ indent + 0 = omega arith in ap (λ (n : ℕ). last_value n dash t) e

and_false : (b : Bool) → (b && false) ≡ false
and_false true = refl
and_false false = refl

pub no_dash : (c : ℕ) (b : Bool) → (c ≡ 45 → ⊥) → (eqb c 45 && b) ≡ false
no_dash c b e = ap (λ (x : Bool). x && b) (ne_eqb c 45 e)

pub dash_in_word : (c : ℕ) (b : Bool) → b ≡ false → (eqb c 45 && b) ≡ false
dash_in_word c b h = ap (λ (x : Bool). eqb c 45 && x) h ∙ and_false (eqb c 45)
