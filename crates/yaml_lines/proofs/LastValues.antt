-- Which value stands last on a line that is an item, an entry or a text.
use Rattle.std.proofs.Common.{◌≡◌, ℕ, suc, ◌+◌, Bool, true, false, cond, ◌&&◌, eqb, List, [], ◌∷◌, drop, take, Option, Some, None, IfSome, refl, sym, ap, ◌∙◌, arith}
use Rattle.std.proofs.lemmas.Bool.{eqb-true}
use Rattle.std.specs.List.{prefix_len, list_all}
use Rattle.yaml_lines.specs.Characters.{is_blank, is_space, blank_or_end, comment_or_end}
use Rattle.yaml_lines.specs.Entries.{ContentLine, KeyAndValue, is_item, rest_of, item_of, entry_of_line}
use Rattle.yaml_lines.specs.Lines.{ColumnValue, value_at, last_value}
use Rattle.yaml_lines.specs.Plain.{begins_plain}
use Rattle.yaml_lines.proofs.Left.{last_value-tests, last_value-nil}

-- how many blanks stand before a blank or another character
abbrev passed : Bool → ℕ → ℕ
passed blank more = cond blank (1 + more) 0

abbrev moved : ℕ → Option ℕ → ℕ → List ℕ → Option ColumnValue
moved at dash n cs = last_value (at + n) dash (drop n cs)

stays : (at : ℕ) (dash : Option ℕ) (cs : List ℕ) → last_value at dash cs ≡ moved at dash 0 cs
stays at dash cs = let e : at ≡ at + 0 = omega arith in ap (λ (n : ℕ). last_value n dash cs) e

one_more : (at n : ℕ) → at + 1 + n ≡ at + (1 + n)
one_more at n = omega arith

next : (n : ℕ) → suc n ≡ 1 + n
next n = omega arith

skip_by : (blank : Bool) (at : ℕ) (dash : Option ℕ) (c : ℕ) (cs : List ℕ) (n : ℕ) → is_blank c ≡ blank → last_value (at + 1) dash cs ≡ moved (at + 1) dash n cs
    → last_value at dash (c ∷ cs) ≡ moved at dash (passed blank n) (c ∷ cs)
skip_by true at dash c cs n e h =
    last_value-tests at dash c cs true (eqb c 45 && blank_or_end cs) e refl
    ∙ (h ∙ (ap (λ (k : ℕ). last_value k dash (drop n cs)) (one_more at n) ∙ ap (λ (k : ℕ). last_value (at + (1 + n)) dash (drop k (c ∷ cs))) (next n)))
skip_by false at dash c cs n e h = stays at dash (c ∷ cs)

-- blanks before a value only move it
skip_blanks : (at : ℕ) (dash : Option ℕ) (cs : List ℕ) → last_value at dash cs ≡ moved at dash (prefix_len is_blank cs) cs
skip_blanks at dash [] = stays at dash []
skip_blanks at dash (c ∷ cs) = skip_by (is_blank c) at dash c cs (prefix_len is_blank cs) refl (skip_blanks (at + 1) dash cs)

-- ---- items

both : (a b : Bool) → (a && b) ≡ true → (a ≡ true) × (b ≡ true)
both true b e = (refl, e)
both false b e = cc

blank_by : (c : ℕ) → c ≡ 45 → is_blank c ≡ false
blank_by c e = ap is_blank e

-- what stands after a dash is its value
behind_dash : (at : ℕ) (dash : Option ℕ) (c : ℕ) (cs : List ℕ) → (eqb c 45 && blank_or_end cs) ≡ true → last_value at dash (c ∷ cs) ≡ moved (at + 1) (Some at) (prefix_len is_blank cs) cs
behind_dash at dash c cs e =
    last_value-tests at dash c cs false true (blank_by c (eqb-true c 45 (both (eqb c 45) (blank_or_end cs) e).0)) e ∙ skip_blanks (at + 1) (Some at) cs

rest_is : (over spaces : Bool) (at : ℕ) (block : Option (List ℕ)) (cs : List ℕ) (rest : ContentLine)
    → cond over (Some []) (cond spaces (Some (record { indent = at; content = cs; block = block } ∷ [])) None) ≡ Some (rest ∷ []) → (rest.indent ≡ at) × (rest.content ≡ cs)
rest_is true spaces at block cs rest e = cc
rest_is false false at block cs rest e = cc
rest_is false true at block cs rest e =
    let same : record { indent = at; content = cs; block = block } ≡ rest = cc in
    (sym (ap (λ (p : ContentLine). p.indent) same), sym (ap (λ (p : ContentLine). p.content) same))

over_is : (over spaces : Bool) (place : ContentLine) → cond over (Some []) (cond spaces (Some (place ∷ [])) None) ≡ Some [] → over ≡ true
over_is true spaces place e = refl
over_is false false place e = cc
over_is false true place e = cc

of_item : (at : ℕ) (dash : Option ℕ) (content : List ℕ) (block : Option (List ℕ)) (rest : ContentLine) → is_item content ≡ true → rest_of at block (drop 1 content) ≡ Some (rest ∷ [])
    → last_value at dash content ≡ last_value rest.indent (Some at) rest.content
unfolding is_item rest_of
of_item at dash [] block rest e h = cc
of_item at dash (c ∷ cs) block rest e h =
    let n : ℕ = prefix_len is_blank cs in
    let is = rest_is (comment_or_end (drop n cs)) (list_all is_space (take n cs)) (at + 1 + n) block (drop n cs) rest h in
    behind_dash at dash c cs e
    ∙ (ap (λ (k : ℕ). last_value k (Some at) (drop n cs)) (sym is.0) ∙ ap (last_value rest.indent (Some at)) (sym is.1))

pub item_value : (p rest : ContentLine) (dash : Option ℕ) → is_item p.content ≡ true → item_of p ≡ Some (rest ∷ [])
    → last_value p.indent dash p.content ≡ last_value rest.indent (Some p.indent) rest.content
unfolding item_of
item_value p rest dash e h = of_item p.indent dash p.content p.block rest e h

-- ---- a dash with nothing or a comment after it

abbrev IsComment : Option ColumnValue → Type 0
IsComment o = IfSome o (λ value. comment_or_end value.content ≡ true)

value_is_comment : (at : ℕ) (dash : ℕ) (cs : List ℕ) (o : Option KeyAndValue) → comment_or_end cs ≡ true → o ≡ None → IsComment (value_at at (Some dash) cs o)
value_is_comment at dash cs None e none = e
value_is_comment at dash cs (Some entry) e none = cc

no_entry : (cs : List ℕ) → entry_of_line (35 ∷ cs) ≡ None
unfolding entry_of_line begins_plain
no_entry cs = refl

hash_blank : (c : ℕ) → c ≡ 35 → is_blank c ≡ false
hash_blank c e = ap is_blank e

hash_dash : (c : ℕ) (cs : List ℕ) → c ≡ 35 → (eqb c 45 && blank_or_end cs) ≡ false
hash_dash c cs e = ap (λ (x : ℕ). eqb x 45 && blank_or_end cs) e

comment_value : (at : ℕ) (dash : ℕ) (cs : List ℕ) → comment_or_end cs ≡ true → IsComment (last_value at (Some dash) cs)
comment_value at dash [] e = rw (last_value-nil at (Some dash)) tt
comment_value at dash (c ∷ cs) e =
    let hash : c ≡ 35 = eqb-true c 35 e in
    rw (last_value-tests at (Some dash) c cs false false (hash_blank c hash) (hash_dash c cs hash))
    (value_is_comment at dash (c ∷ cs) (entry_of_line (c ∷ cs)) e (ap (λ (x : ℕ). entry_of_line (x ∷ cs)) hash ∙ no_entry cs))

of_empty : (at : ℕ) (dash : Option ℕ) (content : List ℕ) (block : Option (List ℕ)) → is_item content ≡ true → rest_of at block (drop 1 content) ≡ Some [] → IsComment (last_value at dash content)
unfolding is_item rest_of
of_empty at dash [] block e h = cc
of_empty at dash (c ∷ cs) block e h =
    let n : ℕ = prefix_len is_blank cs in
    let over = over_is (comment_or_end (drop n cs)) (list_all is_space (take n cs)) (record { indent = at + 1 + n; content = drop n cs; block = block }) h in
    rw (behind_dash at dash c cs e) (comment_value (at + 1 + n) at (drop n cs) over)

pub empty_item_value : (p : ContentLine) (dash : Option ℕ) → is_item p.content ≡ true → item_of p ≡ Some [] → IfSome (last_value p.indent dash p.content) (λ value. comment_or_end value.content ≡ true)
unfolding item_of
empty_item_value p dash e h = of_empty p.indent dash p.content p.block e h

-- ---- no item

of_other : (at : ℕ) (dash : Option ℕ) (content : List ℕ) → blank_or_end content ≡ false → is_item content ≡ false → last_value at dash content ≡ value_at at dash content (entry_of_line content)
unfolding is_item
of_other at dash [] some e = cc
of_other at dash (c ∷ cs) some e = last_value-tests at dash c cs false false some e

pub other_value : (p : ContentLine) (dash : Option ℕ) (entry : Option KeyAndValue) → blank_or_end p.content ≡ false → is_item p.content ≡ false → entry_of_line p.content ≡ entry
    → last_value p.indent dash p.content ≡ value_at p.indent dash p.content entry
other_value p dash entry some e h = of_other p.indent dash p.content some e ∙ ap (value_at p.indent dash p.content) h
