use Rattle.std.proofs.Common.{◌≡◌, ◌+◌, ◌∙◌, ◌&&◌, Bool, true, false, Some, None, ℕ, List, rules, tests, sym, ap, arith, length, length-drop, ◌-◌, drop, take, position}
use Rattle.std.proofs.lemmas.List.{take_all}
use Rattle.std.proofs.lemmas.Iterator.{YieldsList-from_slice}
use Rattle.std.proofs.lemmas.Iterator.Search.{position_from_yields_List}
use Rattle.run_options.specs.Harmless.{is_equals, is_long_option, is_option_cut_at, is_option_name, is_option_value}
use Rattle.run_options.proofs.harmless.is_long_option.Goals as goal

whole_rest : (n : ℕ) (text : List ℕ) → take (length text - n) (drop n text) ≡ drop n text
whole_rest n text = take_all (length text - n) (drop n text) (omega (arith, length-drop {A = ℕ}))

-- cut at an `=` after a name, and after what is none
after_name : (text : List ℕ) (end : ℕ) → Some end ≡ position is_equals text → is_option_name (take end text) ≡ true → is_option_value (drop (end + 1) text) ≡ is_long_option text
after_name text end found name =
    sym (ap (λ (first : Bool). first && is_option_value (drop (end + 1) text)) name) ∙ ap (λ at. is_option_cut_at at text) found

after_none : (text : List ℕ) (end : ℕ) → Some end ≡ position is_equals text → is_option_name (take end text) ≡ false → false ≡ is_long_option text
after_none text end found name =
    sym (ap (λ (first : Bool). first && is_option_value (drop (end + 1) text)) name) ∙ ap (λ at. is_option_cut_at at text) found

pub returns-then-is_option_name : goal.returns-then-is_option_name
returns-then-is_option_name c =
    c.is_option_value.ensures
    ∙ ap is_option_value (whole_rest (c.in-Some.end + 1) c.args.text.now)
    ∙ after_name c.args.text.now c.in-Some.end
    (sym c.in-Some.is ∙ position_from_yields_List is_equals _ _ c.position.result c.position.ensures.ran (YieldsList-from_slice c.args.text.now c.iter.ensures.rest) (λ x b q k. search (rules, tests)))
    (sym c.is_option_name.ensures ∙ c.if-is_option_name.true)

pub returns-else-is_option_name : goal.returns-else-is_option_name
returns-else-is_option_name c =
    c.if-is_option_name.false
    ∙ after_none c.args.text.now c.in-Some.end
    (sym c.in-Some.is ∙ position_from_yields_List is_equals _ _ c.position.result c.position.ensures.ran (YieldsList-from_slice c.args.text.now c.iter.ensures.rest) (λ x b q k. search (rules, tests)))
    (sym c.is_option_name.ensures ∙ c.if-is_option_name.false)

pub returns-in-None : goal.returns-in-None
returns-in-None c =
    let found : None ≡ position is_equals c.args.text.now =
    sym c.in-None.is ∙ position_from_yields_List is_equals _ _ c.position.result c.position.ensures.ran (YieldsList-from_slice c.args.text.now c.iter.ensures.rest)
    (λ x b q k. search (rules, tests)) in
    c.is_option_name-in-None.ensures ∙ ap (λ at. is_option_cut_at at c.args.text.now) found
