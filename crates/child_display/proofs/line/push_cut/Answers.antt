use Rattle.std.proofs.Common.{◌++◌, ◌∷◌, ◌∙◌, ap, refl, [], suc, drop, length, List, ℕ, encode_utf8_all, string_bytes}
use Rattle.std.specs.Str.{chars}
use Rattle.std.proofs.lemmas.Iterator.{YieldsList-from_chars}
use Rattle.std.proofs.lemmas.Iterator.Consumers.{YieldsList-end, YieldsList-so_far, YieldsList-turn}
use Rattle.child_display.specs.Lines.{cut_to}
use Rattle.child_display.proofs.LineLemmas.{cut_to-too_wide, ended, with_next, with_none}
use Rattle.child_display.proofs.line.push_cut.Goals as goal

pub returns-in-None : goal.returns-in-None
returns-in-None c =
    let read = YieldsList-from_chars c.args.text.now c.utf8.text cc in
    let all = YieldsList-end read c.characters.yielded _ c.characters.yielded_by _ _ c.in-None.is c.next.ensures.steps in
    ended (string_bytes c.characters.line) _ [] refl
    (c.characters.invariant [] ∙ ap (λ (cs : List ℕ). string_bytes c.args.line.now ++ encode_utf8_all (cut_to c.args.columns cs)) (with_none (chars c.args.text.now) c.characters.yielded all.0))

pub returns-then-width-left : goal.returns-then-width-left
returns-then-width-left c =
    let read = YieldsList-from_chars c.args.text.now c.utf8.text cc in
    let so_far = YieldsList-so_far read c.characters.yielded _ c.characters.yielded_by in
    let turn = YieldsList-turn read c.characters.yielded _ c.characters.yielded_by _ _ c.in-Some.c c.in-Some.is c.next.ensures.steps in
    let rest = drop (suc (length c.characters.yielded)) (chars c.args.text.now) in
    ended (string_bytes c.characters.line) _ (cut_to c.characters.left (c.in-Some.c ∷ rest)) (cut_to-too_wide c.characters.left c.in-Some.c _ rest c.columns_of_char-width.ensures c.if-width-left.true)
    (c.characters.invariant (c.in-Some.c ∷ rest)
    ∙ ap (λ (cs : List ℕ). string_bytes c.args.line.now ++ encode_utf8_all (cut_to c.args.columns cs)) (with_next (chars c.args.text.now) c.characters.yielded c.in-Some.c so_far turn.0 turn.1))
