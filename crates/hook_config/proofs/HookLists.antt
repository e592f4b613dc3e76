-- Hooks that are found one list after another.
use Rattle.std.proofs.Common.{◌≡◌, ℕ, ◌+◌, ◌<◌, ◌≤◌, List, [], ◌∷◌, ◌++◌, length, drop, drop-cons, get_or, suc, Option, Some, None, option_map, option_and_then, refl, sym, ap, ◌∙◌, subst, append_assoc, append-nil, length-append, arith}
use Rattle.std.proofs.lemmas.Grind.{common_steps}
use Rattle.std.proofs.lemmas.Option.{cond_some}
use Rattle.yaml_lines.specs.Meaning.{Meaning}
use Rattle.yaml_lines.specs.View.{view}
use Rattle.yaml_lines.specs.declared.node.Node.{Node}
use Rattle.hook_config.specs.Rows.{meanings_of_nodes}
use Rattle.hook_config.specs.Limits.{most_hooks}
use Rattle.hook_config.specs.Hooks.{joined_lists, within_hook_limit, after}
use Rattle.hook_config.specs.declared.configuration.Hook.{Hook}

within_limit-le : (hooks : List Hook) → length hooks ≤ most_hooks → within_hook_limit hooks ≡ Some hooks
within_limit-le hooks h = grind (arith, common_steps)

le-within_limit : (hooks next : List Hook) → within_hook_limit hooks ≡ Some next → (length hooks ≤ most_hooks) × (hooks ≡ next)
le-within_limit hooks next e = let p = cond_some _ _ _ e in (grind (arith, common_steps), p.1)

beyond : (hooks : List Hook) → within_hook_limit hooks ≡ None → most_hooks < length hooks
beyond hooks e = grind (arith, common_steps)

beyond-within_limit : (hooks : List Hook) → most_hooks < length hooks → within_hook_limit hooks ≡ None
beyond-within_limit hooks h = grind (arith, common_steps)

longer : (hooks more : List Hook) → within_hook_limit hooks ≡ None → within_hook_limit (hooks ++ more) ≡ None
longer hooks more e =
    let long : most_hooks < length hooks = beyond hooks e in
    beyond-within_limit (hooks ++ more) (omega (arith, length-append {A = Hook}))

after_more : (found rest : Option (List Hook)) (before next : List Hook) → after before found ≡ Some next
    → after before (option_and_then (λ ys. option_map (λ zs. ys ++ zs) rest) found) ≡ after next rest
after_more None rest before next e = cc
after_more (Some ys) None before next e = refl
after_more (Some ys) (Some zs) before next e =
    ap within_hook_limit (sym (append_assoc before ys zs) ∙ ap (λ front. front ++ zs) (le-within_limit (before ++ ys) next e).1)

after_refused : (found rest : Option (List Hook)) (before : List Hook) → after before found ≡ None
    → after before (option_and_then (λ ys. option_map (λ zs. ys ++ zs) rest) found) ≡ None
after_refused None rest before e = refl
after_refused (Some ys) None before e = refl
after_refused (Some ys) (Some zs) before e = ap within_hook_limit (sym (append_assoc before ys zs)) ∙ longer (before ++ ys) zs e

-- one more list was found, and there is room for it
pub after_joined : (f : Meaning → Option (List Hook)) (before next : List Hook) (m : Meaning) (ms : List Meaning) → after before (f m) ≡ Some next
    → after before (joined_lists f (m ∷ ms)) ≡ after next (joined_lists f ms)
after_joined f before next m ms e = after_more (f m) (joined_lists f ms) before next e

pub after_joined_refused : (f : Meaning → Option (List Hook)) (before : List Hook) (m : Meaning) (ms : List Meaning) → after before (f m) ≡ None
    → after before (joined_lists f (m ∷ ms)) ≡ None
after_joined_refused f before m ms e = after_refused (f m) (joined_lists f ms) before e

-- nothing more was found
pub after_nothing : (hooks : List Hook) → length hooks ≤ most_hooks → after hooks (Some []) ≡ Some hooks
after_nothing hooks h = ap within_hook_limit (append-nil hooks) ∙ within_limit-le hooks h

pub after_within : (found : Option (List Hook)) (before next : List Hook) → after before found ≡ Some next → length next ≤ most_hooks
after_within None before next e = cc
after_within (Some ys) before next e = let p = le-within_limit (before ++ ys) next e in
    let IsWithin : List Hook → Type 0 = λ hooks. length hooks ≤ most_hooks in subst IsWithin p.1 p.0

-- the list at an index is found, and there is room for it
pub found_at : (f : Meaning → Option (List Hook)) (before next : List Hook) (xs : List Node) (i : ℕ) (x : Node) → i < length xs → x ≡ get_or xs i x
    → after before (f (view x)) ≡ Some next
    → (length next ≤ most_hooks) × (after before (joined_lists f (meanings_of_nodes (drop i xs))) ≡ after next (joined_lists f (meanings_of_nodes (drop (i + 1) xs))))
found_at f before next xs i x within is e =
    let step : suc i ≡ i + 1 = omega arith in
    let here : drop i xs ≡ x ∷ drop (i + 1) xs = rw (← step) (drop-cons xs i x within ∙ ap (λ (y : Node). y ∷ drop (suc i) xs) (sym is)) in
    (after_within (f (view x)) before next e, rw here (after_joined f before next (view x) (meanings_of_nodes (drop (i + 1) xs)) e))

-- the list at an index is refused
pub refused_at : (f : Meaning → Option (List Hook)) (before : List Hook) (xs : List Node) (i : ℕ) (x : Node) → i < length xs → x ≡ get_or xs i x
    → after before (f (view x)) ≡ None → after before (joined_lists f (meanings_of_nodes (drop i xs))) ≡ None
refused_at f before xs i x within is e =
    let here : drop i xs ≡ x ∷ drop (suc i) xs = drop-cons xs i x within ∙ ap (λ (y : Node). y ∷ drop (suc i) xs) (sym is) in
    rw here (after_joined_refused f before (view x) (meanings_of_nodes (drop (suc i) xs)) e)

pub ruleset finding = (after_joined, after_joined_refused, after_nothing, after_within)
