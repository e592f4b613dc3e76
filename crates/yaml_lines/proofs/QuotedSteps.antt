-- One step of a quoted text after those that were read.
use Rattle.std.proofs.Common.{◌≡◌, ℕ, zero, suc, ◌+◌, ◌-◌, ◌<◌, ◌≤◌, List, [], ◌++◌, Option, Some, None, option_map, option_and_then, refl, sym, ap, ◌∙◌, arith, append_assoc}
use Rattle.std.proofs.lemmas.List.{append-nil}
use Rattle.std.specs.Char.{encode_utf8}
use Rattle.yaml_lines.specs.Quoted.{QuotedStep, Quoted, behind, step_of, quoted_within}

-- characters in front of a quoted text
abbrev pub prefixed : List ℕ → Option Quoted → Option Quoted
prefixed read o = option_map (λ q. record { text = read ++ q.text; rest = q.rest }) o

abbrev after : ℕ → ℕ → QuotedStep → Option Quoted
after mark m step = behind (quoted_within mark m) step.rest step.character

within_step : (mark m : ℕ) (cs : List ℕ) → quoted_within mark (suc m) cs ≡ option_and_then (after mark m) (step_of mark cs)
unfolding quoted_within
within_step mark m cs = refl

within_none : (mark : ℕ) (cs : List ℕ) → quoted_within mark zero cs ≡ None
unfolding quoted_within
within_none mark cs = refl

prefixed-push : (read more : List ℕ) (o : Option Quoted) → prefixed read (option_map (λ q. record { text = more ++ q.text; rest = q.rest }) o) ≡ prefixed (read ++ more) o
prefixed-push read more None = refl
prefixed-push read more (Some q) =
    let f : List ℕ → Option Quoted = λ bs. Some (record { text = bs; rest = q.rest }) in ap f (sym (append_assoc read more q.text))

one_step : (mark n i : ℕ) (cs read : List ℕ) (o : Option QuotedStep) → i < n → step_of mark cs ≡ o
    → prefixed read (quoted_within mark (n - i) cs) ≡ prefixed read (option_and_then (after mark (n - (i + 1))) o)
one_step mark n i cs read o within e =
    let fuel : n - i ≡ suc (n - (i + 1)) = omega arith in
    ap (λ (m : ℕ). prefixed read (quoted_within mark m cs)) fuel
    ∙ (ap (prefixed read) (within_step mark (n - (i + 1)) cs) ∙ ap (λ (o : Option QuotedStep). prefixed read (option_and_then (after mark (n - (i + 1))) o)) e)

pub step_on : (mark n i : ℕ) (cs read : List ℕ) (step : QuotedStep) (c : ℕ) → i < n → step_of mark cs ≡ Some step → step.character ≡ Some c
    → prefixed read (quoted_within mark (n - i) cs) ≡ prefixed (read ++ encode_utf8 c) (quoted_within mark (n - (i + 1)) step.rest)
step_on mark n i cs read step c within e is =
    one_step mark n i cs read (Some step) within e
    ∙ (ap (λ (o : Option ℕ). prefixed read (behind (quoted_within mark (n - (i + 1))) step.rest o)) is
    ∙ prefixed-push read (encode_utf8 c) (quoted_within mark (n - (i + 1)) step.rest))

pub step_end : (mark n i : ℕ) (cs read : List ℕ) (step : QuotedStep) → i < n → step_of mark cs ≡ Some step → step.character ≡ None
    → prefixed read (quoted_within mark (n - i) cs) ≡ Some (record { text = read; rest = step.rest })
step_end mark n i cs read step within e is =
    let f : List ℕ → Option Quoted = λ bs. Some (record { text = bs; rest = step.rest }) in
    one_step mark n i cs read (Some step) within e
    ∙ (ap (λ (o : Option ℕ). prefixed read (behind (quoted_within mark (n - (i + 1))) step.rest o)) is ∙ ap f (append-nil read))

pub step_fault : (mark n i : ℕ) (cs read : List ℕ) → i < n → step_of mark cs ≡ None → prefixed read (quoted_within mark (n - i) cs) ≡ None
step_fault mark n i cs read within e = one_step mark n i cs read None within e

pub no_steps : (mark n i : ℕ) (cs read : List ℕ) → n ≤ i → prefixed read (quoted_within mark (n - i) cs) ≡ None
no_steps mark n i cs read past =
    let fuel : n - i ≡ 0 = omega arith in
    ap (λ (m : ℕ). prefixed read (quoted_within mark m cs)) fuel ∙ ap (prefixed read) (within_none mark cs)

same : (o : Option Quoted) → prefixed [] o ≡ o
same None = refl
same (Some q) = refl

pub no_step_yet : (mark : ℕ) (cs read : List ℕ) (n : ℕ) → read ≡ [] → quoted_within mark n cs ≡ prefixed read (quoted_within mark (n - 0) cs)
no_step_yet mark cs read n e =
    let fuel : n ≡ n - 0 = omega arith in
    ap (λ (m : ℕ). quoted_within mark m cs) fuel ∙ (sym (same (quoted_within mark (n - 0) cs)) ∙ ap (λ (bs : List ℕ). prefixed bs (quoted_within mark (n - 0) cs)) (sym e))

-- ---- what follows a quoted text, whatever its text

abbrev rest_of : Option Quoted → Option (List ℕ)
rest_of o = option_map (λ q. q.rest) o

rest_kept : (read : List ℕ) (o : Option Quoted) → rest_of (prefixed read o) ≡ rest_of o
rest_kept read None = refl
rest_kept read (Some q) = refl

pub rest_on : (mark n i : ℕ) (cs : List ℕ) (step : QuotedStep) (c : ℕ) → i < n → step_of mark cs ≡ Some step → step.character ≡ Some c
    → rest_of (quoted_within mark (n - i) cs) ≡ rest_of (quoted_within mark (n - (i + 1)) step.rest)
rest_on mark n i cs step c within e is =
    sym (rest_kept [] (quoted_within mark (n - i) cs))
    ∙ (ap rest_of (step_on mark n i cs [] step c within e is) ∙ rest_kept ([] ++ encode_utf8 c) (quoted_within mark (n - (i + 1)) step.rest))

pub rest_end : (mark n i : ℕ) (cs : List ℕ) (step : QuotedStep) → i < n → step_of mark cs ≡ Some step → step.character ≡ None → rest_of (quoted_within mark (n - i) cs) ≡ Some step.rest
rest_end mark n i cs step within e is = sym (rest_kept [] (quoted_within mark (n - i) cs)) ∙ ap rest_of (step_end mark n i cs [] step within e is)

pub rest_fault : (mark n i : ℕ) (cs : List ℕ) → i < n → step_of mark cs ≡ None → rest_of (quoted_within mark (n - i) cs) ≡ None
rest_fault mark n i cs within e = sym (rest_kept [] (quoted_within mark (n - i) cs)) ∙ ap rest_of (step_fault mark n i cs [] within e)

pub no_rest : (mark n i : ℕ) (cs : List ℕ) → n ≤ i → rest_of (quoted_within mark (n - i) cs) ≡ None
no_rest mark n i cs past = sym (rest_kept [] (quoted_within mark (n - i) cs)) ∙ ap rest_of (no_steps mark n i cs [] past)
