use Rattle.std.proofs.Common.{◌≡◌, ◌⊎◌, ◌++◌, ◌∙◌, List, ℕ, [], Result, Ok, Err, IfOk, IfErr, MatchResult, inl, inr, sym, ap, map}
use Rattle.std.proofs.lemmas.Iterator.{YieldsList-from_chars}
use Rattle.std.proofs.lemmas.Iterator.Consumers.{YieldsList-end}
use Rattle.std.specs.Str.{chars}
use Rattle.std.proofs.lemmas.List.{append-nil, map-id}
use Rattle.arg_partition.specs.declared.words_fault.WordsFault.{WordsFault}
use Rattle.arg_partition.specs.declared.words_fault.WordsFault.TheVariants.{OutOfMemory}
use Rattle.arg_partition.specs.Words.{Reading, words_of_characters}
use Rattle.arg_partition.specs.WordsSoFar.{resumed}
use Rattle.arg_partition.proofs.entry_words.words.Goals as goal

cut : (done : List (List ℕ)) (begun : List ℕ) (rest whole : Reading) (result : Result (List (List ℕ)) WordsFault) → resumed done begun rest ≡ whole
    → MatchResult result (λ words. resumed done begun rest ≡ Ok words) (λ fault. (fault ≡ OutOfMemory) ⊎ (rest ≡ Err fault)) → IfOk result (λ words. whole ≡ Ok words)
cut done begun rest whole (Ok words) same ended = sym same ∙ ended
cut done begun rest whole (Err fault) same ended = tt

refused : (done : List (List ℕ)) (begun : List ℕ) (rest whole : Reading) (result : Result (List (List ℕ)) WordsFault) → resumed done begun rest ≡ whole
    → MatchResult result (λ words. resumed done begun rest ≡ Ok words) (λ fault. (fault ≡ OutOfMemory) ⊎ (rest ≡ Err fault)) → IfErr result (λ fault. (fault ≡ OutOfMemory) ⊎ (whole ≡ Err fault))
refused done begun rest whole (Ok words) same ended = tt
refused done begun rest whole (Err fault) same ended =
    elim ended [ inl want ↦ inl want | inr is ↦ inr (sym same ∙ ap (resumed done begun) is) ]

whole : (all yielded : List ℕ) → map (λ c. c) yielded ≡ all → words_of_characters (yielded ++ []) ≡ words_of_characters all
whole all yielded same = ap words_of_characters (append-nil yielded ∙ (sym (map-id yielded) ∙ same))

pub returns-clause-cut : goal.returns-clause-cut
returns-clause-cut c =
    let all = YieldsList-end (YieldsList-from_chars c.args.text.now c.utf8.text cc) c.characters.yielded _ c.characters.yielded_by _ _ c.in-None.is c.next.ensures.steps in
    cut _ _ _ _ _ (c.characters.invariant [] ∙ whole (chars c.args.text.now) c.characters.yielded all.0) c.ended.ensures

pub returns-clause-refused : goal.returns-clause-refused
returns-clause-refused c =
    let all = YieldsList-end (YieldsList-from_chars c.args.text.now c.utf8.text cc) c.characters.yielded _ c.characters.yielded_by _ _ c.in-None.is c.next.ensures.steps in
    refused _ _ _ _ _ (c.characters.invariant [] ∙ whole (chars c.args.text.now) c.characters.yielded all.0) c.ended.ensures
