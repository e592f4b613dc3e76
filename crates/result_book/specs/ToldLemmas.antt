-- Lemmas on what calls add to the cached answers.
use Rattle.std.specs.Prelude.{◌≡◌, ℕ, List, take}
use Rattle.std.proofs.Common.{inl, inr, sym, subst}
use Rattle.child_port.specs.declared.answer.Answer.{Answer}
use Rattle.child_port.specs.declared.answer.Outcome.{Outcome}
use Rattle.hook_base.specs.declared.file.File.{File}
use Rattle.result_book.specs.Calls.{AfterFind, AfterForget, AfterPut}
use Rattle.result_book.specs.CallLemmas.{have_none}
use Rattle.result_book.specs.Contents.{Contents, with_rows}
use Rattle.result_book.specs.OrderLemmas.{first_have}
use Rattle.result_book.specs.Told.{AddsTold, IsTold, IsToldAnswer}

pub adds-none : (tells : List (List ℕ) → List File → Outcome → Type 0) (contents : Contents)
    → AddsTold tells contents contents
adds-none tells contents = λ words seen answer holds. inl holds

pub adds-then : (tells : List (List ℕ) → List File → Outcome → Type 0) (first second third : Contents)
    → AddsTold tells first second → AddsTold tells second third → AddsTold tells first third
adds-then tells first second third one two = λ words seen answer holds.
    elim (two words seen answer holds) [ inl old ↦ one words seen answer old | inr told ↦ inr told ]

pub adds-found : (tells : List (List ℕ) → List File → Outcome → Type 0) (words : List (List ℕ)) (seen : List File)
    (before after : Contents) → AfterFind words seen before after → AddsTold tells before after
adds-found tells words seen before after step = λ others theirs answer holds. inl (step.only others theirs answer holds)

same-told : (tells : List (List ℕ) → List File → Outcome → Type 0) (words others : List (List ℕ))
    (seen theirs : List File) (answer other : Answer)
    → words ≡ others → seen ≡ theirs → answer ≡ other → IsToldAnswer tells words seen answer
    → IsToldAnswer tells others theirs other
same-told tells words others seen theirs answer other p q r told =
    subst (λ (w : List (List ℕ)). IsToldAnswer tells w theirs other) p
    (subst (λ (s : List File). IsToldAnswer tells words s other) q
    (subst (λ (a : Answer). IsToldAnswer tells words seen a) r told))

pub adds-put : (tells : List (List ℕ) → List File → Outcome → Type 0) (words : List (List ℕ)) (seen : List File)
    (answer : Answer) (before after : Contents)
    → AfterPut words seen answer before after → IsToldAnswer tells words seen answer → AddsTold tells before after
adds-put tells words seen answer before after step told = λ others theirs other holds.
    elim (step.only others theirs other holds) [
      | inl new ↦ inr (same-told tells words others seen theirs answer other (sym new.0.0) (sym new.0.1) (sym new.1)
          told)
      | inr old ↦ inl old
    ]

pub told-adds : (tells : List (List ℕ) → List File → Outcome → Type 0) (before after : Contents) → IsTold tells before
    → AddsTold tells before after → IsTold tells after
told-adds tells before after told adds = λ words seen answer holds.
    elim (adds words seen answer holds) [ inl old ↦ told words seen answer old | inr new ↦ new ]

pub told-limited : (tells : List (List ℕ) → List File → Outcome → Type 0) (limit : ℕ) (before after : Contents)
    → IsTold tells before → after ≡ with_rows limit (take limit before.rows) → IsTold tells after
told-limited tells limit before after told is =
    subst (IsTold tells) (sym is) (λ words seen answer holds. told words seen answer
    (first_have words seen answer limit before.rows holds))

pub told-forgotten : (tells : List (List ℕ) → List File → Outcome → Type 0) (before after : Contents)
    → AfterForget before after → IsTold tells after
told-forgotten tells before after step =
    λ words seen answer holds. absurd (have_none words seen answer after.rows step.none holds)
