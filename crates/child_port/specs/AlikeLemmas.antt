-- Lemmas: `==` of answers and of outcomes holds exactly if they are the same.
use Rattle.std.specs.Prelude.{◌≡◌, ℕ, List, refl}
use Rattle.std.specs.Bool.{Decides}
use Rattle.std.specs.Cmp.Lexicographic.{bytes_decides, pointwise_decides}
use Rattle.std.proofs.Common.{ap}
use Rattle.std.proofs.lemmas.Bool.Decides.{Decides-eqb}
use Rattle.child_port.specs.declared.answer.Answer.{Answer}
use Rattle.child_port.specs.declared.answer.Outcome.{Outcome}
use Rattle.child_port.specs.declared.answer.Outcome.TheVariants.{Done, Failed}
use Rattle.child_port.specs.declared.fault.Fault.{Fault}
use Rattle.child_port.specs.declared.fault.Fault.TheVariants.{NotStarted, WaitFailed, Signal, OutputTooLong, ScratchFailed}
use Rattle.child_port.specs.contracts.answer.AnswerPartialEq.TheImpl as answer_eq
use Rattle.child_port.specs.contracts.answer.OutcomePartialEq.TheImpl as outcome_eq
use Rattle.child_port.specs.contracts.fault.FaultPartialEq.TheImpl as fault_eq
use Rattle.hook_base.specs.AlikeLemmas.{and_decides, same_decides, change_decides}
use Rattle.hook_base.specs.declared.change.Change.{Change}

abbrev answer_of : ℕ → List ℕ → List Change → Answer
answer_of status output changes = record { status = status; output = output; changes = changes }

same_answer : (s t : ℕ) (x y : List ℕ) (a b : List Change) → s ≡ t → x ≡ y → a ≡ b → answer_of s x a ≡ answer_of t y b
same_answer s t x y a b status output changes = cc

pub answer_decides : (a b : Answer) → Decides (answer_eq.ghosts.eq a b) (a ≡ b)
answer_decides a b =
    same_decides _ (and_decides _ _ (Decides-eqb a.status b.status)
    (and_decides _ _ (bytes_decides a.output b.output) (pointwise_decides change_decides a.changes b.changes)))
    (λ h. same_answer _ _ _ _ _ _ h.0 h.1.0 h.1.1)
    (λ h. (
      ap (λ (answer : Answer). answer.status) h,
      (ap (λ (answer : Answer). answer.output) h, ap (λ (answer : Answer). answer.changes) h),
    ))

fault_decides : (a b : Fault) → Decides (fault_eq.ghosts.eq a b) (a ≡ b)
fault_decides NotStarted NotStarted = (λ h. refl, λ h. refl)
fault_decides NotStarted WaitFailed = (λ h. cc, λ h. cc)
fault_decides NotStarted Signal = (λ h. cc, λ h. cc)
fault_decides NotStarted OutputTooLong = (λ h. cc, λ h. cc)
fault_decides NotStarted ScratchFailed = (λ h. cc, λ h. cc)
fault_decides WaitFailed NotStarted = (λ h. cc, λ h. cc)
fault_decides WaitFailed WaitFailed = (λ h. refl, λ h. refl)
fault_decides WaitFailed Signal = (λ h. cc, λ h. cc)
fault_decides WaitFailed OutputTooLong = (λ h. cc, λ h. cc)
fault_decides WaitFailed ScratchFailed = (λ h. cc, λ h. cc)
fault_decides Signal NotStarted = (λ h. cc, λ h. cc)
fault_decides Signal WaitFailed = (λ h. cc, λ h. cc)
fault_decides Signal Signal = (λ h. refl, λ h. refl)
fault_decides Signal OutputTooLong = (λ h. cc, λ h. cc)
fault_decides Signal ScratchFailed = (λ h. cc, λ h. cc)
fault_decides OutputTooLong NotStarted = (λ h. cc, λ h. cc)
fault_decides OutputTooLong WaitFailed = (λ h. cc, λ h. cc)
fault_decides OutputTooLong Signal = (λ h. cc, λ h. cc)
fault_decides OutputTooLong OutputTooLong = (λ h. refl, λ h. refl)
fault_decides OutputTooLong ScratchFailed = (λ h. cc, λ h. cc)
fault_decides ScratchFailed NotStarted = (λ h. cc, λ h. cc)
fault_decides ScratchFailed WaitFailed = (λ h. cc, λ h. cc)
fault_decides ScratchFailed Signal = (λ h. cc, λ h. cc)
fault_decides ScratchFailed OutputTooLong = (λ h. cc, λ h. cc)
fault_decides ScratchFailed ScratchFailed = (λ h. refl, λ h. refl)

pub outcome_decides : (a b : Outcome) → Decides (outcome_eq.ghosts.eq a b) (a ≡ b)
outcome_decides (Done a) (Done b) = (λ h. ap Done ((answer_decides a b).0 h), λ h. (answer_decides a b).1 (cc))
outcome_decides (Done a) (Failed f) = (λ h. cc, λ h. cc)
outcome_decides (Failed f) (Done b) = (λ h. cc, λ h. cc)
outcome_decides (Failed f) (Failed g) = (λ h. ap Failed ((fault_decides f g).0 h), λ h. (fault_decides f g).1 (cc))
