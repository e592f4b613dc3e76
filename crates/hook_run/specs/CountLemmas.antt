-- Lemmas on the counts of the children over the parts that they reported.
use Rattle.std.specs.Prelude.{◌+◌, ◌≤◌, List, [], ◌∷◌, length}
use Rattle.std.proofs.Common.{arith}
use Rattle.child_port.specs.Outcomes.{faults_in}
use Rattle.child_port.specs.declared.answer.Outcome.{Outcome}
use Rattle.child_port.specs.declared.answer.Outcome.TheVariants.{Done, Failed}
use Rattle.hook_run.specs.Answers.{IsCounted}
use Rattle.hook_run.specs.Moments.{Moment}
use Rattle.hook_run.specs.Parts.{Part, faults_of}

one-fault-at-most : (outcome : Outcome) → faults_in outcome ≤ 1
one-fault-at-most (Done answer) = omega arith
one-fault-at-most (Failed fault) = omega arith

pub faults-among-parts : (parts : List Part) → faults_of parts ≤ length parts
faults-among-parts [] = omega arith
faults-among-parts (part ∷ parts) =
    let one = one-fault-at-most part.outcome in
    let rest = faults-among-parts parts in
    omega arith

-- neither count falls, and no more faults are added than calls
pub record Rises (from to : Moment) : Type 0 where
  pub calls : from.calls ≤ to.calls
  pub faults : from.faults ≤ to.faults
  pub faults_are_calls : to.faults + from.calls ≤ from.faults + to.calls

pub rises : (from to : Moment) (started : List Part) → IsCounted from to started → Rises from to
rises from to started counted =
    let called = counted.called in
    let faulted = counted.faulted in
    let among = faults-among-parts started in
    record { calls = omega arith; faults = omega arith; faults_are_calls = omega arith }

pub rises-then : (first second third : Moment) → Rises first second → Rises second third → Rises first third
rises-then first second third one two =
    let calls = one.calls in
    let faults = one.faults in
    let among = one.faults_are_calls in
    let more_calls = two.calls in
    let more_faults = two.faults in
    let more_among = two.faults_are_calls in
    record { calls = omega arith; faults = omega arith; faults_are_calls = omega arith }
