-- The commands of the program, as `clap` finds them.
use Rattle.std.proofs.Common.{◌≡◌, ◌∙◌, ap, ap₂, inl, inr, refl, subst, sym, ◌||◌, Bool, false, true, List, [], ◌∷◌, Option, None, Some, Ok, Err, Result, Bor, IfOk, IsErrAnd, option_map}
use Rattle.std.specs.Prelude.{Box}
use Rattle.std.specs.Box.{box_value}
use Rattle.clap.specs.Built.{AddsArg}
use Rattle.clap.specs.Faults.{fault_of, is_simple_and_free}
use Rattle.clap.specs.Kinds.{FailsBy, HasKind, Kinds, or_else}
use Rattle.clap.specs.Matches.{found_of}
use Rattle.clap.specs.Simple.{App, HasMatchesOf, is_simple, subcommand_of, subcommand_rows, subcommand_rows_of}
use Rattle.clap.specs.Walk.{Row, Text, rows_of}
use Rattle.clap.specs.declared.builder.arg.Arg.{Arg}
use Rattle.clap.specs.declared.builder.command.Command.{Command}
use Rattle.clap.specs.declared.builder.command.Command.TheViews.{out-Command}
use Rattle.clap.specs.declared.error.Error.{Error}
use Rattle.clap.specs.declared.parser.matches.ArgMatches.{ArgMatches}
use Rattle.clap.specs.declared.parser.matches.ArgMatches.TheViews.{out-SubCommand}
use Rattle.clap.specs.declared.parser.matches.SubCommand.{SubCommand}
use Rattle.command_line.proofs.Kit.{clap_on_literals}
use Rattle.command_line.specs.CommandLine.{hookhost_app}

some-is : {X : Type 0} (a b : X) → Some a ≡ Some b → a ≡ b
some-is a b is = cc

-- ---- what `clap` states of the program

hookhost_is_simple : is_simple hookhost_app ≡ true
unfolding clap_on_literals
hookhost_is_simple = refl

hookhost_is_free : is_simple_and_free hookhost_app ≡ true
unfolding clap_on_literals
hookhost_is_free = refl

pub rows_found : (app : App) (words : List Text) (found : Result ArgMatches Error) → app ≡ hookhost_app → IfOk found (HasMatchesOf app words)
    → IfOk found (λ m. subcommand_rows_of m ≡ subcommand_of hookhost_app words)
rows_found app words (Err error) is has = tt
rows_found app words (Ok matches) is has =
    let same : HasMatchesOf hookhost_app words matches = subst (λ a. HasMatchesOf a words matches) is has in
    (same hookhost_is_simple).1

pub kinds_found : (app : App) (words : List Text) (found : Result ArgMatches Error) → app ≡ hookhost_app
    → (is_simple_and_free app ≡ true → FailsBy (fault_of app words) found) → FailsBy (fault_of hookhost_app words) found
kinds_found app words found is kinds =
    subst (λ a. is_simple_and_free a ≡ true → FailsBy (fault_of a words) found) is kinds hookhost_is_free

-- the command that was met, with its values
module _ {Z : Type 0} where
  pub command-met : (met : Option (Bor Text × Bor ArgMatches)) (sub : Option (Box SubCommand Z))
      → option_map (λ p. p.0.now) met ≡ option_map (λ b. (out-SubCommand (box_value b)).name.now) sub
      → option_map (λ p. rows_of (found_of p.1.now)) met ≡ option_map (λ (p : Text × List Row). p.1) (subcommand_rows sub)
      → option_map (λ p. (p.0.now, rows_of (found_of p.1.now))) met ≡ subcommand_rows sub
  command-met None None name rows = refl
  command-met None (Some b) name rows = cc
  command-met (Some p) None name rows = cc
  command-met (Some p) (Some b) name rows = ap₂ (λ (n : Text) (r : List Row). Some (n, r)) (some-is _ _ name) (some-is _ _ rows)

-- ---- four values more

or-false : (b : Bool) → (b || false) ≡ b
or-false true = refl
or-false false = refl

-- a value that no command below takes too changes nothing of whether there are such
one-local : (old made : Command) (arg : Arg) → AddsArg old arg made → arg.global ≡ false → (out-Command made).has_globals ≡ (out-Command old).has_globals
one-local old made arg adds local = adds.globals ∙ ap (λ (g : Bool). (out-Command old).has_globals || g) local ∙ or-false _

-- and so do four
pub still-local : {E : Type 0} (old one two three : Command) (first second third fourth : Arg) (result : Result Command E) → AddsArg old first one
    → first.global ≡ false → AddsArg one second two → second.global ≡ false → AddsArg two third three → third.global ≡ false
    → IfOk result (λ made. AddsArg three fourth made) → fourth.global ≡ false
    → IfOk result (λ made. (out-Command made).has_globals ≡ (out-Command old).has_globals)
still-local old one two three first second third fourth (Err error) adds local also locally next next_local last last_local = tt
still-local old one two three first second third fourth (Ok made) adds local also locally next next_local last last_local =
    one-local three made fourth last last_local ∙ one-local two three third next next_local ∙ one-local one two second also locally
    ∙ one-local old one first adds local

-- ---- the refusals

-- a refusal of `clap` comes before that of a value
fails-first : (kinds next : Kinds) (error : Error) → HasKind kinds error → HasKind (or_else kinds next) error
fails-first [] next error (inl memory) = inl memory
fails-first [] next error (inr among) = absurd among
fails-first (kind ∷ kinds) next error has = has

pub returned-first : {T : Type 0} (kinds next : Kinds) (error : Error) (returned : Result T Error) → IsErrAnd returned (λ e. e ≡ error)
    → HasKind kinds error → FailsBy (or_else kinds next) returned
returned-first kinds next error (Ok value) is has = absurd is
returned-first kinds next error (Err same) is has = subst (HasKind (or_else kinds next)) (sym is) (fails-first kinds next error has)
