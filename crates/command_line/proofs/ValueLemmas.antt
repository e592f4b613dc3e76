-- From what `clap` answers to the values of a command.
use Rattle.std.proofs.Common.{◌≡◌, ◌≢◌, ◌∙◌, ap, ap₂, codes, refl, subst, sym, Bool, false, true, ◌-◌, ◌^◌, ◌<◌, ◌≤◌, ℕ, List, [], ◌∷◌, Option, None, Some, Ok, Err, Result, Bor, IfSome, option_map, arith}
use Rattle.std.proofs.lemmas.Bool.{false_from_ne_true}
use Rattle.std.proofs.lemmas.Slice.Eq.{bytes_eq-Decides}
use Rattle.std.specs.Prelude.{unwrap_or}
use Rattle.std.specs.Str.{bytes_eq}
use Rattle.std.specs.Str.Parse.{ParsesUnsigned}
use Rattle.clap.specs.Words.{HasKind, Text}
use Rattle.clap.specs.ValueTests.{is_unsigned_in}
use Rattle.clap.specs.declared.builder.value_parser.ValueParser.TheVariants.{Unsigned}
use Rattle.clap.specs.declared.error.Error.{Error}
use Rattle.clap.specs.declared.error.kind.ErrorKind.TheVariants.{InvalidValue}
use Rattle.command_line.proofs.Kit.{Accepts-accepts, accepts-Accepts}
use Rattle.hook_base.specs.declared.file.Mode.TheVariants.{Executable}
use Rattle.command_line.specs.declared.line.ColorChoice.{ColorChoice}
use Rattle.command_line.specs.declared.line.ColorChoice.TheVariants.{Auto}
use Rattle.command_line.specs.declared.line.FileVersion.{FileVersion}
use Rattle.command_line.specs.declared.line.FileVersion.TheVariants.{Staged, Fixed, Committed}
use Rattle.command_line.specs.declared.line.StageChoice.TheVariants.{PreCommit, Manual}
use Rattle.store_faults.specs.Limits.{IsLimit, most_answers}
use Rattle.command_line.specs.CommandLine.{IsValueOf, color_in, limit_number, maybe_up_to, mode_in, number_in, number_up_to, asked_stage_in, value_fault, version_in}

pub text_or : (found : Option (Bor (List ℕ))) (empty : Bor (List ℕ)) (text : List ℕ) (rows : Option (List ℕ))
    → empty.now ≡ [] → option_map (λ s. s.now) found ≡ rows → text ≡ (unwrap_or found empty).now → text ≡ unwrap_or rows []
text_or None empty text rows nothing known is = is ∙ nothing ∙ ap (λ r. unwrap_or r []) known
text_or (Some found) empty text rows nothing known is = is ∙ ap (λ r. unwrap_or r []) known

abbrev pub or_none : Option (List (List ℕ)) → List (List ℕ)
or_none texts = unwrap_or texts []

-- ---- the mode

-- what was found is the value that was given
given-is : (found given : Option Text) (held : Option (Bor Text)) (value : Option (Bor Text)) → option_map (λ s. s.now) held ≡ found → found ≡ given
    → held ≡ value → given ≡ option_map (λ s. s.now) value
given-is found given held value known same is = sym same ∙ sym known ∙ ap (option_map (λ s. s.now)) is

pub mode-none : (found given : Option Text) (held : Option (Bor Text)) → option_map (λ s. s.now) held ≡ found → found ≡ given → held ≡ None
    → mode_in given ≡ Some None
mode-none found given held known same is = ap mode_in (given-is found given held None known same is)

pub mode-executable : (found given : Option Text) (held : Option (Bor Text)) (value : Bor Text) → option_map (λ s. s.now) held ≡ found → found ≡ given
    → held ≡ Some value → value.now ≡ codes "+x" → mode_in given ≡ Some (Some Executable)
mode-executable found given held value known same is text =
    ap mode_in (given-is found given held (Some value) known same is ∙ ap (λ (t : Text). Some t) text)

pub mode-refused : (found given : Option Text) (held : Option (Bor Text)) (value : Bor Text) (error : Error) → option_map (λ s. s.now) held ≡ found
    → found ≡ given → held ≡ Some value → value.now ≢ codes "+x" → HasKind (InvalidValue ∷ []) error → HasKind (value_fault (mode_in given)) error
mode-refused found given held value error known same is other kind =
    let differs : bytes_eq value.now (codes "+x") ≡ false = false_from_ne_true _ (λ e. other ((bytes_eq-Decides value.now (codes "+x")).0 e)) in
    rw (given-is found given held (Some value) known same is, differs) kind

-- ---- the number

pub number-read : (text : Text) {E : Type 0} (parsed : Result ℕ E) (number : ℕ) → ParsesUnsigned 32 10 text parsed → parsed ≡ Ok number
    → number_in text ≡ Some number
number-read text {E} parsed number reads is =
    let ok : ParsesUnsigned {E = E} 32 10 text (Ok number) = subst (ParsesUnsigned {E = E} 32 10 text) is reads in
    let fits = ok.0.1 in
    let passes : is_unsigned_in 0 (2 ^ 32 - 1) text ≡ true =
    Accepts-accepts false (Unsigned 0 (2 ^ 32 - 1)) text (ok.0.0, omega (arith, fits), omega arith, omega (arith, fits)) in
    rw (passes, ok.1) refl

pub number-refused : (text : Text) {E : Type 0} (parsed : Result ℕ E) (refused : E) (error : Error) → ParsesUnsigned 32 10 text parsed → parsed ≡ Err refused
    → HasKind (InvalidValue ∷ []) error → HasKind (value_fault (number_in text)) error
number-refused text {E} parsed refused error reads is kind =
    let none : ParsesUnsigned {E = E} 32 10 text (Err refused) = subst (ParsesUnsigned {E = E} 32 10 text) is reads in
    let fails : is_unsigned_in 0 (2 ^ 32 - 1) text ≡ false = false_from_ne_true _ (λ e.
    let accepted = accepts-Accepts false (Unsigned 0 (2 ^ 32 - 1)) text e in
    let most = accepted.3 in
    none (accepted.0, omega (arith, most))) in
    rw fails kind

-- ---- a number from 1 to a most

pub up-to-read : (most : ℕ) (text : Text) {E : Type 0} (parsed : Result ℕ E) (number : ℕ) → ParsesUnsigned 32 10 text parsed → parsed ≡ Ok number
    → 1 ≤ number → number ≤ most → Some number ≡ number_up_to most text
up-to-read most text {E} parsed number reads is least below =
    let ok : ParsesUnsigned {E = E} 32 10 text (Ok number) = subst (ParsesUnsigned {E = E} 32 10 text) is reads in
    let fits = ok.0.1 in
    let told = ok.1 in
    let passes : is_unsigned_in 1 most text ≡ true =
    Accepts-accepts false (Unsigned 1 most) text (ok.0.0, omega (arith, fits), omega (arith, told, least), omega (arith, told, below)) in
    rw (passes, ok.1) refl

pub up-to-beyond : (most : ℕ) (text : Text) {E : Type 0} (parsed : Result ℕ E) (number : ℕ) → ParsesUnsigned 32 10 text parsed → parsed ≡ Ok number
    → ¬ (1 ≤ number × number ≤ most) → None ≡ number_up_to most text
up-to-beyond most text {E} parsed number reads is beyond =
    let ok : ParsesUnsigned {E = E} 32 10 text (Ok number) = subst (ParsesUnsigned {E = E} 32 10 text) is reads in
    let told = ok.1 in
    let fails : is_unsigned_in 1 most text ≡ false = false_from_ne_true _ (λ e.
    let accepted = accepts-Accepts false (Unsigned 1 most) text e in
    let least = accepted.2 in
    let below = accepted.3 in
    beyond (omega (arith, told, least), omega (arith, told, below))) in
    rw fails refl

pub up-to-unread : (most : ℕ) (text : Text) {E : Type 0} (parsed : Result ℕ E) (refused : E) → most < 2 ^ 32 → ParsesUnsigned 32 10 text parsed
    → parsed ≡ Err refused → None ≡ number_up_to most text
up-to-unread most text {E} parsed refused small reads is =
    let none : ParsesUnsigned {E = E} 32 10 text (Err refused) = subst (ParsesUnsigned {E = E} 32 10 text) is reads in
    let fails : is_unsigned_in 1 most text ≡ false = false_from_ne_true _ (λ e.
    let accepted = accepts-Accepts false (Unsigned 1 most) text e in
    let below = accepted.3 in
    none (accepted.0, omega (arith, below, small))) in
    rw fails refl

pub up-to-told : (most : ℕ) (text : Text) (found : Option ℕ) (number : ℕ) → found ≡ number_up_to most text → found ≡ Some number
    → maybe_up_to most (Some text) ≡ Some (Some number)
up-to-told most text found number told is = ap (option_map (λ (n : ℕ). Some n)) (sym told ∙ is)

pub up-to-untold : (most : ℕ) (text : Text) (found : Option ℕ) (error : Error) → found ≡ number_up_to most text → found ≡ None
    → HasKind (InvalidValue ∷ []) error → HasKind (value_fault (maybe_up_to most (Some text))) error
up-to-untold most text found error told is kind =
    let none : maybe_up_to most (Some text) ≡ None = ap (option_map (λ (n : ℕ). Some n)) (sym told ∙ is) in
    rw none kind

module _ (most : ℕ) (found given : Option Text) (held : Option (Bor Text)) (known : option_map (λ s. s.now) held ≡ found) (same : found ≡ given) where
  pub up-to-none : held ≡ None → maybe_up_to most given ≡ Some None
  up-to-none is = ap (maybe_up_to most) (given-is found given held None known same is)

  pub up-to-given : (value : Bor Text) (result : Result (Option ℕ) Error) → held ≡ Some value → IsValueOf (maybe_up_to most (Some value.now)) result
      → IsValueOf (maybe_up_to most given) result
  up-to-given value result is of =
      subst (λ (g : Option Text). IsValueOf (maybe_up_to most g) result) (sym (given-is found given held (Some value) known same is)) of

pub limit-read : (text : Text) {E : Type 0} (parsed : Result ℕ E) (number : ℕ) (read : Option ℕ) → ParsesUnsigned 32 10 text parsed → parsed ≡ Ok number
    → IfSome read (λ limit. (limit ≡ number) × IsLimit number) → (read ≡ None → ¬ IsLimit number) → read ≡ limit_number text
limit-read text {E} parsed number (Some limit) reads is taken refused =
    ap (λ (n : ℕ). Some n) taken.0 ∙ up-to-read most_answers text parsed number reads is taken.1.at_least taken.1.at_most
limit-read text {E} parsed number None reads is taken refused =
    up-to-beyond most_answers text parsed number reads is (λ within. refused refl (record { at_least = within.0; at_most = within.1 }))

-- ---- which bytes are asked for

number-none : (text : Text) {E : Type 0} (parsed : Result ℕ E) (refused : E) → ParsesUnsigned 32 10 text parsed → parsed ≡ Err refused → number_in text ≡ None
number-none text {E} parsed refused reads is =
    let none : ParsesUnsigned {E = E} 32 10 text (Err refused) = subst (ParsesUnsigned {E = E} 32 10 text) is reads in
    let fails : is_unsigned_in 0 (2 ^ 32 - 1) text ≡ false = false_from_ne_true _ (λ e.
    let accepted = accepts-Accepts false (Unsigned 0 (2 ^ 32 - 1)) text e in
    let most = accepted.3 in
    none (accepted.0, omega (arith, most))) in
    rw fails refl

pub commit-read : (text : Text) {E : Type 0} (parsed : Result ℕ E) (number : ℕ) → ParsesUnsigned 32 10 text parsed → parsed ≡ Ok number
    → version_in false (Some text) ≡ Some (Committed number)
commit-read text {E} parsed number reads is = ap (option_map Committed) (number-read text parsed number reads is)

pub commit-refused : (text : Text) {E : Type 0} (parsed : Result ℕ E) (refused : E) (error : Error) → ParsesUnsigned 32 10 text parsed → parsed ≡ Err refused
    → HasKind (InvalidValue ∷ []) error → HasKind (value_fault (version_in false (Some text))) error
commit-refused text {E} parsed refused error reads is kind = rw (number-none text parsed refused reads is) kind

module _ (flag fixed : Bool) (found given : Option Text) (held : Option (Bor Text)) (asked : fixed ≡ flag) (known : option_map (λ s. s.now) held ≡ found) (same : found ≡ given) where
  asked-is : (wanted : Bool) (value : Option (Bor Text)) → fixed ≡ wanted → held ≡ value → version_in flag given ≡ version_in wanted (option_map (λ s. s.now) value)
  asked-is wanted value is_so is = ap₂ version_in (sym asked ∙ is_so) (given-is found given held value known same is)

  pub version-fixed : fixed ≡ true → held ≡ None → version_in flag given ≡ Some Fixed
  version-fixed asked_so is = asked-is true None asked_so is

  pub version-staged : fixed ≡ false → held ≡ None → version_in flag given ≡ Some Staged
  version-staged unasked is = asked-is false None unasked is

  pub versions-refused : (value : Bor Text) (error : Error) → fixed ≡ true → held ≡ Some value → HasKind (InvalidValue ∷ []) error → HasKind (value_fault (version_in flag given)) error
  versions-refused value error asked_so is kind = subst (λ (v : Option FileVersion). HasKind (value_fault v) error) (sym (asked-is true (Some value) asked_so is)) kind

  pub version-committed : (value : Bor Text) (result : Result FileVersion Error) → fixed ≡ false → held ≡ Some value → IsValueOf (version_in false (Some value.now)) result
      → IsValueOf (version_in flag given) result
  version-committed value result unasked is of = subst (λ (v : Option FileVersion). IsValueOf v result) (sym (asked-is false (Some value) unasked is)) of

-- ---- the stage

pub stage-none : (found given : Option Text) (held : Option (Bor Text)) → option_map (λ s. s.now) held ≡ found → found ≡ given → held ≡ None
    → asked_stage_in given ≡ Some PreCommit
stage-none found given held known same is = ap asked_stage_in (given-is found given held None known same is)

pub stage-pre-commit : (found given : Option Text) (held : Option (Bor Text)) (value : Bor Text) → option_map (λ s. s.now) held ≡ found → found ≡ given
    → held ≡ Some value → value.now ≡ codes "pre-commit" → asked_stage_in given ≡ Some PreCommit
stage-pre-commit found given held value known same is text =
    ap asked_stage_in (given-is found given held (Some value) known same is ∙ ap (λ (t : Text). Some t) text)

pub stage-manual : (found given : Option Text) (held : Option (Bor Text)) (value : Bor Text) → option_map (λ s. s.now) held ≡ found → found ≡ given
    → held ≡ Some value → value.now ≡ codes "manual" → asked_stage_in given ≡ Some Manual
stage-manual found given held value known same is text =
    ap asked_stage_in (given-is found given held (Some value) known same is ∙ ap (λ (t : Text). Some t) text)

pub stage-refused : (found given : Option Text) (held : Option (Bor Text)) (value : Bor Text) (error : Error) → option_map (λ s. s.now) held ≡ found
    → found ≡ given → held ≡ Some value → value.now ≢ codes "pre-commit" → value.now ≢ codes "manual" → HasKind (InvalidValue ∷ []) error
    → HasKind (value_fault (asked_stage_in given)) error
stage-refused found given held value error known same is other another kind =
    let differs : bytes_eq value.now (codes "pre-commit") ≡ false = false_from_ne_true _ (λ e. other ((bytes_eq-Decides value.now (codes "pre-commit")).0 e)) in
    let differs_too : bytes_eq value.now (codes "manual") ≡ false = false_from_ne_true _ (λ e. another ((bytes_eq-Decides value.now (codes "manual")).0 e)) in
    rw (given-is found given held (Some value) known same is, differs, differs_too) kind

-- ---- the color

pub color-none : (found given : Option Text) (held : Option (Bor Text)) → option_map (λ s. s.now) held ≡ found → found ≡ given → held ≡ None
    → color_in given ≡ Some Auto
color-none found given held known same is = ap color_in (given-is found given held None known same is)

-- one of the words that are taken, and what it asks for
pub color-told : (word : Text) (asked : ColorChoice) (found given : Option Text) (held : Option (Bor Text)) (value : Bor Text) → color_in (Some word) ≡ Some asked
    → option_map (λ s. s.now) held ≡ found → found ≡ given → held ≡ Some value → value.now ≡ word → color_in given ≡ Some asked
color-told word asked found given held value taken known same is text =
    ap color_in (given-is found given held (Some value) known same is ∙ ap (λ (t : Text). Some t) text) ∙ taken

pub color-refused : (found given : Option Text) (held : Option (Bor Text)) (value : Bor Text) (error : Error) → option_map (λ s. s.now) held ≡ found
    → found ≡ given → held ≡ Some value → value.now ≢ codes "auto" → value.now ≢ codes "always" → value.now ≢ codes "never"
    → HasKind (InvalidValue ∷ []) error → HasKind (value_fault (color_in given)) error
color-refused found given held value error known same is no_auto no_always no_never kind =
    let differs : bytes_eq value.now (codes "auto") ≡ false = false_from_ne_true _ (λ e. no_auto ((bytes_eq-Decides value.now (codes "auto")).0 e)) in
    let differs_too : bytes_eq value.now (codes "always") ≡ false = false_from_ne_true _ (λ e. no_always ((bytes_eq-Decides value.now (codes "always")).0 e)) in
    let differs_last : bytes_eq value.now (codes "never") ≡ false = false_from_ne_true _ (λ e. no_never ((bytes_eq-Decides value.now (codes "never")).0 e)) in
    rw (given-is found given held (Some value) known same is, differs, differs_too, differs_last) kind

-- ---- a text that may be left out

pub text-given : (found given : Option Text) (held : Option (Bor Text)) (value : Bor Text) (text : Text) → option_map (λ s. s.now) held ≡ found
    → found ≡ given → held ≡ Some value → text ≡ value.now → Some text ≡ given
text-given found given held value text known same is copied =
    ap (λ (t : Text). Some t) copied ∙ sym (given-is found given held (Some value) known same is)

pub text-left-out : (found given : Option Text) (held : Option (Bor Text)) → option_map (λ s. s.now) held ≡ found → found ≡ given → held ≡ None
    → None ≡ given
text-left-out found given held known same is = sym (given-is found given held None known same is)
