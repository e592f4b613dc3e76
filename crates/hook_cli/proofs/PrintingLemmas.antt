-- What a command says on both writers, and the texts of refusals in pieces.
use Rattle.std.proofs.Common.{◌≡◌, ◌∙◌, ap, sym, subst, append_assoc, ℕ, List, [], ◌∷◌, ◌++◌, None, Some, Result, Ok, Err, inl, inr}
use Rattle.std.specs.Prelude.{OnErr, OnOk, codes}
use Rattle.std.specs.Fmt.{decimal}
use Rattle.std.proofs.lemmas.List.{append-nil}
use Rattle.report_text.specs.Report.{line}
use Rattle.commit_flow.specs.declared.host_refusal.HostRefusal.{HostRefusal}
use Rattle.commit_flow.specs.Refusals.{inner_number_of, host_refusal_name, host_refusal_number}
use Rattle.hook_cli.specs.declared.command_ending.CommandEnding.{CommandEnding}
use Rattle.hook_cli.specs.declared.command_ending.CommandEnding.TheVariants.{CutOff}
use Rattle.text_output.specs.Outputs.{Has, HasBeginning, IsSilent, Output}
use Rattle.hook_cli.specs.Printing.{IsSaid, IsPrintedOnStandardError, untaken_line}
use Rattle.hook_cli.specs.RefusalText.{inner_text, no_commit_text, no_file_text, no_fixed_text, refusal_text}

plain_pieces : (head number name : List ℕ) → head ++ (number ++ (32 ∷ (name ++ (10 ∷ [])))) ≡ line (head ++ number ++ codes " " ++ name ++ [])
plain_pieces head number name = simp (append_assoc, append-nil)

inner_pieces : (head number name inner : List ℕ)
    → head ++ (number ++ (32 ∷ (name ++ (32 ∷ (inner ++ (10 ∷ [])))))) ≡ line (head ++ number ++ codes " " ++ name ++ (codes " " ++ inner))
inner_pieces head number name inner = simp append_assoc

abbrev refusal_head : List ℕ
refusal_head = codes "hookhost: refused: "

pub told-plain : (wanted : CommandEnding) (err : Output) (ending : CommandEnding) (refusal : HostRefusal) (count : ℕ) (number name : List ℕ)
    → number ≡ decimal count → count ≡ host_refusal_number refusal → name ≡ host_refusal_name refusal → inner_number_of refusal ≡ None
    → IsPrintedOnStandardError wanted err (refusal_head ++ (number ++ (32 ∷ (name ++ (10 ∷ []))))) ending → IsPrintedOnStandardError wanted err (refusal_text refusal) ending
told-plain wanted err ending refusal count number name digits counted named none told =
    subst (λ (text : List ℕ). IsPrintedOnStandardError wanted err text ending)
    (plain_pieces refusal_head number name
    ∙ ap (λ number. line (refusal_head ++ number ++ codes " " ++ name ++ [])) (digits ∙ ap decimal counted)
    ∙ ap (λ name. line (refusal_head ++ decimal (host_refusal_number refusal) ++ codes " " ++ name ++ [])) named
    ∙ ap (λ inner. line (refusal_head ++ decimal (host_refusal_number refusal) ++ codes " " ++ host_refusal_name refusal ++ inner_text inner)) (sym none))
    told

pub told-inner : (wanted : CommandEnding) (err : Output) (ending : CommandEnding) (number name digits : List ℕ) (inner : ℕ) → digits ≡ decimal inner
    → IsPrintedOnStandardError wanted err (refusal_head ++ (number ++ (32 ∷ (name ++ (32 ∷ (digits ++ (10 ∷ []))))))) ending
    → IsPrintedOnStandardError wanted err (line (refusal_head ++ number ++ codes " " ++ name ++ inner_text (Some inner))) ending
told-inner wanted err ending number name digits inner is told =
    subst (λ (text : List ℕ). IsPrintedOnStandardError wanted err text ending)
    (inner_pieces refusal_head number name digits ∙ ap (λ digits. line (refusal_head ++ number ++ codes " " ++ name ++ (codes " " ++ digits))) is)
    told

abbrev no_commit_head : List ℕ
no_commit_head = codes "hookhost: no commit "

pub told-no-commit : (wanted : CommandEnding) (err : Output) (ending : CommandEnding) (digits : List ℕ) (number : ℕ) → digits ≡ decimal number
    → IsPrintedOnStandardError wanted err (no_commit_head ++ (digits ++ (10 ∷ []))) ending → IsPrintedOnStandardError wanted err (no_commit_text number) ending
told-no-commit wanted err ending digits number is told =
    subst (λ (text : List ℕ). IsPrintedOnStandardError wanted err text ending)
    (sym (append_assoc no_commit_head digits (10 ∷ [])) ∙ ap (λ digits. line (no_commit_head ++ digits)) is) told

abbrev no_fixed_head : List ℕ
no_fixed_head = codes "hookhost: no fixed bytes of "

pub told-no-fixed : (wanted : CommandEnding) (err : Output) (ending : CommandEnding) (path : List ℕ)
    → IsPrintedOnStandardError wanted err (no_fixed_head ++ (path ++ (10 ∷ []))) ending → IsPrintedOnStandardError wanted err (no_fixed_text path) ending
told-no-fixed wanted err ending path told =
    subst (λ (text : List ℕ). IsPrintedOnStandardError wanted err text ending) (sym (append_assoc no_fixed_head path (10 ∷ []))) told

abbrev no_file_head : List ℕ
no_file_head = codes "hookhost: no "

file_pieces : (head path behind digits : List ℕ) → head ++ (path ++ (behind ++ (digits ++ (10 ∷ [])))) ≡ line (head ++ path ++ behind ++ digits)
file_pieces head path behind digits = simp append_assoc

pub told-no-file : (wanted : CommandEnding) (err : Output) (ending : CommandEnding) (path digits : List ℕ) (number : ℕ) → digits ≡ decimal number
    → IsPrintedOnStandardError wanted err (no_file_head ++ (path ++ (codes " in commit " ++ (digits ++ (10 ∷ []))))) ending → IsPrintedOnStandardError wanted err (no_file_text number path) ending
told-no-file wanted err ending path digits number is told =
    subst (λ (text : List ℕ). IsPrintedOnStandardError wanted err text ending)
    (file_pieces no_file_head path (codes " in commit ") digits ∙ ap (λ digits. line (no_file_head ++ path ++ codes " in commit " ++ digits)) is) told

-- ---- the text of what is done

-- standard output took the text, or gave an error that standard error tells
pub said-of : {A E : Type 0} (wanted ending : CommandEnding) (written : Result A E) (out err : Output) (text : List ℕ)
    → OnOk written (Has out text) → OnErr written (HasBeginning out text)
    → OnOk written (IsSilent err × (ending ≡ wanted)) → OnErr written (IsPrintedOnStandardError CutOff err untaken_line ending)
    → IsSaid wanted out text err untaken_line ending
said-of wanted ending (Ok done) out err text has begun silent told = inl (has, silent.0, silent.1)
said-of wanted ending (Err refused) out err text has begun silent told = inr (begun, told)
