-- Why the hooks after a commit were stopped, and what a run says.
use Rattle.std.proofs.Common.{◌≡◌, ◌∙◌, ap, subst, append_assoc, ℕ, List, [], ◌∷◌, ◌++◌}
use Rattle.std.specs.Prelude.{codes}
use Rattle.std.specs.Fmt.{decimal}
use Rattle.report_text.specs.Report.{line}
use Rattle.hook_run.specs.declared.run_refusal.RunRefusal.{RunRefusal}
use Rattle.hook_run.specs.Refusals.{run_refusal_name, run_refusal_number}
use Rattle.hook_cli.specs.declared.command_ending.CommandEnding.{CommandEnding}
use Rattle.text_output.specs.Outputs.{Output}
use Rattle.hook_cli.specs.Printing.{IsPrintedOnStandardError, untaken_line}
use Rattle.hook_cli.specs.RunText.{made_line, reported_text, stopped_text}

abbrev refusal_head : List ℕ
refusal_head = codes "hookhost: refused: "

stopped_pieces : (head number name : List ℕ) → head ++ (number ++ (32 ∷ (name ++ (10 ∷ [])))) ≡ line (head ++ number ++ codes " " ++ name)
stopped_pieces head number name = simp append_assoc

pub told-stopped : (wanted : CommandEnding) (err : Output) (ending : CommandEnding) (refusal : RunRefusal) (count : ℕ) (number name : List ℕ) → number ≡ decimal count
    → count ≡ run_refusal_number refusal → name ≡ run_refusal_name refusal → IsPrintedOnStandardError wanted err (refusal_head ++ (number ++ (32 ∷ (name ++ (10 ∷ []))))) ending
    → IsPrintedOnStandardError wanted err (stopped_text refusal) ending
told-stopped wanted err ending refusal count number name digits counted named told =
    subst (λ (text : List ℕ). IsPrintedOnStandardError wanted err text ending)
    (stopped_pieces refusal_head number name
    ∙ ap (λ number. line (refusal_head ++ number ++ codes " " ++ name)) (digits ∙ ap decimal counted)
    ∙ ap (λ name. line (refusal_head ++ decimal (run_refusal_number refusal) ++ codes " " ++ name)) named)
    told

-- ---- that a commit was made

abbrev made_head : List ℕ
made_head = codes "hookhost: commit "

abbrev made_end : List ℕ
made_end = codes " was made"

made_pieces : (untaken head digits end : List ℕ)
    → untaken ++ (head ++ (digits ++ (end ++ (10 ∷ [])))) ≡ untaken ++ line (head ++ digits ++ end)
made_pieces untaken head digits end = simp append_assoc

pub told-made : (wanted : CommandEnding) (err : Output) (ending : CommandEnding) (digits : List ℕ) (number : ℕ) → digits ≡ decimal number
    → IsPrintedOnStandardError wanted err (untaken_line ++ (made_head ++ (digits ++ (made_end ++ (10 ∷ []))))) ending
    → IsPrintedOnStandardError wanted err (untaken_line ++ made_line number) ending
told-made wanted err ending digits number is told =
    subst (λ (text : List ℕ). IsPrintedOnStandardError wanted err text ending)
    (made_pieces untaken_line made_head digits made_end ∙ ap (λ digits. untaken_line ++ line (made_head ++ digits ++ made_end)) is) told

made_and_stopped_pieces : (untaken head digits end refused number name : List ℕ)
    → untaken ++ (head ++ (digits ++ (end ++ (10 ∷ (refused ++ (number ++ (32 ∷ (name ++ (10 ∷ [])))))))))
    ≡ untaken ++ (line (head ++ digits ++ end) ++ line (refused ++ number ++ codes " " ++ name))
made_and_stopped_pieces untaken head digits end refused number name = simp append_assoc

abbrev made_text : List ℕ → List ℕ → List ℕ → List ℕ
made_text digits number name =
    untaken_line ++ (line (made_head ++ digits ++ made_end) ++ line (refusal_head ++ number ++ codes " " ++ name))

pub told-made-and-stopped : (wanted : CommandEnding) (err : Output) (ending : CommandEnding) (refusal : RunRefusal) (made count : ℕ) (digits number name : List ℕ)
    → digits ≡ decimal made → number ≡ decimal count → count ≡ run_refusal_number refusal → name ≡ run_refusal_name refusal
    → IsPrintedOnStandardError wanted err (untaken_line ++ (made_head ++ (digits ++ (made_end ++ (10 ∷ (refusal_head ++ (number ++ (32 ∷ (name ++ (10 ∷ [])))))))))) ending
    → IsPrintedOnStandardError wanted err (untaken_line ++ (made_line made ++ stopped_text refusal)) ending
told-made-and-stopped wanted err ending refusal made count digits number name is numbered counted named told =
    subst (λ (text : List ℕ). IsPrintedOnStandardError wanted err text ending)
    (made_and_stopped_pieces untaken_line made_head digits made_end refusal_head number name
    ∙ ap (λ digits. made_text digits number name) is ∙ ap (λ number. made_text (decimal made) number name) (numbered ∙ ap decimal counted)
    ∙ ap (λ name. made_text (decimal made) (decimal (run_refusal_number refusal)) name) named)
    told

-- ---- what a run says

-- what is reported, as slices of what the run gave
pub reported-as : (P : List ℕ → Type 0) (text report : List ℕ) (ids unsteady : List (List ℕ)) → text ≡ report → ids ≡ unsteady → P (reported_text text ids) → P (reported_text report unsteady)
reported-as P text report ids unsteady same named holds =
    subst (λ (first : List ℕ). P (reported_text first unsteady)) same (subst (λ (names : List (List ℕ)). P (reported_text text names)) named holds)
