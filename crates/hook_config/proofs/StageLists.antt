-- Stages that are put into a set one after another.
use Rattle.std.proofs.Common.{◌≡◌, List, [], ◌∷◌, Option, Some, None, option_map, option_and_then, refl, ap, ◌∙◌}
use Rattle.yaml_lines.specs.Meaning.{Meaning}
use Rattle.hook_config.specs.Kinds.{each, stage_of}
use Rattle.hook_config.specs.Stages.{no_stages, with_stage, stages_among}
use Rattle.hook_config.specs.declared.stage.Stage.{Stage}
use Rattle.hook_config.specs.declared.stage.Stage.TheVariants.{PreCommit, PreMergeCommit, PrePush, PrepareCommitMsg, CommitMsg, PostCheckout, PostCommit, PostMerge, PostRewrite, PreRebase, Manual}
use Rattle.hook_config.specs.declared.stage.Stages.{Stages}

-- the set with these stages, the first of them first
abbrev pub put_all : Stages → List Stage → Stages
put_all stages [] = stages
put_all stages (stage ∷ more) = put_all (with_stage stage stages) more

swapped : (s t : Stage) (stages : Stages) → with_stage s (with_stage t stages) ≡ with_stage t (with_stage s stages)
swapped PreCommit t stages = elim t as (λ v. with_stage PreCommit (with_stage v stages) ≡ with_stage v (with_stage PreCommit stages)) [ PreCommit ↦ refl | _ ↦ refl ]
swapped PreMergeCommit t stages = elim t as (λ v. with_stage PreMergeCommit (with_stage v stages) ≡ with_stage v (with_stage PreMergeCommit stages)) [ PreCommit ↦ refl | _ ↦ refl ]
swapped PrePush t stages = elim t as (λ v. with_stage PrePush (with_stage v stages) ≡ with_stage v (with_stage PrePush stages)) [ PreCommit ↦ refl | _ ↦ refl ]
swapped PrepareCommitMsg t stages = elim t as (λ v. with_stage PrepareCommitMsg (with_stage v stages) ≡ with_stage v (with_stage PrepareCommitMsg stages)) [ PreCommit ↦ refl | _ ↦ refl ]
swapped CommitMsg t stages = elim t as (λ v. with_stage CommitMsg (with_stage v stages) ≡ with_stage v (with_stage CommitMsg stages)) [ PreCommit ↦ refl | _ ↦ refl ]
swapped PostCheckout t stages = elim t as (λ v. with_stage PostCheckout (with_stage v stages) ≡ with_stage v (with_stage PostCheckout stages)) [ PreCommit ↦ refl | _ ↦ refl ]
swapped PostCommit t stages = elim t as (λ v. with_stage PostCommit (with_stage v stages) ≡ with_stage v (with_stage PostCommit stages)) [ PreCommit ↦ refl | _ ↦ refl ]
swapped PostMerge t stages = elim t as (λ v. with_stage PostMerge (with_stage v stages) ≡ with_stage v (with_stage PostMerge stages)) [ PreCommit ↦ refl | _ ↦ refl ]
swapped PostRewrite t stages = elim t as (λ v. with_stage PostRewrite (with_stage v stages) ≡ with_stage v (with_stage PostRewrite stages)) [ PreCommit ↦ refl | _ ↦ refl ]
swapped PreRebase t stages = elim t as (λ v. with_stage PreRebase (with_stage v stages) ≡ with_stage v (with_stage PreRebase stages)) [ PreCommit ↦ refl | _ ↦ refl ]
swapped Manual t stages = elim t as (λ v. with_stage Manual (with_stage v stages) ≡ with_stage v (with_stage Manual stages)) [ PreCommit ↦ refl | _ ↦ refl ]

put_first : (stage : Stage) (stages : Stages) (more : List Stage) → put_all (with_stage stage stages) more ≡ with_stage stage (put_all stages more)
put_first stage stages [] = refl
put_first stage stages (next ∷ more) =
    ap (λ s. put_all s more) (swapped next stage stages) ∙ put_first stage (with_stage next stages) more

put_all-among : (found : List Stage) → put_all no_stages found ≡ stages_among found
put_all-among [] = refl
put_all-among (stage ∷ found) = put_first stage no_stages found ∙ ap (with_stage stage) (put_all-among found)

-- the set with the stages that were found
abbrev pub put_found : Stages → Option (List Stage) → Option Stages
put_found stages found = option_map (put_all stages) found

pub put_found-none : (found : Option (List Stage)) → put_found no_stages found ≡ option_map stages_among found
put_found-none None = refl
put_found-none (Some found) = ap Some (put_all-among found)

put_one : (stage : Stage) (found : Option (List Stage)) (stages : Stages)
    → put_found stages (option_map (λ others. stage ∷ others) found) ≡ put_found (with_stage stage stages) found
put_one stage None stages = refl
put_one stage (Some found) stages = refl

-- the first item is a stage
pub put_found-more : (stages : Stages) (stage : Stage) (m : Meaning) (ms : List Meaning) → stage_of m ≡ Some stage
    → put_found stages (each stage_of (m ∷ ms)) ≡ put_found (with_stage stage stages) (each stage_of ms)
put_found-more stages stage m ms e =
    ap (λ (first : Option Stage). put_found stages (option_and_then (λ s. option_map (λ others. s ∷ others) (each stage_of ms)) first)) e
    ∙ put_one stage (each stage_of ms) stages

-- the first item is none
pub put_found-refused : (stages : Stages) (m : Meaning) (ms : List Meaning) → stage_of m ≡ None → put_found stages (each stage_of (m ∷ ms)) ≡ None
put_found-refused stages m ms e =
    ap (λ (first : Option Stage). put_found stages (option_and_then (λ s. option_map (λ others. s ∷ others) (each stage_of ms)) first)) e

pub ruleset listing = (put_found-none, put_found-more, put_found-refused)
