-- The stages of hooks (githooks(5); pre-commit.com, "Confining hooks to run at certain stages"), their names,
-- and sets of them.
use Rattle.std.specs.Prelude.{ℕ, List, [], ◌∷◌, Bool, true, false, if◌then◌else◌, bytes_eq, codes, map, Option, Some, None}
use Rattle.std.specs.Borrow.{Bor}
use Rattle.hook_config.specs.declared.stage.Stage.{Stage}
use Rattle.hook_config.specs.declared.stage.Stage.TheVariants.{PreCommit, PreMergeCommit, PrePush, PrepareCommitMsg, CommitMsg, PostCheckout, PostCommit, PostMerge, PostRewrite, PreRebase, Manual}
use Rattle.hook_config.specs.declared.stage.Stages.{Stages}

-- the names that a configuration may give stages; `commit`, `merge-commit` and `push` are older ones
abbrev pub stage_names : List (List ℕ × Stage)
stage_names =
    (codes "pre-commit", PreCommit)
    ∷ (codes "commit", PreCommit)
    ∷ (codes "pre-merge-commit", PreMergeCommit)
    ∷ (codes "merge-commit", PreMergeCommit)
    ∷ (codes "pre-push", PrePush)
    ∷ (codes "push", PrePush)
    ∷ (codes "prepare-commit-msg", PrepareCommitMsg)
    ∷ (codes "commit-msg", CommitMsg)
    ∷ (codes "post-checkout", PostCheckout)
    ∷ (codes "post-commit", PostCommit)
    ∷ (codes "post-merge", PostMerge)
    ∷ (codes "post-rewrite", PostRewrite)
    ∷ (codes "pre-rebase", PreRebase)
    ∷ (codes "manual", Manual)
    ∷ []

-- the stage in the first row that has the word
abbrev pub stage_in : List (List ℕ × Stage) → List ℕ → Option Stage
stage_in [] word = None
stage_in (row ∷ rows) word = if bytes_eq row.0 word then Some row.1 else stage_in rows word

-- the stage that the word names
unfoldable pub stage_of_word : List ℕ → Option Stage
stage_of_word word = stage_in stage_names word

-- every stage, or none
abbrev pub each_stage : Bool → Stages
each_stage is_there = record {
  pre_commit = is_there;
  pre_merge_commit = is_there;
  pre_push = is_there;
  prepare_commit_msg = is_there;
  commit_msg = is_there;
  post_checkout = is_there;
  post_commit = is_there;
  post_merge = is_there;
  post_rewrite = is_there;
  pre_rebase = is_there;
  manual = is_there;
}

abbrev pub no_stages : Stages
no_stages = each_stage false

abbrev pub all_stages : Stages
all_stages = each_stage true

-- the stage is among these
abbrev pub has_stage : Stages → Stage → Bool
has_stage stages PreCommit = stages.pre_commit
has_stage stages PreMergeCommit = stages.pre_merge_commit
has_stage stages PrePush = stages.pre_push
has_stage stages PrepareCommitMsg = stages.prepare_commit_msg
has_stage stages CommitMsg = stages.commit_msg
has_stage stages PostCheckout = stages.post_checkout
has_stage stages PostCommit = stages.post_commit
has_stage stages PostMerge = stages.post_merge
has_stage stages PostRewrite = stages.post_rewrite
has_stage stages PreRebase = stages.pre_rebase
has_stage stages Manual = stages.manual

-- these stages, and this one too
abbrev pub with_stage : Stage → Stages → Stages
with_stage PreCommit stages = record stages { pre_commit = true }
with_stage PreMergeCommit stages = record stages { pre_merge_commit = true }
with_stage PrePush stages = record stages { pre_push = true }
with_stage PrepareCommitMsg stages = record stages { prepare_commit_msg = true }
with_stage CommitMsg stages = record stages { commit_msg = true }
with_stage PostCheckout stages = record stages { post_checkout = true }
with_stage PostCommit stages = record stages { post_commit = true }
with_stage PostMerge stages = record stages { post_merge = true }
with_stage PostRewrite stages = record stages { post_rewrite = true }
with_stage PreRebase stages = record stages { pre_rebase = true }
with_stage Manual stages = record stages { manual = true }

-- the set of these stages
abbrev pub stages_among : List Stage → Stages
stages_among [] = no_stages
stages_among (stage ∷ stages) = with_stage stage (stages_among stages)

-- ---- for a contract of a private function alone

-- the rows of a slice
abbrev pub stage_rows : List (Bor (List ℕ) × Stage) → List (List ℕ × Stage)
stage_rows rows = map (λ (row : Bor (List ℕ) × Stage). (row.0.now, row.1)) rows
