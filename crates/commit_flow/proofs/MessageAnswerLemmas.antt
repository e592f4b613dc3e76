-- Over children that give one answer hooks about a message have one answer.
use Rattle.std.proofs.Common.{◌≡◌, ◌⊎◌, ◌∙◌, ap, inl, inr, sym, subst, refl, ℕ, Bool, List, []}
use Rattle.hook_base.specs.declared.file.File.{File}
use Rattle.child_port.specs.declared.answer.Outcome.{Outcome}
use Rattle.hook_config.specs.declared.configuration.Config.{Config}
use Rattle.hook_run.specs.OneAnswer.{OneAnswer}
use Rattle.hook_run.specs.Parts.{Part, all_parts}
use Rattle.hook_run.specs.RunOuts.{IsRunOut}
use Rattle.hook_run.specs.SameRuns.{GiveSame}
use Rattle.store_faults.specs.Limits.{IsSmall}
use Rattle.repo_store.specs.Repository.{Repository}
use Rattle.commit_flow.specs.declared.command.Command.TheVariants.{Message}
use Rattle.commit_flow.specs.declared.host_refusal.HostRefusal.TheVariants.{OutOfMemory, Store, TooLarge, NoConfig, BadConfig, Collision, Spent}
use Rattle.commit_flow.specs.declared.message_ask.MessageAsk.{MessageAsk}
use Rattle.commit_flow.specs.declared.reply.Reply.{Reply}
use Rattle.commit_flow.specs.declared.reply.Reply.TheVariants.{MessageRan, Refused}
use Rattle.commit_flow.specs.CommitStages.{StageTold, message_in}
use Rattle.commit_flow.specs.Configured.{IsConfiguredFor, LacksConfig}
use Rattle.commit_flow.specs.MessageRuns.{ask_about, tree_about}
use Rattle.commit_flow.specs.Steps.{Step}
use Rattle.commit_flow.specs.TwoHosts.{IsUnhindered, without_memory}
use Rattle.commit_flow.proofs.RunAnswerLemmas.{AreAlike, IsRefusedSo, refused_alike}
use Rattle.commit_flow.proofs.StageAnswerLemmas.{AreClear, clear_as, not_lacking, same_config_for, same_out}

ran_as : (passed verdict : Bool) (report text left message : List ℕ) → passed ≡ verdict → report ≡ text → left ≡ message → MessageRan passed report left ≡ MessageRan verdict text message
ran_as passed verdict report text left message p r l = cc

module _ (tells : List (List ℕ) → List File → Outcome → Type 0) (before : Repository) (ask : MessageAsk) (message : List ℕ) where
  -- the hooks were run, and the reply tells what they gave
  record AreRun (config : Config) (reply : Reply) (parts : List Part) (after : Repository) : Type 0 where
    told : StageTold
    run : IsRunOut config (ask_about ask) (tree_about before ask.stage message) told.trace told.out
    traced : parts ≡ all_parts told.trace
    is : reply ≡ MessageRan told.out.passed told.out.report (message_in told.out.tree)
    same : after ≡ before

  -- what may be answered, in order
  abbrev ConfigWay : Reply → List Part → Repository → Type 0
  ConfigWay reply parts after =
      (LacksConfig before × IsRefusedSo before NoConfig reply after) ⊎ ((config : Config) × IsConfiguredFor ask.options before config × AreRun config reply parts after)

  abbrev MessageWay : Reply → List Part → Repository → Type 0
  MessageWay reply parts after = ((¬ IsSmall message) × IsRefusedSo before TooLarge reply after) ⊎ (IsSmall message × ConfigWay reply parts after)

  message_way : (reply : Reply) (parts : List Part) (after : Repository) → Step before (Message ask message) reply parts after → IsUnhindered reply → MessageWay reply parts after
  message_way (MessageRan passed report left) parts after step unhindered = inr (
    step.small,
    inr (
      step.config,
      step.configured,
      record {
        told = step.told;
        run = step.run;
        traced = step.traced;
        is = ran_as passed step.told.out.passed report step.told.out.report left (message_in step.told.out.tree) step.verdict step.reported step.message_left;
        same = step.same;
      },
    ),
  )
  message_way (Refused TooLarge) parts after step unhindered = inl (step.0.0, record { is = refl; left = step.1 })
  message_way (Refused NoConfig) parts after step unhindered = inr (step.0.0.0, inl (step.0.0.1, record { is = refl; left = step.1 }))
  message_way (Refused OutOfMemory) parts after step unhindered = absurd unhindered
  message_way (Refused (Store fault)) parts after step unhindered = absurd unhindered
  message_way (Refused (BadConfig fault)) parts after step unhindered = absurd unhindered
  message_way (Refused Collision) parts after step unhindered = absurd unhindered
  message_way (Refused Spent) parts after step unhindered = absurd unhindered
  message_way (Refused refusal) parts after step unhindered = absurd step.0.0.2
  message_way reply parts after step unhindered = absurd step

  module _ (alone : OneAnswer tells) (reply second : Reply) (parts more : List Part) (after other : Repository) (clear : AreClear tells parts) (also : AreClear tells more) where
    same_hooks : (config : Config) → AreRun config reply parts after → AreRun config second more other → AreAlike reply second after other
    same_hooks config p q =
        let same : GiveSame p.told.out q.told.out = same_out tells alone config (ask_about ask) (tree_about before ask.stage message)
        p.told.trace q.told.trace p.told.out q.told.out p.run q.run
        (clear_as tells parts (all_parts p.told.trace) p.traced clear) (clear_as tells more (all_parts q.told.trace) q.traced also) in (
          ap without_memory (p.is
              ∙ ran_as p.told.out.passed q.told.out.passed p.told.out.report q.told.out.report (message_in p.told.out.tree) (message_in q.told.out.tree)
              same.passed same.report (ap message_in same.tree)
              ∙ sym q.is),
          p.same ∙ sym q.same,
        )

    same_configured : ConfigWay reply parts after → ConfigWay second more other → AreAlike reply second after other
    same_configured (inl p) (inl q) = refused_alike before after other NoConfig NoConfig reply second refl p.1 q.1
    same_configured (inl p) (inr q) = absurd (not_lacking before q.1.read p.0 q.1.configured)
    same_configured (inr p) (inl q) = absurd (not_lacking before p.1.read q.0 p.1.configured)
    same_configured (inr p) (inr q) =
        same_hooks p.0 p.2 (subst (λ (config : Config). AreRun config second more other) (same_config_for ask.options before q.0 p.0 q.1 p.1) q.2)

    same_way : MessageWay reply parts after → MessageWay second more other → AreAlike reply second after other
    same_way (inl p) (inl q) = refused_alike before after other TooLarge TooLarge reply second refl p.1 q.1
    same_way (inl p) (inr q) = absurd (p.0 q.0)
    same_way (inr p) (inl q) = absurd (q.0 p.0)
    same_way (inr p) (inr q) = same_configured p.1 q.1

  pub same_message_run : (alone : OneAnswer tells) (reply second : Reply) (parts more : List Part) (after other : Repository)
      → Step before (Message ask message) reply parts after → Step before (Message ask message) second more other → IsUnhindered reply → IsUnhindered second
      → AreClear tells parts → AreClear tells more → AreAlike reply second after other
  same_message_run alone reply second parts more after other step then unhindered both clear also =
      same_way alone reply second parts more after other clear also (message_way reply parts after step unhindered) (message_way second more other then both)
