-- How the commands over a repository end.
use Rattle.std.proofs.Common.{◌≡◌, sym, subst, refl, inl, inr, ℕ, List, [], Option, None, Some, option_map, Ok, Err}
use Rattle.sqlite_trees.specs.declared.store.Store.{Ghosts}
use Rattle.repo_store.specs.AllOrNothing.{IsAllOrNothing}
use Rattle.repo_store.specs.Kept.{Kept, accepting, limiting}
use Rattle.store_faults.specs.Limits.{IsLimit}
use Rattle.repo_store.specs.Shown.{IsOneTransaction}
use Rattle.result_book.specs.Contents.{count_of}
use Rattle.repo_store.specs.StoreBooks.{remembered_by}
use Rattle.commit_flow.specs.AnswerLimits.{IsLimitRefusal}
use Rattle.commit_flow.specs.declared.command.Command.TheVariants as command
use Rattle.commit_flow.specs.declared.host_refusal.HostRefusal.{HostRefusal}
use Rattle.commit_flow.specs.declared.reply.Reply.TheVariants.{Accepted, Limited, Refused}
use Rattle.commit_flow.specs.Stops.{IsOneCommand}
use Rattle.commit_flow.specs.declared.host.Host.{Host}
use Rattle.commit_flow.specs.Steps.{IsAcceptRefusal, Step}
use Rattle.command_line.specs.declared.line.LookUp.{LookUp}
use Rattle.hook_cli.specs.declared.command_ending.CommandEnding.{CommandEnding}
use Rattle.hook_cli.specs.declared.command_ending.CommandEnding.TheVariants as ends
use Rattle.hook_cli.specs.CommandOver.{IsAcceptOver, IsAnswer, IsLimitOver, IsLookUp, IsRefusalText}
use Rattle.hook_cli.specs.MemoryText.{remembered_text}
use Rattle.repository_text.specs.FixesText.{accepted_text}
use Rattle.text_output.specs.Outputs.{IsSilent, Output}
use Rattle.hook_cli.specs.Printing.{IsSaid, IsPrintedOnStandardError, untaken_line}
use Rattle.hook_cli.specs.RefusalText.{refusal_text}
use Rattle.text_output.specs.OutputLemmas.{keeps-itself}

-- ---- look-ups

pub looked-up : (kept : Kept) (look_up : LookUp) (out err : Output) (ending : CommandEnding) (text : List ℕ) → IsAnswer kept look_up text
    → IsSaid ends.Done out text err untaken_line ending → IsLookUp kept look_up out err ending
looked-up kept look_up out err ending text answer said = inl (record { text = text; answer = answer; said = said })

pub look-up-refused : (kept : Kept) (look_up : LookUp) (out err : Output) (ending : CommandEnding) (text : List ℕ) → IsRefusalText kept.repo look_up text
    → IsPrintedOnStandardError ends.Refused err text ending → IsSilent out → IsLookUp kept look_up out err ending
look-up-refused kept look_up out err ending text refusal told silent = inr (record { text = text; refusal = refusal; told = told; silent = silent })

pub none-mapped : {A B : Type 0} (f : A → B) (found : Option A) → None ≡ option_map f found → found ≡ None
none-mapped f None none = refl
none-mapped f (Some x) none = cc

pub silent-itself : (held : Option (List ℕ)) → IsSilent (record { held = held; holds = held })
silent-itself held = keeps-itself held

-- ---- the fixes are accepted

pub accepted-said : {S : Type 0} (g : Ghosts S) (old new : Host S) (out err : Output) (ending : CommandEnding) (number : ℕ)
    → Step old.store.kept.repo command.Accept (Accepted number) [] new.store.kept.repo
    → IsAllOrNothing {E = HostRefusal} old.store.kept new.store.kept (Ok number) (accepting old.store.kept)
    → IsOneCommand g old.store new.store command.Accept (Accepted number)
    → IsSaid ends.Done out (accepted_text number) err untaken_line ending → IsAcceptOver g old new out err ending
accepted-said g old new out err ending number step change one said = record {
  answer = Ok tt;
  step = (record { some = step.0.some; counted = refl; made = step.0.made }, refl);
  change = record { done = change.done; same = tt };
  one = record { stands = one.stands; crash = one.crash; durable = one.durable };
  apart = λ h. h;
  collides = tt;
  replied = subst (λ (number : ℕ). IsSaid ends.Done out (accepted_text number) err untaken_line ending) step.0.counted said;
}

pub accept-refused : {S : Type 0} (g : Ghosts S) (old new : Host S) (out err : Output) (ending : CommandEnding) (refusal : HostRefusal)
    → Step old.store.kept.repo command.Accept (Refused refusal) [] new.store.kept.repo
    → IsAllOrNothing {A = ℕ} old.store.kept new.store.kept (Err refusal) (accepting old.store.kept)
    → IsOneCommand g old.store new.store command.Accept (Refused refusal)
    → IsPrintedOnStandardError ends.Refused err (refusal_text refusal) ending → IsSilent out → IsAcceptOver g old new out err ending
accept-refused g old new out err ending refusal step change one told silent = record {
  answer = Err refusal;
  step = step;
  change = record { done = tt; same = change.same };
  one = one;
  apart = tt;
  collides = λ is. subst (λ (r : HostRefusal). IsAcceptRefusal old.store.kept.repo r) is step.0.0;
  replied = (silent, told);
}

-- ---- the limit is set

-- a limit that the command line takes is one of the store's
pub limit-fits : (limit number : ℕ) → number ≡ limit → IsLimit limit → IsLimit number
limit-fits limit number is within = subst IsLimit (sym is) within

module _ {S : Type 0} (g : Ghosts S) (old new : Host S) (out err : Output) (ending : CommandEnding) (limit taken : ℕ) (is : taken ≡ limit) where
  pub limit-said : (number : ℕ) → Step old.store.kept.repo (command.Limit taken) (Limited number) [] new.store.kept.repo
      → IsOneCommand g old.store new.store (command.Limit taken) (Limited number)
      → IsAllOrNothing {E = HostRefusal} old.store.kept new.store.kept (Ok number) (limiting taken old.store.kept)
      → IsOneTransaction {E = HostRefusal} g old.store new.store (Ok number) (limiting taken old.store.kept)
      → number ≡ count_of (remembered_by new.store.kept) → IsSaid ends.Done out (remembered_text number) err untaken_line ending
      → IsLimitOver g old new limit out err ending
  limit-said number step one change transaction left said =
      subst (λ (n : ℕ). IsLimitOver g old new n out err ending) is
      (record {
        answer = Ok number;
        step = step;
        change = change;
        one = one;
        transaction = transaction;
        left = left;
        refused = tt;
        said = said;
      })

  pub limit-refused : (refusal : HostRefusal) → Step old.store.kept.repo (command.Limit taken) (Refused refusal) [] new.store.kept.repo
      → IsOneCommand g old.store new.store (command.Limit taken) (Refused refusal)
      → IsAllOrNothing {A = ℕ} old.store.kept new.store.kept (Err refusal) (limiting taken old.store.kept)
      → IsOneTransaction {A = ℕ} g old.store new.store (Err refusal) (limiting taken old.store.kept)
      → IsLimitRefusal refusal → IsPrintedOnStandardError ends.Refused err (refusal_text refusal) ending → IsSilent out → IsLimitOver g old new limit out err ending
  limit-refused refusal step one change transaction why told silent =
      subst (λ (n : ℕ). IsLimitOver g old new n out err ending) is
      (record {
        answer = Err refusal;
        step = step;
        change = change;
        one = one;
        transaction = transaction;
        left = tt;
        refused = why;
        said = (silent, told);
      })
