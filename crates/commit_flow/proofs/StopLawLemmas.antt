-- What a stop leaves of a list of commands, and of sessions one after another.
use Rattle.std.proofs.Common.{◌≡◌, ◌⊎◌, inl, inr, sym, subst, refl, ap, arith, ℕ, List, [], ◌∷◌, ◌++◌, map}
use Rattle.sqlite_trees.specs.declared.store.Store.{Ghosts}
use Rattle.sqlite_trees.specs.Tree.{Trees}
use Rattle.sqlite.specs.Held.{state}
use Rattle.sqlite.specs.State.{HasCleanDisk}
use Rattle.hook_base.specs.declared.file.File.{File}
use Rattle.child_port.specs.declared.answer.Outcome.{Outcome}
use Rattle.hook_run.specs.Moments.{Moment}
use Rattle.hook_run.specs.Parts.{Part}
use Rattle.repo_store.specs.Answers.{KeptAnswer}
use Rattle.repo_store.specs.Kept.{Kept}
use Rattle.repo_store.specs.Repository.{Repository}
use Rattle.repo_store.specs.Shown.{Leaves, Shown}
use Rattle.repo_store.proofs.AlikeLemmas.{left_alike}
use Rattle.result_book.specs.Contents.{Contents, HaveRow}
use Rattle.repo_store.specs.StoreBooks.{MayRemember, remembered_by, row_of}
use Rattle.result_book.specs.Told.{IsTold}
use Rattle.result_book.specs.ToldLemmas.{told-adds}
use Rattle.commit_flow.specs.declared.command.Command.{Command}
use Rattle.commit_flow.specs.declared.reply.Reply.{Reply}
use Rattle.commit_flow.specs.declared.reply.Reply.TheVariants.{Added, Removed, Staged, Accepted, Ran, MessageRan, Committed, HooksFailed, Forgot, Limited, EditRefused, Refused}
use Rattle.commit_flow.specs.Commands.{IsDone}
use Rattle.commit_flow.specs.StoppedPlays.{ArePlayedSafely, AreRefused, AreSessions, IsLeftOf, IsReachedNext, IsSession, IsStepOver, LeavesSessions, Session}
use Rattle.commit_flow.specs.Stops.{IsPlayedSafely, LeavesStopped, Reaches}
use Rattle.commit_flow.proofs.PlayLemmas.{one_adds}

-- ---- stores of the same trees

-- two stores that the same trees are remember the same
told_alike : (tells : List (List ℕ) → List File → Outcome → Type 0) (trees : Trees) (a b : Kept) → Leaves a trees → Leaves b trees → IsTold tells (remembered_by a) → IsTold tells (remembered_by b)
told_alike tells trees a b first second told = λ words seen answer holds.
    told words seen answer (subst (λ (answers : List KeptAnswer). HaveRow words seen answer (map row_of answers)) (left_alike trees b a second first).answers holds)

-- ---- a reply is one of a command that is done, or of one that isn't

done_or_not : (reply : Reply) → IsDone reply ⊎ (¬ IsDone reply)
done_or_not Added = inl tt
done_or_not Removed = inl tt
done_or_not Staged = inl tt
done_or_not (Accepted number) = inl tt
done_or_not (Ran passed report changes unsteady) = inl tt
done_or_not (MessageRan passed report left) = inr (λ done. done)
done_or_not (Committed number reports post) = inl tt
done_or_not (HooksFailed stage reports) = inl tt
done_or_not (Forgot number) = inl tt
done_or_not (Limited number) = inl tt
done_or_not (EditRefused stop) = inr (λ done. done)
done_or_not (Refused refusal) = inr (λ done. done)

module _ {S : Type 0} (g : Ghosts S) (tells : List (List ℕ) → List File → Outcome → Type 0) where
  -- ---- the disk stays clean backwards

  was_clean : (from to : Moment) (old new : Shown S) (commands : List Command) (replies : List Reply) (answered : List (List Part)) → ArePlayedSafely g tells from to old new commands replies answered
      → HasCleanDisk (state g new.conn) → HasCleanDisk (state g old.conn)
  was_clean from to old new [] [] [] played clean = subst (λ (shown : Shown S). HasCleanDisk (state g shown.conn)) played.same clean
  was_clean from to old new (command ∷ commands) (reply ∷ replies) (own ∷ answered) played clean =
      let later = was_clean played.between to played.shown new commands replies answered played.rest clean in
      omega (arith, played.first.safe.crash.clean, later)
  was_clean from to old new commands replies answered played clean = absurd played

  -- ---- what is remembered

  -- each that a stop may leave remembered was told
  abbrev AllTold : Shown S → Type 0
  AllTold shown = (book : Contents) → MayRemember g shown book → IsTold tells book

  module _ (from to : Moment) (old new : Shown S) (command : Command) (reply : Reply) (one : IsPlayedSafely g tells from to old new command reply) (told : IsTold tells (remembered_by old.kept))
      (all : AllTold old) where
    stopped_told : (parts : List Part) (trees : Trees) (left : LeavesStopped g tells old command parts trees) → IsTold tells (remembered_by left.kept)
    stopped_told parts trees left = elim left.book [
      | inl earlier ↦ all (remembered_by left.kept) earlier
      | inr adds ↦ told-adds tells (remembered_by old.kept) (remembered_by left.kept) told adds
    ]

    still_told : AllTold new
    still_told book may = elim (one.safe.crash.crash may.clean may.trees may.may) [
      | inl earlier ↦ all book (record { clean = omega (arith, one.safe.crash.clean, may.clean); trees = may.trees; may = earlier; kept = may.kept; leaves = may.leaves; remembers = may.remembers })
      | inr left ↦ subst (IsTold tells) (sym may.remembers)
          (told_alike tells may.trees left.kept may.kept left.leaves may.leaves (stopped_told (one.played.parts ++ one.played.left_out) may.trees left))
    ]

    told_then : IsTold tells (remembered_by new.kept)
    told_then =
        subst (IsTold tells) one.exit (told-adds tells from.remembered to.remembered (subst (IsTold tells) (sym one.entry) told)
        (one_adds tells from to old.kept.repo command reply new.kept.repo one.played))

  all_told : (from to : Moment) (old new : Shown S) (commands : List Command) (replies : List Reply) (answered : List (List Part)) → ArePlayedSafely g tells from to old new commands replies answered
      → IsTold tells (remembered_by old.kept) → AllTold old → AllTold new
  all_told from to old new [] [] [] played told all = subst AllTold (sym played.same) all
  all_told from to old new (command ∷ commands) (reply ∷ replies) (own ∷ answered) played told all =
      all_told played.between to played.shown new commands replies answered played.rest
      (told_then from played.between old played.shown command reply played.first told all)
      (still_told from played.between old played.shown command reply played.first told all)
  all_told from to old new commands replies answered played told all = absurd played

  -- ---- the repository

  -- the trees are a store of what a stop leaves of the commands
  record IsLeftSo (before : Repository) (commands : List Command) (replies : List Reply) (answered : List (List Part)) (trees : Trees) : Type 0 where
    pub kept : Kept
    pub leaves : Leaves kept trees
    pub left : IsLeftOf before commands replies answered kept.repo

  -- none of the commands is made
  none_made : (before : Repository) (commands : List Command) (replies : List Reply) (answered : List (List Part)) (left : Repository) → AreRefused replies
      → (left ≡ before) ⊎ IsReachedNext before commands answered left
      → IsLeftOf before commands replies answered left
  none_made before commands replies answered left refused more = record {
    made = [];
    ahead = commands;
    split = refl;
    given = [];
    others = replies;
    replied = refl;
    refused = refused;
    own = [];
    later = answered;
    cut = refl;
    reached = before;
    steps = refl;
    more = more;
  }

  -- the first is made, and then some of the others
  first_made : (before between : Repository) (command : Command) (commands : List Command) (reply : Reply) (replies : List Reply) (own : List Part) (answered : List (List Part)) (left : Repository)
      → IsStepOver before command reply own between
      → IsLeftOf between commands replies answered left → IsLeftOf before (command ∷ commands) (reply ∷ replies) (own ∷ answered) left
  first_made before between command commands reply replies own answered left step rest = record {
    made = command ∷ rest.made;
    ahead = rest.ahead;
    split = ap (λ (more : List Command). command ∷ more) rest.split;
    given = reply ∷ rest.given;
    others = rest.others;
    replied = ap (λ (more : List Reply). reply ∷ more) rest.replied;
    refused = rest.refused;
    own = own ∷ rest.own;
    later = rest.later;
    cut = ap (λ (more : List (List Part)). own ∷ more) rest.cut;
    reached = rest.reached;
    steps = (between, step, rest.steps);
    more = rest.more;
  }

  step_over : (from to : Moment) (old new : Shown S) (command : Command) (reply : Reply) (own : List Part) (one : IsPlayedSafely g tells from to old new command reply)
      → own ≡ one.played.parts ++ one.played.left_out
      → IsStepOver old.kept.repo command reply own new.kept.repo
  step_over from to old new command reply own one all = record { first = one.played.parts; others = one.played.left_out; stretch = all; step = one.played.step }

  -- either a stop could leave the trees at the entry, and no command was done since, or they are what it leaves of the commands
  abbrev AreLeftSo : Shown S → List Command → List Reply → List (List Part) → Trees → Type 0
  AreLeftSo old commands replies answered trees = ((state g old.conn).may_leave trees × AreRefused replies) ⊎ IsLeftSo old.kept.repo commands replies answered trees

  -- one command, and then others that were refused
  module _ (from to : Moment) (old new : Shown S) (command : Command) (reply : Reply) (own : List Part) (one : IsPlayedSafely g tells from to old new command reply)
      (all : own ≡ one.played.parts ++ one.played.left_out)
      (commands : List Command) (replies : List Reply) (answered : List (List Part)) (clean : HasCleanDisk (state g new.conn)) (trees : Trees) (may : (state g new.conn).may_leave trees)
      (refused : AreRefused replies) where
    first_done : IsDone reply → IsLeftSo old.kept.repo (command ∷ commands) (reply ∷ replies) (own ∷ answered) trees
    first_done done =
        let left = one.safe.durable done clean trees may in
        record {
          kept = left.kept;
          leaves = left.leaves;
          left = first_made old.kept.repo new.kept.repo command commands reply replies own answered left.kept.repo (step_over from to old new command reply own one all)
              (none_made new.kept.repo commands replies answered left.kept.repo refused (inl left.same));
        }

    first_refused : (¬ IsDone reply) → AreLeftSo old (command ∷ commands) (reply ∷ replies) (own ∷ answered) trees
    first_refused never = elim (one.safe.crash.crash clean trees may) [
      | inl earlier ↦ inl (earlier, (never, refused))
      | inr left ↦ inr (record {
        kept = left.kept;
        leaves = left.leaves;
        left = none_made old.kept.repo (command ∷ commands) (reply ∷ replies) (own ∷ answered) left.kept.repo (never, refused) (elim left.repo [
          | inl same ↦ inl same
          | inr reached ↦ inr (subst (λ (parts : List Part). Reaches old.kept.repo command parts left.kept.repo) (sym all) reached)
        ]);
      })
    ]

    left_by_first : AreLeftSo old (command ∷ commands) (reply ∷ replies) (own ∷ answered) trees
    left_by_first = elim (done_or_not reply) [ inl done ↦ inr (first_done done) | inr never ↦ first_refused never ]

  left_so : (from to : Moment) (old new : Shown S) (commands : List Command) (replies : List Reply) (answered : List (List Part)) → ArePlayedSafely g tells from to old new commands replies answered
      → HasCleanDisk (state g new.conn) → (trees : Trees) → (state g new.conn).may_leave trees → AreLeftSo old commands replies answered trees
  left_so from to old new [] [] [] played clean trees may = inl (subst (λ (shown : Shown S). (state g shown.conn).may_leave trees) played.same may, tt)
  left_so from to old new (command ∷ commands) (reply ∷ replies) (own ∷ answered) played clean trees may =
      elim (left_so played.between to played.shown new commands replies answered played.rest clean trees may) [
        | inl earlier ↦ left_by_first from played.between old played.shown command reply own played.first played.all commands replies answered
            (was_clean played.between to played.shown new commands replies answered played.rest clean) trees earlier.0 earlier.1
        | inr later ↦ inr (record {
          kept = later.kept;
          leaves = later.leaves;
          left =
              first_made old.kept.repo played.shown.kept.repo command commands reply replies own answered later.kept.repo
              (step_over from played.between old played.shown command reply own played.first played.all) later.left;
        })
      ]
  left_so from to old new commands replies answered played clean trees may = absurd played

  -- ---- sessions

  module _ (found left : Trees) (session : Session) (it : IsSession g tells found session left) (kept : Kept) (leaves : Leaves kept found) (told : IsTold tells (remembered_by kept)) where
    opened_told : IsTold tells (remembered_by it.old.kept)
    opened_told = told_alike tells found kept it.old.kept leaves it.opened told

    opened_all : AllTold it.old
    opened_all book may =
        let only = it.only may.clean may.trees may.may in
        subst (IsTold tells) (sym may.remembers) (told_alike tells may.trees it.old.kept may.kept only may.leaves opened_told)

    -- nothing but what was opened is left where no command was done
    left_session : IsLeftSo it.old.kept.repo session.commands session.replies session.answered left
    left_session = elim (left_so it.from it.to it.old it.new session.commands session.replies session.answered it.played it.clean left it.may) [
      | inl earlier ↦ record {
        kept = it.old.kept;
        leaves = it.only (was_clean it.from it.to it.old it.new session.commands session.replies session.answered it.played it.clean) left earlier.0;
        left = none_made it.old.kept.repo session.commands session.replies session.answered it.old.kept.repo earlier.1 (inl refl);
      }
      | inr so ↦ so
    ]

    same_repo : it.old.kept.repo ≡ kept.repo
    same_repo = (left_alike found it.old.kept kept it.opened leaves).repo

    session_left : IsLeftOf kept.repo session.commands session.replies session.answered left_session.kept.repo
    session_left = subst (λ (repo : Repository). IsLeftOf repo session.commands session.replies session.answered left_session.kept.repo) same_repo left_session.left

    session_told : IsTold tells (remembered_by left_session.kept)
    session_told =
        all_told it.from it.to it.old it.new session.commands session.replies session.answered it.played opened_told opened_all (remembered_by left_session.kept)
        (record { clean = it.clean; trees = left; may = it.may; kept = left_session.kept; leaves = left_session.leaves; remembers = refl })

    session_leaves : (left_kept : Kept) × Leaves left_kept left × IsLeftOf kept.repo session.commands session.replies session.answered left_kept.repo × IsTold tells (remembered_by left_kept)
    session_leaves = (left_session.kept, left_session.leaves, session_left, session_told)

  pub sessions_left : (found left : Trees) (sessions : List Session) (kept : Kept) → Leaves kept found → IsTold tells (remembered_by kept) → AreSessions g tells found sessions left
      → LeavesSessions tells kept.repo sessions left
  sessions_left found left [] kept leaves told all = record { kept = kept; leaves = subst (Leaves kept) (sym all) leaves; left = refl; book = told }
  sessions_left found left (session ∷ sessions) kept leaves told all =
      let first = session_leaves found all.0 session all.1 kept leaves told in
      let later = sessions_left all.0 left sessions first.0 first.1 first.3 all.2 in
      record { kept = later.kept; leaves = later.leaves; left = (first.0.repo, first.2, later.left); book = later.book }
