-- The reply for the answer of a call, and which replies say that the command was done.
use Rattle.std.specs.Prelude.{Result, Ok, Err}
use Rattle.commit_flow.specs.declared.commit_ending.CommitEnding.{CommitEnding}
use Rattle.commit_flow.specs.declared.commit_ending.CommitEnding.TheVariants as ending
use Rattle.commit_flow.specs.declared.host_refusal.HostRefusal.{HostRefusal}
use Rattle.commit_flow.specs.declared.message_run.MessageRun.{MessageRun}
use Rattle.commit_flow.specs.declared.reply.Reply.{Reply}
use Rattle.commit_flow.specs.declared.reply.Reply.TheVariants.{Added, Removed, Staged, Accepted, Ran, MessageRan, Committed, HooksFailed, Forgot, Limited, EditRefused, Refused}
use Rattle.commit_flow.specs.declared.staging_stop.StagingStop.{StagingStop}

-- the reply for the answer of a call
abbrev pub reply_of : {A : Type 0} → (A → Reply) → Result A HostRefusal → Reply
reply_of done (Ok answer) = done answer
reply_of done (Err refusal) = Refused refusal

-- the reply that the answer to several changes is
abbrev pub reply_of_staging : {A : Type 0} → Result A StagingStop → Reply
reply_of_staging (Ok answer) = Staged
reply_of_staging (Err stop) = EditRefused stop

-- the reply for what hooks about a message gave
abbrev pub reply_of_message : MessageRun → Reply
reply_of_message ran = MessageRan ran.passed ran.report ran.message

-- the reply for the ending of a commit
abbrev pub reply_of_ending : CommitEnding → Reply
reply_of_ending (ending.Committed number reports post) = Committed number reports post
reply_of_ending (ending.HooksFailed stage reports) = HooksFailed stage reports

-- The command was done, and what it made of the repository outlasts a stop. Hooks about a message make nothing
-- of it, so their reply isn't among these.
abbrev pub IsDone : Reply → Type 0
IsDone Added = Unit {0}
IsDone Removed = Unit {0}
IsDone Staged = Unit {0}
IsDone (Accepted number) = Unit {0}
IsDone (Ran passed report changes unsteady) = Unit {0}
IsDone (MessageRan passed report left) = ⊥
IsDone (Committed number reports post) = Unit {0}
IsDone (HooksFailed stage reports) = Unit {0}
IsDone (Forgot number) = Unit {0}
IsDone (Limited number) = Unit {0}
IsDone (EditRefused stop) = ⊥
IsDone (Refused refusal) = ⊥
