use Rattle.commit_flow.proofs.PlayLawLemmas.{edits_refused_leave, history_kept, messages_leave, one_commit_more, refused_leaves}
use Rattle.commit_flow.proofs.laws.the_history_grows_by_commits_alone.Goals as goal

pub returns : goal.returns
returns c = record { refused = refused_leaves; edits = edits_refused_leave; message = messages_leave; kept = history_kept; committed = one_commit_more }
