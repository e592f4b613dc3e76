use Rattle.std.proofs.Common.{sym, subst₂, List, ℕ}
use Rattle.std.proofs.lemmas.List.{nil_from_length}
use Rattle.sqlite_wal.specs.Recovery.{RecoversAs}
use Rattle.repository_files.proofs.UnmarkedLogs.{recovers_without}
use Rattle.repository_files.proofs.bare_log.fit.Goals as goal

pub returns-in_ok-set_len-clause-recovers : goal.returns-in_ok-set_len-clause-recovers
returns-in_ok-set_len-clause-recovers g c = λ clean size.
    let log = g.D.Disk.seen c.args.files.now.log in
    let db = g.D.Disk.seen c.args.files.now.db in
    let other = c.in_ok-is_of_another_database.ensures.unmarked c.if-branch.true (c.in_ok-set_len.ensures.clean clean) in
    subst₂ (λ (l d : List ℕ). RecoversAs size (record { log = log; db = db }) (record { log = l; db = d }))
    (sym (nil_from_length _ c.in_ok-set_len.ensures.len)) (sym c.in_ok-is_of_another_database.ensures.db_seen) (recovers_without size log db other)
