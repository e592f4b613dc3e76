use Rattle.std.proofs.Common.{◌≡◌, ◌∙◌, sym, subst, arith, true≢false}
use Rattle.sqlite_wal.specs.Format.{part}
use Rattle.repository_files.proofs.Kit.{part_held}
use Rattle.repository_files.proofs.bare_log.is_of_another_database.Goals as goal

pub returns-clause-unmarked : goal.returns-clause-unmarked
returns-clause-unmarked g c = λ _ clean same.
    let file = g.D.Disk.seen c.len.new.self in
    let head = c.read_at.new.buf in
    let held = c.in_ok-read_at.ensures.read clean (omega arith) in
    let alike : part file 40 8 ≡ part file 16 8 = subst (λ l. part l 40 8 ≡ part l 16 8) (sym c.in_ok-len.ensures.seen) same in
    let first = part_held file head 0 40 8 held (omega arith) in
    let own = part_held file head 0 16 8 held (omega arith) in
    true≢false (sym (c.is_marked.ensures.1 (sym first ∙ alike ∙ own)) ∙ c.if-is_marked.false)
