use Rattle.std.proofs.Common.{◌≤◌, arith}
use Rattle.lazy_disk.proofs.CutLemmas.{take-Cut, whole-Cut}
use Rattle.lazy_disk.proofs.lazy_disk.LazyDisk.settle.Goals as goal

pub returns-in_err-set_len-clause-seen : goal.returns-in_err-set_len-clause-seen
returns-in_err-set_len-clause-seen g c =
    let due : c.in-Some.len ≤ c.args.self.now.known_len = rw c.in-Some.is at c.args.self.now.due in
    rw c.in-Some.is (take-Cut c.in-Some.len (g.D.Disk.seen c.args.self.now.inner) (g.D.Disk.seen c.set_len.new.self) (omega arith) c.set_len.ensures.others)

pub returns-in_ok-set_len-clause-seen : goal.returns-in_ok-set_len-clause-seen
returns-in_ok-set_len-clause-seen g c =
    let due : c.in-Some.len ≤ c.args.self.now.known_len = rw c.in-Some.is at c.args.self.now.due in
    rw c.in-Some.is (whole-Cut c.in-Some.len (g.D.Disk.seen c.args.self.now.inner) (g.D.Disk.seen c.set_len.new.self) (omega arith) c.set_len.ensures.others c.in_ok-set_len.ensures.len)
