use Rattle.std.proofs.Common.{◌+◌, length, arith, rules}
use Rattle.lazy_disk.specs.DueCut.{EndsWithin}
use Rattle.lazy_disk.proofs.CutLemmas.{length-shown_bytes-le, part-shown_bytes}
use Rattle.lazy_disk.proofs.lazy_disk.LazyDiskDisk.read_checked.Goals as goal

pub returns-clause-detects : goal.returns-clause-detects
returns-clause-detects g c clean within =
    let cut = c.args.self.now.cut in
    let file = g.D.Disk.seen c.args.self.now.inner in
    let le = length-shown_bytes-le cut file in
    let low : EndsWithin cut (c.args.at + length c.args.buf.now) = search rules in
    rw (part-shown_bytes cut file c.args.at (length c.args.buf.now) low) (c.read_checked.ensures.detects clean (omega arith))
