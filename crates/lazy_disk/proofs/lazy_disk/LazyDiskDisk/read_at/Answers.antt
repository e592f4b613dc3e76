use Rattle.std.proofs.Common.{◌≡◌, ◌+◌, length, OnOk, Result, Ok, Err, rules}
use Rattle.lazy_disk.specs.DueCut.{EndsWithin}
use Rattle.lazy_disk.proofs.CutLemmas.{Holds-shown_bytes}
use Rattle.lazy_disk.proofs.lazy_disk.LazyDiskDisk.read_at.Goals as goal

on_ok : {T E : Type 0} {P Q : Type 0} (r : Result T E) → (P → Q) → OnOk r P → OnOk r Q
on_ok (Ok x) f h = f h
on_ok (Err e) f h = tt

pub returns-clause-read : goal.returns-clause-read
returns-clause-read g c =
    let cut = c.args.self.now.cut in
    let file = g.D.Disk.seen c.args.self.now.inner in
    let len : length c.read_at.new.buf ≡ length c.args.buf.now = search rules in
    let low : EndsWithin cut (c.args.at + length c.args.buf.now) = search rules in
    on_ok c.read_at.result (λ holds clean some. Holds-shown_bytes cut file c.args.at c.read_at.new.buf (rw len low) (holds clean some)) c.read_at.ensures.read
