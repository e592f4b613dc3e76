-- What the proofs of this crate use of the kit's own lemmas. No contract of the kit promises these, so that another kit may
-- lack them or state them otherwise.

-- parts of the bytes of a log
pub use Rattle.sqlite_wal.proofs.PartLemmas.{frames_len-zero, part-part, part_held}
