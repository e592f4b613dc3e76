-- What the proofs of this crate use of the kit's own lemmas. No contract of the kit promises these, so that another kit may
-- lack them or state them otherwise.

-- what survives a call survives it and another one; what follows from it survives too
pub use Rattle.sqlite.proofs.StateLemmas.{survives_then, survives_weaker}
