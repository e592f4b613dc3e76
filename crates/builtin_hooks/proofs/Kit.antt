-- What the proofs of this crate use of the kit's own lemmas. No contract of the kit promises these, so that another kit may
-- lack them or state them otherwise.

-- what a match says of a text
pub use Rattle.regex.proofs.ForCallers.{span_alike}
