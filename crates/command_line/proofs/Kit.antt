-- What the proofs of this crate use of the kit's own lemmas. No contract of the kit promises these, so that another kit may
-- lack them or state them otherwise.

-- what clap makes of an App of literals
unfoldable pub use Rattle.clap.proofs.OnLiterals.{clap_on_literals}
-- the test of a value, and what it says
pub use Rattle.clap.proofs.ValueTestLemmas.{Accepts-accepts, accepts-Accepts}
-- the values that are found for an argument
pub use Rattle.clap.proofs.WalkLemmas.{first_value-rows, raw_values-rows}
