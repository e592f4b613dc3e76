-- What the proofs of this crate use of the kit's own lemmas. No contract of the kit promises these, so that another kit may
-- lack them or state them otherwise.

-- what a match says of a text
pub use Rattle.regex.proofs.ForCallers.{find_str_complete, find_str_sound, is_match_alike}
-- the leftmost match
pub use Rattle.regex.proofs.SearchLemmas.{leftmost_attempt}
-- the byte before a place of a text
pub use Rattle.regex_hir.proofs.TextLemmas.{byte_before-add-one}
