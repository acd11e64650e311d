-- What the proofs of several functions, and of the crates above, use.
pub mod DecimalLaws
pub mod EncodeLaws
pub mod DecodeLaws
pub mod CallsLaws
pub mod WithinLaws
pub mod RoundTripLaws
pub mod RefusalLaws
