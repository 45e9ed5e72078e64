-- Laws that the proofs of this crate cite.
pub mod NetworkLaws
pub mod RangeLaws
pub mod SendsLaws
