-- Laws of states in their slices.
pub mod NumberLaws
pub mod StateLaws
