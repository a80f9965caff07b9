-- The laws of adding to a text, and of a number's digits.
pub mod AddedLaws
pub mod DecimalLaws
