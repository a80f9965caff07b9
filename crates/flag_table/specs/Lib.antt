-- The table of codes, for the contracts of this crate.
pub mod Table
