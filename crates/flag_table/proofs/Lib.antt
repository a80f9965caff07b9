-- The laws of the table of codes.
pub mod TableLaws
