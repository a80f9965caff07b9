-- Laws of the rows' lines: none, one more, and which numbers they are made of.
pub mod RowLaws
