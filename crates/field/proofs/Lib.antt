-- The laws of the field and of its tables, and the two theorems that say them together.
pub mod Adding
pub mod TableLaws
pub mod FieldLaws
pub mod Products
pub mod Theorems
