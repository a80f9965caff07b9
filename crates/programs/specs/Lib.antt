-- What a reader of this crate must believe: which steps each program takes (Steps), what they come to for a whole input (Printed), with
-- case A (CaseA), and how what the explainer prints stands beside what the lister prints (SameLine).
pub mod Steps
pub mod Printed
pub mod CaseA
pub mod SameLine
