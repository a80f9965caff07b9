-- What a reader of this crate must believe: when a writer's state is sound, and what each call refuses, in document 01's
-- order.
pub mod State
