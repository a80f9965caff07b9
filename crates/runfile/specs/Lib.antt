-- Serves contracts only: how a run goes on.
pub mod Follows
