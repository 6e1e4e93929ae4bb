-- What the contracts of `replay_stage` cite, and of the crates above it.
pub mod Kept
