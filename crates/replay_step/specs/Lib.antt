-- What the contracts of `replay_step` cite.
pub mod Run
