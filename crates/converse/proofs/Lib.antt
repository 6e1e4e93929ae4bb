pub mod Ladder
pub mod Geometry
pub mod Opening
pub mod Walk
pub mod Polls
pub mod Handed
pub mod Examples
