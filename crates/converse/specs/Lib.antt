pub mod Geometry
pub mod Chain
pub mod Poll
