pub mod Reset
pub mod Since
