pub mod Counted
pub mod Reset
pub mod Told
pub mod Notified
