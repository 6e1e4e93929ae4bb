pub mod Notify
pub mod Passed
