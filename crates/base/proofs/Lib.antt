pub mod Tests
pub mod Refusals
pub mod Ladder
pub mod Words
pub mod Runs
pub mod Determine
pub mod Fixed
