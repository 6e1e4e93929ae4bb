pub mod Record
pub mod Outcome
pub mod Fresh
pub mod Submit
pub mod Tell
pub mod Poll
pub mod Notices
