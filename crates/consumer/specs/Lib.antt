pub mod Record
pub mod Outcome
pub mod Fresh
pub mod Poll
pub mod Complete
pub mod Rollback
pub mod Notices
