pub mod Marks
pub mod Judged
pub mod Laws
pub mod Fixed
