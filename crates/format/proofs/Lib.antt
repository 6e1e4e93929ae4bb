pub mod Parts
pub mod Reading
pub mod Examples
pub mod Fixed
pub mod Widths
