pub mod Texts
pub mod Said
pub mod Examples
pub mod Fixed
