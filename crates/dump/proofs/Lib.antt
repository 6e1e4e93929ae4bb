pub mod Laws
pub mod Lines
pub mod Masks
pub mod Short
pub mod Examples
pub mod Fixed
