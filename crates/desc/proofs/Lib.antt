pub mod Flags
pub mod Trips
pub mod Masks
pub mod Fixed
