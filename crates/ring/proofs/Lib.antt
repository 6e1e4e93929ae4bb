pub mod Laws
pub mod Frames
pub mod Asked
pub mod Fixed
pub mod Fills
pub mod Widths
