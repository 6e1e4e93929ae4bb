pub mod Refusals
pub mod Answer
pub mod Bytes
pub mod Part
pub mod Determined
