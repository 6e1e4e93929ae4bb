pub mod Bytes
pub mod Descriptor
pub mod Event
pub mod Rounds
pub mod Positions
