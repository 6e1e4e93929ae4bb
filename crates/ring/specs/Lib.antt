pub mod Slots
pub mod Events
pub mod Tables
pub mod Asked
