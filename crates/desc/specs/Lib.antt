pub mod Flags
pub mod Desc
pub mod Table
