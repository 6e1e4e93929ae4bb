pub mod Header
pub mod Names
pub mod Lines
