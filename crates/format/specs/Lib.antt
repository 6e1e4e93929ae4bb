pub mod Part
pub mod Input
pub mod Forge
pub mod Header
pub mod Lend
pub mod Form
