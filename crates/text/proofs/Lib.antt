pub mod Decimal
pub mod Texts
pub mod Room
pub mod Examples
pub mod Fixed
