pub mod Worth
pub mod Premises
pub mod Producer
pub mod Consumer
