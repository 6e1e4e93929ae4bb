pub mod Packed
pub mod Chains
pub mod Suppression
