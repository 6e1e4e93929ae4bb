pub mod History
pub mod Promise
pub mod Sentences
pub mod Machine
pub mod Says
pub mod Demand
