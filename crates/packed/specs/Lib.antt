pub mod Calls
pub mod Machine
pub mod Opening
pub mod Meets
pub mod RealProducer
pub mod RealConsumer
pub mod Real
