pub mod Laws
pub mod Shows
pub mod Fixed
