-- The laws.
pub mod Laws
