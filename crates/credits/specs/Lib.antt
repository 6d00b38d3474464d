pub mod Chains
pub mod Credited
pub mod Faults
pub mod Figures
pub mod Legs
pub mod Limits
pub mod Prices
