pub mod Chains
pub mod Check
pub mod Figures
pub mod Refusals
pub mod Testing
pub mod Walks
