pub mod Chains
pub mod Fields
pub mod Header
pub mod WellFormed
