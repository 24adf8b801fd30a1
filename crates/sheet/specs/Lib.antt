pub mod Chains
pub mod Kinds
pub mod Layout
pub mod Links
pub mod Steps
