pub mod Checks
pub mod CodeWords
pub mod Edges
pub mod Headers
pub mod Refusals
pub mod Terms
pub mod Words
