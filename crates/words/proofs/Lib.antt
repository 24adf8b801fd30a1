pub mod Single
pub mod Tested
