pub mod Failures
pub mod Printouts
pub mod Texts
