pub mod Loaded
pub mod Verdict
