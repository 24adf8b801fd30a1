pub mod Additions
pub mod Sweeps
