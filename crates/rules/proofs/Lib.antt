pub mod AtOnce
pub mod Builders
pub mod Codes
pub mod Depths
pub mod Derivations
pub mod Frames
pub mod Lookups
