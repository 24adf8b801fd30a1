pub mod Additions
pub mod CodeWords
pub mod Paths
pub mod Places
pub mod Sheets
