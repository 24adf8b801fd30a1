pub mod Endings
pub mod Format
pub mod Headings
pub mod Listing
pub mod Reading
pub mod Records
pub mod Runs
