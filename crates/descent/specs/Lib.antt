pub mod Blanks
pub mod Descents
pub mod Entries
pub mod Growth
pub mod Marks
pub mod Records
pub mod Sizes
pub mod Verdicts
