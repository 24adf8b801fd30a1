pub mod Chained
pub mod Framing
pub mod Outcomes
pub mod Owning
