pub mod Automata
pub mod Deadlines
pub mod Ids
pub mod Laws
pub mod Questions
