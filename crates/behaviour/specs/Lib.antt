pub mod Automata
pub mod Behaviours
pub mod Outcomes
pub mod Law
pub mod ChainsRight
pub mod EdgesRight
pub mod Standing
