pub mod Listed
pub mod Standing
