pub mod Puts
pub mod Spelled
pub mod Yielded
