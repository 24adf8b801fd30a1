pub mod Edges
pub mod Frames
pub mod Leaves
