pub mod Numbered
mod Linked
