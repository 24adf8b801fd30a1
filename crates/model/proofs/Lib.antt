pub mod Facts
mod Judging
