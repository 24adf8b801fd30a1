mod Answered
mod Cuts
mod Reading
