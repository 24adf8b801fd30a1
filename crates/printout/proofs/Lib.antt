mod Accepted
mod Putting
mod Walking
