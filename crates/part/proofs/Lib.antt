pub mod Hops
pub mod Occupied
