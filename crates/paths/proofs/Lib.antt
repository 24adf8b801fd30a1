pub mod Arriving
pub mod Descending
pub mod Headers
pub mod Loading
pub mod Measures
pub mod PathsRight
pub mod RecordsRight
