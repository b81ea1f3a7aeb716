pub mod Maps
pub mod Values
pub mod Slots
pub mod Indexes
pub mod Pairs
