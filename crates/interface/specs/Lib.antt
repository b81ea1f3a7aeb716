pub mod Set
pub mod Event
pub mod Plays
pub mod Recovers
pub mod Laws
pub mod Numbers
pub mod CutCount
pub mod OtherLayout
