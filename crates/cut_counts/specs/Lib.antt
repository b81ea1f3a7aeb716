pub mod Maps
pub mod CutCount
pub mod inner
