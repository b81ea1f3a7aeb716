pub mod Sizes
pub mod Texts
pub mod Blocks
pub mod Fronts
