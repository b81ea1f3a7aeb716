pub mod Machine
pub mod Rule
pub mod EachLine
pub mod PerLine
