pub mod Answer
pub mod Members
pub mod Among
