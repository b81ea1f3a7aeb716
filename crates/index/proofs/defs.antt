pub mod Linked
pub mod SearchIn
pub mod TakenIn
pub mod Items
