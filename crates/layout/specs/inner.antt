pub mod Sized
pub mod Inside
pub mod Key
