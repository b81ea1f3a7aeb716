pub mod Table
pub mod Order
pub mod Reuse
pub mod Complete
pub mod Shared
pub mod Takeable
pub mod Class
