pub mod Examples
pub mod Trial
pub mod TornBasket
