pub mod Hold
pub mod Trial
pub mod TornBasket
