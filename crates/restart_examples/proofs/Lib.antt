pub mod Fitting
pub mod Wrong
pub mod WrongInvalidation
