pub mod Orders
pub mod Steps
pub mod Plain
pub mod Totals
pub mod Numbers
pub mod OtherLayout
pub mod inner
