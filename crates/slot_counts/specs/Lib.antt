pub mod Count
pub mod inner
