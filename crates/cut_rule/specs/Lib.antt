pub mod Request
pub mod Rule
pub mod GrownRoom
pub mod AllocationRule
