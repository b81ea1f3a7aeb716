pub mod CutRule
pub mod GrownRoom
pub mod AllocationRule
