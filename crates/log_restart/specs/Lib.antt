pub mod Log
pub mod LogAfter
