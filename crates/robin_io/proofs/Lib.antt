pub mod FileLemmas
pub mod NumberLemmas
pub mod StoreLemmas
pub mod DeviceFacts
