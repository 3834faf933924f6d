pub mod CoefLemmas
pub mod NumberLemmas
pub mod SlackLemmas
