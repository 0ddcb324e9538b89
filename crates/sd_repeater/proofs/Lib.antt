pub mod RepeatLemmas
pub mod SentLemmas
