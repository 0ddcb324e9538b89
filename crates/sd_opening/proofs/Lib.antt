pub mod OpeningLemmas
mod ReplayOpeningLemmas
mod ServerOpeningLemmas
pub mod ProxyOpeningLemmas
mod SettingsLemmas
mod WordsLemmas
