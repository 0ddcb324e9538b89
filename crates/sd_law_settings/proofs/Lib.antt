pub mod DefaultsInRange
pub mod EntriesInRange
pub mod SettingsInRange
pub mod ValuesInRange
