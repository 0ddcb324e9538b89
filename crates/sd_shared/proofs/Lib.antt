mod DoorLemmas
mod KeepLemmas
