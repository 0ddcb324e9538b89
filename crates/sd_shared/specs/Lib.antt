pub mod DoorKeeper
