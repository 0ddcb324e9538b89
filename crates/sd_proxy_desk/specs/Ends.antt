-- How the serving of a door ended, as the definitions have it.
use Rattle.sd_model_serve.specs.Receiving as ends
use Rattle.sd_outside.specs.declared.door.DoorEnd.{DoorEnd}
use Rattle.sd_outside.specs.declared.door.DoorEnd.TheVariants.{End, Stopped, Worn}

-- how the serving of a door ended
abbrev pub door_end_view : DoorEnd → ends.LoopEnd
door_end_view End = ends.Spent
door_end_view (Stopped rounds) = ends.Enough rounds
door_end_view (Worn turns) = ends.LimitReached turns
