-- The fields of the value behind a turn.
use Rattle.sd_shared_desk.specs.Behind.{Behind}
use Rattle.sd_shared_desk.specs.declared.value.DeskValue.TheInside.{Inside}

abbrev pub behind_in : Inside → Behind
behind_in v = record { desk = v.desk; seats = v.seats }
