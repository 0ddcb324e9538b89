-- The fields of the value behind a turn.
use Rattle.sd_proxy_desk.specs.Behind.{Behind}
use Rattle.sd_proxy_desk.specs.Views.{facts_view}
use Rattle.sd_proxy_desk.specs.declared.value.ProxyValue.TheInside.{Inside}

abbrev pub behind_in : Inside → Behind
behind_in v = record { facts = facts_view v.facts; seats = v.seats }
