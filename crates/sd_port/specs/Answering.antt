-- What an answerer does.
use Rattle.std.specs.Prelude.{◌≡◌}
use Rattle.sd_model_live.specs.Port.{PortExchange}
use Rattle.sd_port.specs.Doing.{HasExecuted}
use Rattle.sd_port.specs.declared.answerer.PortAnswerer.{PortAnswerer}

-- It executed a line, by the same seat and pass as before.
pub record HasAnswered (e : PortExchange) (old new : PortAnswerer) : Type 0 where
  pub works : new.own.ghost_name ≡ old.own.ghost_name
  pub executed : HasExecuted e old.own.now new.own.now
