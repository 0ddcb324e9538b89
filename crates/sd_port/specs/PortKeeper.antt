-- A port that was kept.
use Rattle.std.specs.Prelude.{ℕ, List}
use Rattle.sd_model_outside.specs.Outside.{Object}
use Rattle.sd_model_settings.specs.Settings.{Settings}
use Rattle.sd_model_live.specs.Port.{ProxyEvent, ServesPort}
use Rattle.sd_proxy_desk.specs.declared.hub.ProxyPass.{ProxyPass}
use Rattle.sd_port.specs.Doing.{HasDone}

-- The sessions of a port were served, and with its seat and its pass its thread did what their lines do.
pub record KeepsPort (settings : Settings) (own own_now : ProxyPass) (door door_now : Object) : Type 0 where
  pub events : List ProxyEvent
  pub ups : List ℕ
  pub served : ServesPort settings events ups door door_now
  pub done : HasDone events ups own own_now
