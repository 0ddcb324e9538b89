-- What each part of a proxy looked at, in one order of steps.
use Rattle.std.specs.Prelude.{ℕ, List, map, length, ◌∷◌, []}
use Rattle.sd_model_settings.specs.Entries.{Node}
use Rattle.sd_model_proxy.specs.Relays.{Relay}
use Rattle.sd_live.specs.Looks.{HaveAnswered}
use Rattle.sd_model_live.specs.Proxy.{all_of}

-- the sets under which a receiver routed its datagrams are what looks answered, one each, in this history
abbrev pub LookedIn : List Node → List ℕ → Relay → Type 0
LookedIn nodes history r = HaveAnswered (all_of (length nodes) ∷ []) history (map (λ x. x.up) r.reads)
