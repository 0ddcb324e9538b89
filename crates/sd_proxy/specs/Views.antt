-- Ends of the code, as the definitions have them; and routes to nodes.
use Rattle.std.specs.Prelude.{◌<◌, List, length, ⊤}
use Rattle.sd_model_settings.specs.Entries.{Node as ModelNode}
use Rattle.sd_model_serve.specs.Receiving as ends
use Rattle.sd_outside.specs.declared.datagrams.Ended.{Ended}
use Rattle.sd_outside.specs.declared.datagrams.Ended.TheVariants.{End, Failed, Stopped, Worn}
use Rattle.sd_proxy_desk.specs.declared.route.Route.{Route}
use Rattle.sd_proxy_desk.specs.declared.route.Route.TheVariants.{Bad, Unowned, Node}

-- a node of a route is one of these
abbrev pub IsInside : Route → List ModelNode → Type 0
IsInside Bad nodes = ⊤
IsInside Unowned nodes = ⊤
IsInside (Node place) nodes = place < length nodes

-- how a receiver ended
abbrev pub end_view : Ended → ends.LoopEnd
end_view End = ends.Spent
end_view Failed = ends.Failed
end_view (Stopped rounds) = ends.Enough rounds
end_view (Worn turns) = ends.LimitReached turns
