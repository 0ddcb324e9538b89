-- Routes, totals and facts of the code, as the definitions have them.
use Rattle.std.specs.Prelude.{List, [], ◌∷◌, codes}
use Rattle.sd_model_proxy.specs.Routes as model
use Rattle.sd_model_record.specs.Totals.{Total}
use Rattle.sd_model_live.specs.Port as desk
use Rattle.sd_proxy_desk.specs.declared.facts.ProxyFacts.{ProxyFacts}
use Rattle.sd_proxy_desk.specs.declared.route.Route.{Route}
use Rattle.sd_proxy_desk.specs.declared.route.Route.TheVariants.{Bad, Unowned, Node}
use Rattle.sd_proxy_desk.specs.declared.totals.ProxyTotals.{ProxyTotals}

-- where a line goes
abbrev pub route_view : Route → model.Route
route_view Bad = model.Bad
route_view Unowned = model.Unowned
route_view (Node place) = model.To place

-- totals
abbrev pub totals_view : ProxyTotals → List Total
totals_view t =
    (codes "packets", t.packets)
    ∷ (codes "lines", t.lines)
    ∷ (codes "bad", t.bad)
    ∷ (codes "sent", t.sent)
    ∷ (codes "unowned", t.unowned)
    ∷ (codes "send_faults", t.send_faults)
    ∷ []

-- what a line counts for, by where it goes
abbrev pub totals_of_route : model.Route → List Total
totals_of_route model.Bad = (codes "lines", 1) ∷ (codes "bad", 1) ∷ []
totals_of_route model.Unowned = (codes "lines", 1) ∷ (codes "unowned", 1) ∷ []
totals_of_route (model.To place) = (codes "lines", 1) ∷ []

-- what a proxy tells of itself
abbrev pub facts_view : ProxyFacts → desk.ProxyFacts
facts_view f = record { totals = totals_view f.totals; checks = f.checks; probe_faults = f.probe_faults; up = f.up }
