use Rattle.std.proofs.Common.{◌∙◌, List, ℕ, [], ◌∷◌, ap, codes, true, false}
use Rattle.sd_model_proxy.specs.Routes.{add_totals}
use Rattle.sd_proxy_desk.specs.Views.{totals_view}
use Rattle.sd_proxy.proofs.WaitingLemmas.{Sends-one}
use Rattle.sd_proxy.proofs.sending.send_packet.Goals as goal
use Rattle.sd_model_outside.proofs.Short.{sent}

pub returns-in-Ok : goal.returns-in-Ok
returns-in-Ok g c lines is count =
    Sends-one lines false (g.L.Faulty.seen c.args.wire.now) (g.L.Faulty.seen c.send.new.self) c.args.totals.now (totals_view c.add_sent.new.self)
    (c.in-Ok.ensures.ok ∙ ap (λ (p : List ℕ). sent p (g.L.Faulty.seen c.args.wire.now)) is)
    (c.add_sent.ensures ∙ ap (λ (n : ℕ). add_totals (totals_view c.args.totals.now) ((codes "sent", n) ∷ [])) count)

pub returns-in-Err : goal.returns-in-Err
returns-in-Err g c lines is count =
    Sends-one lines true (g.L.Faulty.seen c.args.wire.now) (g.L.Faulty.seen c.send.new.self) c.args.totals.now (totals_view c.add_not_sent.new.self) c.in-Err.ensures.failed
    (c.add_not_sent.ensures ∙ ap (λ (n : ℕ). add_totals (totals_view c.args.totals.now) ((codes "send_faults", n) ∷ [])) count)
