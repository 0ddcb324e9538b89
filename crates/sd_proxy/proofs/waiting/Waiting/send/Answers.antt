use Rattle.std.proofs.Common.{◌∙◌, ℕ, ◌-◌, List, [], ◌∷◌, take, ap}
use Rattle.sd_proxy.specs.Sending.{Sends}
use Rattle.sd_proxy_desk.specs.Views.{totals_view}
use Rattle.sd_proxy.specs.Waiting.{Holds, under_way}
use Rattle.sd_proxy.proofs.WaitingLemmas.{text_joined}
use Rattle.sd_proxy.proofs.waiting.Waiting.send.Goals as goal

pub returns-clause-sends : goal.returns-clause-sends
returns-clause-sends g c most begun holds = by begun holds
  where
    by : (begun : List (List ℕ)) → Holds most begun c.args.self.now → Sends (under_way begun) (g.L.Faulty.seen c.args.wire.now) (g.L.Faulty.seen c.send_packet.new.wire) (totals_view c.args.totals.now) (totals_view c.send_packet.new.totals)
    by [] holds = absurd (c.if-self-eq0.false holds.count)
    by (line ∷ begun) holds =
        c.send_packet.ensures (line ∷ begun) (ap (λ (room : List ℕ). take (c.args.self.now.len - 1) room) c.deref.ensures.value ∙ text_joined c.args.self.now.len c.args.self.now.room.items line begun c.args.self.now.within holds.text) holds.count
