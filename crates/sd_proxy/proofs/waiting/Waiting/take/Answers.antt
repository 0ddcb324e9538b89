use Rattle.std.proofs.Common.{◌≡◌, ◌∙◌, [], ◌∷◌, ◌++◌, refl, sym, false}
use Rattle.sd_proxy_desk.specs.Views.{totals_view}
use Rattle.sd_proxy.specs.Waiting.{under_way}
use Rattle.sd_proxy.proofs.WaitingLemmas.{Sends-next, Sends-none, cut-long, cut-new, cut-room}
use Rattle.sd_proxy.proofs.waiting.Waiting.take.Goals as goal
use Rattle.sd_model_proxy.proofs.Short.{fits}

pub returns-then-has_room : goal.returns-then-has_room
returns-then-has_room g c most begun holds = record {
  packets = [];
  left = begun ++ c.args.line.now ∷ [];
  sends = Sends-none (g.L.Faulty.seen c.args.wire.now) c.args.totals.now;
  holds = c.push.ensures most begun holds;
  cut = cut-room most begun c.args.line.now (sym (c.has_room.ensures.fits most begun holds) ∙ c.if-has_room.true);
}

pub returns-then-has_room-2 : goal.returns-then-has_room-2
returns-then-has_room-2 g c most begun holds = record {
  packets = under_way begun;
  left = c.args.line.now ∷ [];
  sends = c.send.ensures.sends most begun holds;
  holds = c.push-then-has_room-2.ensures most [] (c.send.ensures.none most begun holds);
  cut = cut-new most begun c.args.line.now (sym (c.has_room.ensures.fits most begun holds) ∙ c.if-has_room.false);
}

pub returns-else-has_room-2 : goal.returns-else-has_room-2
returns-else-has_room-2 g c most begun holds =
    let line = c.args.line.now in
    let empty = c.send.ensures.none most begun holds in
    let over : fits most (begun ++ line ∷ []) ≡ false = sym (c.has_room.ensures.fits most begun holds) ∙ c.if-has_room.false in
    let long : fits most (line ∷ []) ≡ false = sym (c.has_room-2.ensures.fits most [] empty) ∙ c.if-has_room-2.false in
    record {
      packets = under_way begun ++ (line ∷ []) ∷ [];
      left = [];
      sends = Sends-next (under_way begun) ((line ∷ []) ∷ []) (g.L.Faulty.seen c.args.wire.now) (g.L.Faulty.seen c.send.new.wire) (g.L.Faulty.seen c.send_packet.new.wire) (totals_view c.args.totals.now) (totals_view c.send.new.totals) (totals_view c.send_packet.new.totals)
          (c.send.ensures.sends most begun holds) (c.send_packet.ensures (line ∷ []) refl refl);
      holds = empty;
      cut = cut-long most begun line over long;
    }
