use Rattle.std.proofs.Common.{◌≡◌, ◌∙◌, [], false, refl, sym, ap, subst, append-nil}
use Rattle.std.specs.Prelude.{nat_lt}
use Rattle.sd_model_live.specs.Port.{HasPort, has_port}
use Rattle.sd_live.proofs.LookLemmas.{none_answered}
use Rattle.sd_proxy_desk.specs.Shared.{events_of}
use Rattle.sd_live.specs.Live.{seen}
use Rattle.sd_relay.proofs.port.PortPostWorkerLive.run.Goals as goal

pub returns-then-proxy_mgmt_port-eq0 : goal.returns-then-proxy_mgmt_port-eq0
returns-then-proxy_mgmt_port-eq0 g c =
    let s = c.args.live.now.settings.now in
    let own = c.args.self.now.room.now.own in
    let door = g.E.Faulty.seen c.args.self.now.door.now in
    let none : has_port s ≡ false = ap (nat_lt 0) (sym c.proxy_mgmt_port.ensures.value ∙ c.if-proxy_mgmt_port-eq0.true) in
    record {
      room_stays = refl;
      door_stays = refl;
      pass = c.requires.room.pass;
      seat = c.requires.room.seat;
      number = refl;
      done = record {
        events = [];
        ups = [];
        port = subst (λ b. HasPort b s [] [] door door) (sym none) (refl, refl, refl);
        did = sym (append-nil (events_of own.seat));
        looked = none_answered (seen own.pass);
      };
    }
