use Rattle.std.proofs.Common.{◌≡◌, ℕ, List, length, map}
use Rattle.sd_model_outside.specs.Outside.{Object}
use Rattle.sd_model_record.specs.Totals.{Total}
use Rattle.sd_model_settings.specs.Entries.{Node}
use Rattle.sd_proxy.specs.Forwarding.{AreUnderWay, IsLeft, Stands, routes_by}
use Rattle.sd_proxy_desk.specs.Views.{totals_view}
use Rattle.sd_proxy.proofs.forwarding.send_waiting.Given as goal

abbrev pub invariant-loop-place : goal.invariant-loop-place
invariant-loop-place g l =
    let seen = g.L.Faulty.seen in
    record {
      wires : length l.wires ≡ length l.fn.wires;
      waiting : length l.waiting ≡ length l.fn.waiting;
      left : (most packets long : ℕ) (nodes : List Node) (up : ℕ) (done : List (List ℕ)) (first : List Object) (t : List Total)
          → length nodes ≡ length l.fn.wires → AreUnderWay most nodes up packets long done l.fn.waiting first (map seen l.fn.wires) t
          (totals_view l.fn.totals)
          → Stands (IsLeft most nodes up done l.place) most nodes packets long (routes_by nodes up done) l.waiting first
          (map seen l.wires) t (totals_view l.totals);
    }
