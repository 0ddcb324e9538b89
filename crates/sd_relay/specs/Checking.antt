-- What a checker's work needs, and what it leaves.
use Rattle.std.specs.Prelude.{◌≡◌, ℕ, List, length, map}
use Rattle.std.specs.Borrow.{Bor, MutBor}
use Rattle.sd_model_outside.specs.Outside.{Object}
use Rattle.sd_plan.specs.Entries.{node_view}
use Rattle.sd_plan.specs.declared.entries.Node.{Node}
use Rattle.sd_live.specs.declared.up_cell.UpCell.{UpCell}
use Rattle.sd_live.specs.Live.{IsCheckerOf, nodes_of, seen as history_in}
use Rattle.sd_proxy_desk.specs.Shared.{IsSeatOf, number_of_seat}
use Rattle.sd_proxy_desk.specs.declared.desk.ProxyDesk.{ProxyDesk}
use Rattle.sd_proxy_desk.specs.declared.hub.ProxyPass.{ProxyPass}
use Rattle.sd_proxy_desk.specs.Checking.{Checks, check_seen}
use Rattle.sd_relay.specs.declared.checking.Checking.{Checking}

-- The pass is the checker's of a cell that is opened for so many nodes, in which nothing was published yet, and the seat the desk's.
pub record IsReadyToCheck (cell : UpCell) (desk : ProxyDesk) (count : ℕ) (own : ProxyPass) : Type 0 where
  pub pass : IsCheckerOf cell own.pass
  pub seat : IsSeatOf desk own.seat
  pub fresh : length (history_in own.pass) ≡ 1
  pub nodes : count ≡ nodes_of cell

module _ {P Q : Type 0} where
  -- these are lent to the work of a checker
  pub record IsOver (own : MutBor ProxyPass) (nodes : Bor (List Node)) (beat : MutBor P) (probe : MutBor Q)
      (c : Checking P Q) : Type 0 where
    pub own_is : c.own ≡ own
    pub nodes_are : c.nodes ≡ nodes
    pub beat_is : c.beat ≡ beat
    pub probe_is : c.probe ≡ probe

  -- what it has is that of a checker of its nodes
  abbrev pub CanCheck : UpCell → ProxyDesk → Checking P Q → Type 0
  CanCheck cell desk c = IsReadyToCheck cell desk (length c.nodes.now) c.own.now

  -- It checked the nodes at the ticks of its beat, and works with the same as before.
  pub record HasChecked (seen : P → Object) (probe_seen : Q → Object) (cell : UpCell) (desk : ProxyDesk) (old new : Checking P Q) : Type 0 where
    pub own_stays : new.own.ghost_name ≡ old.own.ghost_name
    pub beat_stays : new.beat.ghost_name ≡ old.beat.ghost_name
    pub probe_stays : new.probe.ghost_name ≡ old.probe.ghost_name
    pub pass : IsCheckerOf cell new.own.now.pass
    pub seat : IsSeatOf desk new.own.now.seat
    pub number : number_of_seat new.own.now.seat ≡ number_of_seat old.own.now.seat
    pub checks : Checks (map node_view old.nodes.now) (check_seen old.own.now (seen old.beat.now) (probe_seen old.probe.now)) (check_seen new.own.now (seen new.beat.now) (probe_seen new.probe.now)) new.got
