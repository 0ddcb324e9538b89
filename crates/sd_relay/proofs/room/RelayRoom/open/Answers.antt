use Rattle.std.proofs.Common.{◌≡◌, ◌∙◌, [], ◌∷◌, if◌then◌else◌, length, map, sym, subst, arith}
use Rattle.std.proofs.lemmas.List.{length-map}
use Rattle.sd_model_live.specs.Proxy.{all_of}
use Rattle.sd_plan.specs.Entries.{node_view}
use Rattle.sd_live.specs.Live.{nodes_of}
use Rattle.sd_relay.specs.Owns.{IsHubFor}
use Rattle.sd_relay.proofs.room.RelayRoom.open.Goals as goal

pub returns-clause-room : goal.returns-clause-room
returns-clause-room g c =
    let room = c.in_ok-open_hub.field-0 in
    let hub = c.in_ok-open_hub.ensures in
    let ends = c.in_ok-with_capacity.ensures in
    let opened : nodes_of room.cell ≡ length (map node_view c.args.nodes.now) = omega (arith, hub.cell, length-map c.args.nodes.now node_view, c.requires.nodes.1) in
    record {
      hub = subst (λ n. IsHubFor (all_of n ∷ []) n c.args.receivers (if c.args.has_lines then 1 else 0) room) (sym hub.cell ∙ opened) hub;
      few = omega arith;
      postings = c.in_ok-open.ensures.postings;
      no_end = ends.items;
      end_room = let a = ends.capacity in let b = c.from.ensures in omega arith;
    }
