use Rattle.std.proofs.Common.{◌≡◌, length, take}
use Rattle.sd_epoch.specs.Chain.{IsChain, links_of}
use Rattle.sd_epoch.specs.Members.{member_places, members_before, placed_members}
use Rattle.sd_epoch.proofs.members.chain_anew.Given as goal

-- those so far are chained
abbrev pub invariant-loop-at : goal.invariant-loop-at
invariant-loop-at l = record {
  items : placed_members l.members ≡ placed_members l.fn.members;
  chain : IsChain (member_places (take l.at l.members)) (links_of l.chain.last.items) (members_before (take l.at l.members));
  places : length l.chain.last.items ≡ length l.fn.chain.last.items;
  all : l.at-end ≡ length l.members;
}
