use Rattle.std.proofs.Common.{◌≡◌, ◌+◌, ◌≤◌, length, take}
use Rattle.sd_model_shard.specs.Values.{distinct}
use Rattle.sd_epoch.specs.Chain.{up_to}
use Rattle.sd_epoch.specs.Members.{member_places}
use Rattle.sd_epoch.specs.Since.{members_at, reported_members}
use Rattle.sd_epoch.proofs.ChainLemmas.{IsOfRow}
use Rattle.sd_epoch.proofs.members.Members.distinct_at.Given as goal

-- how many members were the first of their kind so far, and how many differ of those that are left
abbrev pub invariant-loop-next : goal.invariant-loop-next
invariant-loop-next l = record {
  of_row : IsOfRow (member_places l.self.items.items) l.place l.next;
  so_far : l.count + distinct (reported_members (members_at l.place (take (up_to l.next) l.self.items.items))) ≡ distinct (reported_members (members_at l.place l.self.items.items));
  few : l.count + up_to l.next ≤ length l.self.items.items;
}

abbrev pub decreases-loop-next : goal.decreases-loop-next
decreases-loop-next l = up_to l.next
