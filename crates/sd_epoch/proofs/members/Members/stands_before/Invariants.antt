use Rattle.std.proofs.Common.{◌≡◌, take}
use Rattle.sd_epoch.specs.Chain.{up_to}
use Rattle.sd_epoch.specs.Members.{member_places}
use Rattle.sd_epoch.specs.Since.{members_at, reported_members}
use Rattle.sd_epoch.proofs.ChainLemmas.{IsOfRow}
use Rattle.sd_epoch.proofs.MemberLemmas.{among}
use Rattle.sd_epoch.proofs.members.Members.stands_before.Given as goal

-- the member is among those before its entry just where it is among those that are left
abbrev pub invariant-loop-next : goal.invariant-loop-next
invariant-loop-next l = record {
  of_row : IsOfRow (member_places l.self.items.items) l.place l.next;
  among : among l.member (reported_members (members_at l.place (take l.at l.self.items.items))) ≡ among l.member (reported_members (members_at l.place (take (up_to l.next) l.self.items.items)));
}

abbrev pub decreases-loop-next : goal.decreases-loop-next
decreases-loop-next l = up_to l.next
