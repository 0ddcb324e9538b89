-- The members of sets in the order in which they came.
use Rattle.std.specs.Prelude.{◌≡◌, ℕ, List, [], ◌∷◌, ◌++◌, map, Option}
use Rattle.sd_epoch.specs.Chain.{IsChain, link_of, links_of}
use Rattle.sd_epoch.specs.declared.members.SetMember.{SetMember}
use Rattle.sd_epoch.specs.declared.members.Members.{Members}

-- the places that members name
abbrev pub member_places : List SetMember → List ℕ
member_places members = map (λ m. m.place) members

-- the member before each, of the same place
abbrev pub members_before : List SetMember → List (Option ℕ)
members_before members = map (λ m. link_of m.before) members

-- each member's bytes with its place, and without its link
abbrev pub placed_members : List SetMember → List (ℕ × List ℕ)
placed_members members = map {B = ℕ × List ℕ} (λ m. (m.place, m.member.items)) members

-- The members are chained, those of each place in their order.
pub record AreMembers (m : Members) : Type 0 where
  pub chain : IsChain (member_places m.items.items) (links_of m.chain.last.items) (members_before m.items.items)

-- A member of these bytes was appended, which names this place.
pub record IsPushed (old : List SetMember) (place : ℕ) (member : List ℕ) (new : List SetMember) : Type 0 where
  pub more : SetMember
  pub named : more.place ≡ place
  pub bytes : more.member.items ≡ member
  pub items : new ≡ old ++ more ∷ []
