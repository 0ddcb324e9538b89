-- Where lines go, by where their keys do.
use Rattle.std.proofs.Common.{◌≡◌, ◌≢◌, ◌↔◌, ℕ, ◌<◌, false, true, List, length, Option, Some, None, refl, ap}
use Rattle.sd_model_settings.specs.Entries.{Node}
use Rattle.sd_model_ring.specs.Ring.{is_up, owner}
use Rattle.sd_model_ring.proofs.Owners.{owner-node, owner-up, owner-none, none-owner}
use Rattle.sd_model_proxy.specs.Routes.{Bad, Unowned, To, key_of_line, route}
use Rattle.sd_model_proxy.proofs.Short.{to_owner, route_of_key}

to_owner-to : (o : Option ℕ) (place : ℕ) → to_owner o ≡ To place → o ≡ Some place
to_owner-to None place goes = cc
to_owner-to (Some other) place goes = cc

to_owner-none : (o : Option ℕ) → to_owner o ≡ Unowned → o ≡ None
to_owner-none None goes = refl
to_owner-none (Some place) goes = cc

to_owner-bad : (o : Option ℕ) → to_owner o ≢ Bad
to_owner-bad None goes = cc
to_owner-bad (Some place) goes = cc

-- every node is down
abbrev AllDown : List Node → ℕ → Type 0
AllDown nodes up = (place : ℕ) → place < length nodes → is_up up place ≡ false

module _ (nodes : List Node) (up : ℕ) where
  key_node : (k : Option (List ℕ)) (place : ℕ) → route_of_key k nodes up ≡ To place → place < length nodes
  key_node None place goes = absurd (let e : Bad ≡ To place = goes in cc)
  key_node (Some key) place goes = owner-node key nodes up place (to_owner-to (owner key nodes up) place goes)

  key_up : (k : Option (List ℕ)) (place : ℕ) → route_of_key k nodes up ≡ To place → is_up up place ≡ true
  key_up None place goes = absurd (let e : Bad ≡ To place = goes in cc)
  key_up (Some key) place goes = owner-up key nodes up place (to_owner-to (owner key nodes up) place goes)

  key_bad : (k : Option (List ℕ)) → (route_of_key k nodes up ≡ Bad) ↔ (k ≡ None)
  key_bad None = (λ _. refl, λ _. refl)
  key_bad (Some key) = (λ goes. absurd (to_owner-bad (owner key nodes up) goes), λ none. absurd (let e : Some key ≡ None = none in cc))

  key_unowned : (k : Option (List ℕ)) → (route_of_key k nodes up ≡ Unowned) ↔ ((k ≢ None) × AllDown nodes up)
  key_unowned None = (λ goes. absurd (let e : Bad ≡ Unowned = goes in cc), λ h. absurd (h.0 refl))
  key_unowned (Some key) = (
    λ goes. (λ none. let e : Some key ≡ None = none in cc, owner-none key nodes up (to_owner-none (owner key nodes up) goes)),
    λ h. ap to_owner (none-owner key nodes up h.1),
  )

pub goes-node : (line : List ℕ) (nodes : List Node) (up place : ℕ) → route line nodes up ≡ To place → place < length nodes
goes-node line nodes up = key_node nodes up (key_of_line line)

pub goes-up : (line : List ℕ) (nodes : List Node) (up place : ℕ) → route line nodes up ≡ To place → is_up up place ≡ true
goes-up line nodes up = key_up nodes up (key_of_line line)

pub goes-nowhere : (line : List ℕ) (nodes : List Node) (up : ℕ) → (route line nodes up ≡ Bad) ↔ (key_of_line line ≡ None)
goes-nowhere line nodes up = key_bad nodes up (key_of_line line)

pub goes-unowned : (line : List ℕ) (nodes : List Node) (up : ℕ) → (route line nodes up ≡ Unowned) ↔ ((key_of_line line ≢ None) × AllDown nodes up)
goes-unowned line nodes up = key_unowned nodes up (key_of_line line)

pub goes-by_key : (one other : List ℕ) (nodes : List Node) (up : ℕ) → key_of_line one ≡ key_of_line other → route one nodes up ≡ route other nodes up
goes-by_key one other nodes up same = ap (λ k. route_of_key k nodes up) same
