-- What is made of each shard, by its number.
use Rattle.std.proofs.Common.{◌≡◌, ℕ, List, [], ◌∷◌, length, map, get_or, refl, sym, ap, ◌∙◌}
use Rattle.std.specs.Prelude.{flat_map}
use Rattle.std.specs.List.{range_with_len}
use Rattle.std.proofs.lemmas.List.{length-map, get_or-map}
use Rattle.std.proofs.lemmas.List.Folds.{flat_map-map}
use Rattle.std.proofs.lemmas.List.FromFn.{fill_by_all}
use Rattle.sd_model_shard.specs.Shard.{State, empty_state}
use Rattle.sd_shard.specs.Shard.{Standing, state_of}
use Rattle.sd_shards.specs.Shards.{Group, numbers, state_at}
use Rattle.sd_shards.specs.Standings.{state_in}

map-each : {X A : Type 0} (f : X → A) (d : X) (xs : List X) → map (λ i. f (get_or xs i d)) (range_with_len 0 (length xs)) ≡ map f xs
map-each f d xs = sym (fill_by_all (λ i. f (get_or xs i d)) (map f xs) (length xs) (f d) (length-map xs f) (λ k h. get_or-map f xs k d (f d) h))

-- what is made of one after another
map-map : {X Y A : Type 0} (f : Y → A) (g : X → Y) (xs : List X) → map f (map g xs) ≡ map (λ x. f (g x)) xs
map-map f g [] = refl
map-map f g (x ∷ xs) = ap (λ ys. f (g x) ∷ ys) (map-map f g xs)

module _ (shards : List Standing) where
  pub map-states : {A : Type 0} (f : State → A) → map (λ i. f (state_in shards i)) (range_with_len 0 (length shards)) ≡ map (λ s. f (state_of s)) shards
  map-states f =
      ap (λ n. map (λ i. f (state_in shards i)) (range_with_len 0 n)) (sym (length-map shards state_of))
      ∙ map-each f empty_state (map state_of shards) ∙ map-map f state_of shards

  pub flat_map-states : {A : Type 0} (f : State → List A) → flat_map (λ i. f (state_in shards i)) (range_with_len 0 (length shards)) ≡ flat_map (λ s. f (state_of s)) shards
  flat_map-states f =
      sym (flat_map-map f (λ i. state_in shards i) (range_with_len 0 (length shards)))
      ∙ ap (flat_map f) (map-states (λ state. state))
      ∙ flat_map-map f state_of shards

-- what is made of each shard of a group that is seen of shards of the code
module _ (group : Group) (shards : List Standing) (is : group.states ≡ map state_of shards) where
  pub map-group : {A : Type 0} (f : State → A) → map (λ i. f (state_at group i)) (numbers group) ≡ map (λ i. f (state_in shards i)) (range_with_len 0 (length shards))
  map-group f =
      ap (λ (states : List State). map (λ i. f (get_or states i empty_state)) (range_with_len 0 (length states))) is
      ∙ ap (λ n. map (λ i. f (state_in shards i)) (range_with_len 0 n)) (length-map shards state_of)
