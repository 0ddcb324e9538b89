-- The parts that a replay opens.
use Rattle.std.proofs.Common.{flat_map, ◌≡◌, ℕ, ◌+◌, ◌<◌, ◌≤◌, Bool, true, false, List, [], ◌∷◌, ◌++◌, length, map, refl, arith, length-append}
use Rattle.std.specs.Prelude.{⊤}
use Rattle.std.specs.List.{AllByRecursion}
use Rattle.std.proofs.lemmas.List.{length-map}
use Rattle.sd_model_outside.specs.Outside.{File, Place}
use Rattle.sd_model_replay.specs.Replay.{targets_of, is_used}
use Rattle.sd_model_call.specs.Opening.{Opening, Part, OfScript, OfWire, OfBackend, backend_openings, numbered, opening_where, repeated, replay_openings, wire_openings}
use Rattle.sd_model_settings.specs.Settings.{Settings}
use Rattle.sd_model_outside.specs.Backend.{Backend, backends}
use Rattle.sd_model_call.proofs.Short.{target_place}

pub all_append : (P : Opening → Type 0) (before behind : List Opening) → AllByRecursion P before → AllByRecursion P behind → AllByRecursion P (before ++ behind)
all_append P [] behind first rest = rest
all_append P (o ∷ before) behind first rest = (first.0, all_append P before behind first.1 rest)

pub all_behind : (P : Opening → Type 0) (before behind : List Opening) → AllByRecursion P (before ++ behind) → AllByRecursion P behind
all_behind P [] behind all = all
all_behind P (o ∷ before) behind all = all_behind P before behind all.1

-- what holds of a part that is used holds of each that is opened where it is used
pub all_where : (P : Opening → Type 0) (used : Bool) (o : Opening) → (used ≡ true → P o) → AllByRecursion P (opening_where used o)
all_where P true o is = (is refl, tt)
all_where P false o is = tt

-- what holds of each backend that is used holds of each that is opened
pub all_backends : (P : Opening → Type 0) (s : Settings) (places : Backend → Place) → ((b : Backend) → is_used s b ≡ true → P (record { part = OfBackend b; place = places b })) → AllByRecursion P (backend_openings s places)
all_backends P s places is = among backends where
  one : Backend → List Opening
  one b = opening_where (is_used s b) (record { part = OfBackend b; place = places b })

  among : (bs : List Backend) → AllByRecursion P (flat_map one bs)
  among [] = tt
  among (b ∷ bs) = all_append P (one b) (flat_map one bs) (all_where P (is_used s b) (record { part = OfBackend b; place = places b }) (is b)) (among bs)

-- the settings name a part
abbrev pub IsNamed : Settings → Part → Type 0
IsNamed s OfScript = ⊤
IsNamed s (OfWire i) = i < length (targets_of s)
IsNamed s (OfBackend b) = is_used s b ≡ true
IsNamed s part = ⊥

module _ (s : Settings) where
  abbrev named : Opening → Type 0
  named o = IsNamed s o.part

  wires_named : (i : ℕ) (places : List Place) → i + length places ≤ length (targets_of s) → AllByRecursion named (numbered OfWire i places)
  wires_named i [] few = tt
  wires_named i (p ∷ places) few = (omega (arith, few), wires_named (i + 1) places (omega (arith, few)))

-- each part that a replay opens is named
pub all_named : (script : List ℕ) (s : Settings) → AllByRecursion (λ o. IsNamed s o.part) (replay_openings script s)
all_named script s =
    let is_named : Opening → Type 0 = λ o. IsNamed s o.part in
    let places = map target_place (targets_of s) in
    let count = length-map (targets_of s) target_place in
    let one_run = length-append places [] in (
      tt,
      all_append is_named (wire_openings 1 s) (backend_openings s (λ b. File [])) (wires_named s 0 (repeated 1 places) (omega (arith, count, one_run)))
          (all_backends is_named s (λ b. File []) (λ b used. used)),
    )
