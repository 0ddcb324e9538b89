-- What came to the row of a place: its tally, and the values and members that name the place.
use Rattle.std.specs.Prelude.{◌≡◌, ℕ, ◌==◌, ℤ, pos, List, [], ◌∷◌, ◌++◌, map, filter, get_or}
use Rattle.sd_model_text.specs.Names.{Kind, Counter, Timer, Gauge, Set}
use Rattle.sd_model_text.specs.Lines.{Sample}
use Rattle.sd_model_shard.specs.Rows.{Summary, Kept, gauge_after}
use Rattle.sd_epoch.specs.declared.members.SetMember.{SetMember}
use Rattle.sd_rows.specs.declared.tally.Tally.{Tally}
pub use Rattle.sd_rows.specs.Rows.{no_tally}
use Rattle.sd_epoch.specs.declared.values.TimerValue.{TimerValue}

-- the value as a gauge after a sample of a row of a kind
abbrev pub gauge_by : Kind → ℤ → Sample → ℤ
gauge_by Counter value s = value
gauge_by Timer value s = value
gauge_by Gauge value s = gauge_after value s
gauge_by Set value s = value

-- what stands beyond the last value
abbrev pub no_value : TimerValue
no_value = record { value = record { 0 = pos 0 }; place = 0; before = record { 0 = 0 } }

-- the values that name a place
abbrev pub values_at : ℕ → List TimerValue → List TimerValue
values_at place values = filter (λ v. v.place == place) values

-- the members that name a place
abbrev pub members_at : ℕ → List SetMember → List SetMember
members_at place members = filter (λ m. m.place == place) members

-- the values as whole millionths
abbrev pub reported_values : List TimerValue → List ℤ
reported_values values = map (λ v. v.value.0) values

-- the members as their bytes
abbrev pub reported_members : List SetMember → List (List ℕ)
reported_members members = map (λ m. m.member.items) members

-- what a tally, values and members come to
abbrev pub since_of : Tally → List TimerValue → List SetMember → Summary
since_of t values members =
    record { samples = t.samples; weight = t.weight.0; gauge = t.gauge.0; values = reported_values values; members = reported_members members }

-- what came to the row of a place
abbrev pub since_at : List Tally → List TimerValue → List SetMember → ℕ → Summary
since_at tallies values members place =
    since_of (get_or tallies place no_tally) (values_at place values) (members_at place members)

-- the values after a sample of a row of a kind
abbrev pub values_with : Kind → List ℤ → Sample → List ℤ
values_with Counter values s = values
values_with Timer values s = values ++ s.value ∷ []
values_with Gauge values s = values
values_with Set values s = values

-- the members after a sample of a row of a kind
abbrev pub members_with : Kind → List (List ℕ) → Sample → List (List ℕ)
members_with Counter members s = members
members_with Timer members s = members
members_with Gauge members s = members
members_with Set members s = members ++ s.member ∷ []

-- a tally of no samples, over this base
pub record IsFresh (base : ℤ) (t : Tally) : Type 0 where
  pub samples : t.samples ≡ 0
  pub gauge : t.gauge.0 ≡ base
  pub weight : t.weight.0 ≡ pos 0

-- a row to which a sample comes has no swaps
abbrev pub without_swaps : Kept → Kept
without_swaps kept = record kept { swaps = 0 }
