-- What came to rows of which one is made, or gets other swaps.
use Rattle.std.proofs.Common.{◌≡◌, ◌≢◌, ℕ, ℤ, List, Option, Some, None, inl, inr, sym, ap, subst, ◌∙◌}
use Rattle.std.proofs.lemmas.Bool.{cases_eq}
use Rattle.sd_model_shard.specs.Rows.{Summary}
use Rattle.sd_key.specs.Kind.{kind_of}
use Rattle.sd_rows.specs.Rows.{row_at}
use Rattle.sd_rows.specs.declared.row.Row.{Row}
use Rattle.sd_epoch.specs.Members.{member_places}
use Rattle.sd_epoch.specs.Places.{AllLive, AreSince, IsSince}
use Rattle.sd_epoch.specs.Since.{since_of, values_at, members_at, IsFresh}
use Rattle.sd_epoch.specs.Values.{value_places}
use Rattle.sd_epoch.specs.declared.members.SetMember.{SetMember}
use Rattle.sd_rows.specs.declared.tally.Tally.{Tally}
use Rattle.sd_epoch.specs.declared.values.TimerValue.{TimerValue}
use Rattle.sd_epoch.proofs.LeftLemmas.{none_own}
use Rattle.sd_epoch.proofs.SinceLemmas.{fresh_is, since_none}
use Rattle.sd_model_shard.proofs.Short.{no_samples}

-- nothing came to a place that was empty and has a fresh tally
pub no_since : (rows : List (Option Row)) (at : ℕ) (t : Tally) (values : List TimerValue) (members : List SetMember) (base : ℤ) → row_at rows at ≡ None
    → AllLive rows (value_places values) → AllLive rows (member_places members) → IsFresh base t → since_of t (values_at at values) (members_at at members) ≡ no_samples base
no_since rows at t values members base none mine named fresh =
    let no_values = none_own (λ (v : TimerValue). v.place) rows at none values mine in
    let no_members = none_own (λ (m : SetMember). m.place) rows at none members named in
    (λ i. since_of t (no_values i) (no_members i)) ∙ fresh_is base t fresh

-- a row gets other swaps, and its base stays
pub since_reset : (rows later : List (Option Row)) (at : ℕ) (row row' : Row) (since : ℕ → Summary) → AreSince rows since → row_at rows at ≡ Some row → row_at later at ≡ Some row'
    → ((p : ℕ) → p ≢ at → row_at later p ≡ row_at rows p) → row'.kind ≡ row.kind → row'.base ≡ row.base → AreSince later since
since_reset rows later at row row' since reported old here others kind base p r is = elim (cases_eq p at) as (λ _. IsSince (kind_of r.kind) r.base.0 (since p)) [
  | inl q ↦
      let same : r ≡ row' = cc (is, ap (row_at later) q, here) in
      subst (λ (x : Row). IsSince (kind_of x.kind) x.base.0 (since p)) (sym same) (rw (kind, base, q) (reported at row old))
  | inr ne ↦ reported p r (sym (others p ne) ∙ is)
]

-- a row is made without samples
pub since_added : (rows later : List (Option Row)) (at : ℕ) (row : Row) (since since' : ℕ → Summary) → AreSince rows since → row_at later at ≡ Some row
    → ((p : ℕ) → p ≢ at → row_at later p ≡ row_at rows p) → ((p : ℕ) → p ≢ at → since' p ≡ since p) → since' at ≡ no_samples row.base.0 → AreSince later since'
since_added rows later at row since since' reported here others same none p r is = elim (cases_eq p at) as (λ _. IsSince (kind_of r.kind) r.base.0 (since' p)) [
  | inl q ↦
      let one : r ≡ row = cc (is, ap (row_at later) q, here) in
      subst (λ (x : Row). IsSince (kind_of x.kind) x.base.0 (since' p)) (sym one)
      (subst (IsSince (kind_of row.kind) row.base.0) (sym (ap since' q ∙ none)) (since_none (kind_of row.kind) row.base.0))
  | inr ne ↦ subst (IsSince (kind_of r.kind) r.base.0) (sym (same p ne)) (reported p r (sym (others p ne) ∙ is))
]
