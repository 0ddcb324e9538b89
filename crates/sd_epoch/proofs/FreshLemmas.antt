-- Tables without samples.
use Rattle.std.proofs.Common.{◌≡◌, ◌≢◌, ℕ, ◌+◌, List, [], ◌∷◌, length, set, get_or, Option, Some, None, inl, inr, refl, sym, ap, subst, ◌∙◌, arith}
use Rattle.std.proofs.lemmas.Bool.{cases_eq}
use Rattle.std.proofs.lemmas.List.{get_or-set_other, nil_from_length}
use Rattle.sd_model_shard.specs.Rows.{Summary, is_listed}
use Rattle.sd_key.specs.Kind.{kind_of}
use Rattle.sd_rows.specs.Rows.{row_at}
use Rattle.sd_rows.specs.declared.row.Row.{Row}
use Rattle.sd_rows.proofs.IndexLemmas.{some_of}
use Rattle.sd_epoch.specs.Places.{id_in, kept_as, kept_in, reported_in, AllLive, AreSince, IsSince}
use Rattle.sd_epoch.specs.Since.{no_tally, since_of, since_at, values_at, members_at, IsFresh}
use Rattle.sd_epoch.specs.Table.{fresh, freshened}
use Rattle.sd_epoch.specs.TableInside.{since_in, IsTable}
use Rattle.sd_epoch.specs.declared.members.SetMember.{SetMember}
use Rattle.sd_epoch.specs.declared.table.Table.TheInside.{Inside}
use Rattle.sd_rows.specs.declared.tally.Tally.{Tally}
use Rattle.sd_epoch.specs.declared.values.TimerValue.{TimerValue}
use Rattle.sd_epoch.proofs.CountLemmas.{unset_none}
use Rattle.sd_epoch.proofs.OrderLemmas.{ranked_different}
use Rattle.sd_epoch.proofs.SinceLemmas.{fresh_is, since_none}
use Rattle.sd_epoch.proofs.SumLemmas.{entries_are, none_reported}
use Rattle.sd_epoch.proofs.TableLemmas.{few_samples}
use Rattle.sd_model_shard.proofs.Short.{no_samples}

module _ (t : Inside) (w : IsTable t) (none : t.held ≡ 0) where
  pub no_row_samples : (p : ℕ) → row_at t.rows.rows p ≢ None → (since_in t p).samples ≡ 0
  no_row_samples p l = omega (arith, few_samples t w p l, none)

  -- no sample is listed
  no_items : length t.values.items.items + length t.members.items.items ≡ 0
  no_items =
      let order = t.order.places.items in
      let are = entries_are t.rows.rows t.rows.tallies t.values.items.items t.members.items.items order w.rows (ranked_different order t.order.rank.items w.ranked) w.since w.owned_values w.owned_members in
      omega (arith, are, none_reported (λ id. is_listed id.kind) t.rows.rows (since_in t) order w.rows no_row_samples)

  pub no_values : t.values.items.items ≡ []
  no_values = nil_from_length t.values.items.items (omega (arith, no_items))

  pub no_members : t.members.items.items ≡ []
  no_members = nil_from_length t.members.items.items (omega (arith, no_items))

-- a row that goes leaves what came to the others
pub since_emptied : (rows : List (Option Row)) (at : ℕ) (since : ℕ → Summary) → AreSince rows since → AreSince (set rows at None) since
since_emptied rows at since reported p row is = elim (cases_eq p at) as (λ _. IsSince (kind_of row.kind) row.base.0 (since p)) [
  | inl e ↦ absurd (cc (is, ap (row_at (set rows at None)) e, unset_none rows at))
  | inr ne ↦ reported p row (sym (get_or-set_other rows at p None None ne) ∙ is)
]

-- where there was a row before another went, it is there
pub still_live : (rows : List (Option Row)) (at p : ℕ) → row_at (set rows at None) p ≢ None → row_at rows p ≢ None
still_live rows at p l none = elim (cases_eq p at) as (λ _. ⊥) [
  | inl e ↦ l (ap (row_at (set rows at None)) e ∙ unset_none rows at)
  | inr ne ↦ l (get_or-set_other rows at p None None ne ∙ none)
]

-- fresh tallies, without values and members
pub all_fresh : (rows : List (Option Row)) (tallies : List Tally) (values : List TimerValue) (members : List SetMember) → values ≡ [] → members ≡ []
    → ((p : ℕ) (row : Row) → row_at rows p ≡ Some row → IsFresh row.base.0 (get_or tallies p no_tally))
    → (p : ℕ) (row : Row) → row_at rows p ≡ Some row → since_at tallies values members p ≡ no_samples row.base.0
all_fresh rows tallies values members no_values no_members fresh p row is =
    (λ i. since_at tallies (no_values i) (no_members i) p) ∙ fresh_is row.base.0 (get_or tallies p no_tally) (fresh p row is)

pub fresh_since : (rows : List (Option Row)) (since : ℕ → Summary) → ((p : ℕ) (row : Row) → row_at rows p ≡ Some row → since p ≡ no_samples row.base.0) → AreSince rows since
fresh_since rows since none p row is = subst (IsSince (kind_of row.kind) row.base.0) (sym (none p row is)) (since_none (kind_of row.kind) row.base.0)

pub fresh_samples : (rows : List (Option Row)) (since : ℕ → Summary) → ((p : ℕ) (row : Row) → row_at rows p ≡ Some row → since p ≡ no_samples row.base.0)
    → (p : ℕ) → row_at rows p ≢ None → (since p).samples ≡ 0
fresh_samples rows since none p l = let row = some_of (row_at rows p) l in ap (λ (x : Summary). x.samples) (none p row.0 row.1)

-- rows whose samples were taken out are those rows without them
pub freshened_are : (rows : List (Option Row)) (since since' : ℕ → Summary) (order : List ℕ) → AllLive rows order → ((p : ℕ) (row : Row) → row_at rows p ≡ Some row → since' p ≡ no_samples row.base.0)
    → reported_in rows since' order ≡ freshened (reported_in rows since order)
freshened_are rows since since' [] l none = refl
freshened_are rows since since' (p ∷ order) l none =
    let row = some_of (row_at rows p) l.0 in
    let here : kept_in rows since' p ≡ fresh (kept_in rows since p) =
    (λ i. kept_as (row.1 i) (none p row.0 row.1 i)) ∙ sym (ap (λ (o : Option Row). fresh (kept_as o (since p))) row.1) in
    let rest = freshened_are rows since since' order l.1 none in
    λ i. (id_in rows p, here i) ∷ rest i

-- A table without samples in which a row was kept.
module _ (t : Inside) (w : IsTable t) (none : t.held ≡ 0) (rows : List (Option Row)) (at : ℕ) (row : Row) (tallies : List Tally)
    (here : row_at rows at ≡ Some row) (others : (p : ℕ) → p ≢ at → row_at rows p ≡ row_at t.rows.rows p)
    (tally : IsFresh row.base.0 (get_or tallies at no_tally)) (other_tallies : (p : ℕ) → p ≢ at → get_or tallies p no_tally ≡ get_or t.rows.tallies p no_tally) where
  pub kept_fresh : (p : ℕ) (r : Row) → row_at rows p ≡ Some r → since_at tallies t.values.items.items t.members.items.items p ≡ no_samples r.base.0
  kept_fresh p r is = elim (cases_eq p at) as (λ _. since_at tallies t.values.items.items t.members.items.items p ≡ no_samples r.base.0) [
    | inl e ↦
        let same : r ≡ row = cc (is, ap (row_at rows) e, here) in
        (λ i. since_at tallies (no_values t w none i) (no_members t w none i) (e i)) ∙ fresh_is row.base.0 (get_or tallies at no_tally) tally ∙ ap (λ (x : Row). no_samples x.base.0) (sym same)
    | inr ne ↦
        let was = sym (others p ne) ∙ is in
        ap (λ (x : Tally). since_of x (values_at p t.values.items.items) (members_at p t.members.items.items)) (other_tallies p ne)
        ∙ (w.since p r was).none (no_row_samples t w none p (λ gone. absurd (cc (was, gone))))
  ]
