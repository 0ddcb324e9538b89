-- A table to which a sample came.
use Rattle.std.proofs.Common.{◌≡◌, ◌≢◌, ℕ, ◌+◌, ◌*◌, ◌^◌, ◌<◌, ◌≤◌, ◌==◌, Bool, true, false, cond, pos, ◌+ℤ◌, List, length, get_or, set, Option, Some, None, inl, inr, refl, sym, ap, subst, ◌∙◌, arith}
use Rattle.std.specs.Prelude.{unsigned_abs, unwrap_or}
use Rattle.std.proofs.lemmas.Bool.{cases_eq, eq-eqb, ne_eqb}
use Rattle.std.proofs.lemmas.List.{get_or-set_same, get_or-set_other}
use Rattle.std.specs.Ordering.{eq_by_cmp}
use Rattle.std.specs.FinMap.{get, insert, get-insert, same_map}
use Rattle.sd_model_text.specs.Lines.{Sample}
use Rattle.sd_model_shard.specs.Rows as model
use Rattle.sd_model_shard.specs.Rows.{RowId, row_cmp, Kept, Summary, row_of, sample_weight, row_in, samples_in, summary_after, touched, without_samples}
use Rattle.sd_model_shard.proofs.RowLemmas.{rows_exact, rows_total}
use Rattle.sd_key.specs.Kind.{kind_of}
use Rattle.sd_rows.specs.Rows.{row_at}
use Rattle.sd_rows.specs.declared.row.Row.{Row}
use Rattle.sd_epoch.specs.Places.{id_in, kept_in, kept_as, reported_live, AreRows, AreSince, IsSince}
use Rattle.sd_epoch.specs.Since.{gauge_by, no_tally, since_at, values_at, members_at, reported_values, reported_members, values_with, members_with, without_swaps}
use Rattle.sd_epoch.specs.declared.members.SetMember.{SetMember}
use Rattle.sd_rows.specs.declared.tally.Tally.{Tally}
use Rattle.sd_epoch.specs.declared.values.TimerValue.{TimerValue}
use Rattle.sd_epoch.proofs.ListingLemmas.{same_itself}
use Rattle.sd_epoch.proofs.SinceLemmas.{summary_is, since_more}
use Rattle.sd_epoch.proofs.SumLemmas.{samples_found}
use Rattle.sd_epoch.proofs.ReportedLemmas.{reported_at, reported_set}
use Rattle.sd_model_shard.proofs.Short.{sampled}

-- a row that is put where one was put
put_again : (m : model.Rows) (id : RowId) (a b : Kept) → insert (insert m id a) id b ≡ insert m id b
put_again m id a b =
    same_map rows_total rows_exact (insert (insert m id a) id b) (insert m id b) (λ q.
    get-insert rows_total (insert m id a) id b q ∙ ap (cond (eq_by_cmp row_cmp q id) (Some b)) (get-insert rows_total m id a q)
    ∙ by_tie (eq_by_cmp row_cmp q id) (get m q) ∙ sym (get-insert rows_total m id b q)) where
      by_tie : (t : Bool) (o : Option Kept) → cond t (Some b) (cond t (Some a) o) ≡ cond t (Some b) o
      by_tie true o = refl
      by_tie false o = refl

some_same : (x y : Kept) → ◌≡◌ {A = Option Kept} (Some x) (Some y) → x ≡ y
some_same x y h = cc

-- what is kept of a row that was put in a map
kept_was : (rows : List (Option Row)) (order : List ℕ) (since : ℕ → Summary) (place : ℕ) (m : model.Rows) (q : RowId) → AreRows rows order → row_at rows place ≢ None → id_in rows place ≡ q
    → reported_live rows since order ≡ insert m q (without_swaps (row_in m q)) → kept_in rows since place ≡ without_swaps (row_in m q)
kept_was rows order since place m q w here id live =
    let a = without_swaps (row_in m q) in
    some_same (kept_in rows since place) a
    (sym (reported_at rows order w since place here)
    ∙ ap (get (reported_live rows since order)) id
    ∙ ap (λ (x : model.Rows). get x q) live
    ∙ get-insert rows_total m q a q ∙ ap (λ b. cond b (Some a) (get m q)) (same_itself q))

row_few : (m : model.Rows) (o : Option Kept) → ((kept : Kept) → o ≡ Some kept → kept.since.samples ≤ samples_in m) → (unwrap_or o (without_samples (pos 0) 0)).since.samples ≤ samples_in m
row_few m None few = omega arith
row_few m (Some kept) few = few kept refl

-- and it has no more samples than all rows
pub kept_few : (rows : List (Option Row)) (order : List ℕ) (since : ℕ → Summary) (place : ℕ) (m : model.Rows) (q : RowId) → AreRows rows order → row_at rows place ≢ None → id_in rows place ≡ q
    → reported_live rows since order ≡ insert m q (without_swaps (row_in m q)) → (since place).samples ≤ samples_in m
kept_few rows order since place m q w here id live =
    omega (
      arith,
      ap (λ (kept : Kept). kept.since.samples) (kept_was rows order since place m q w here id live),
      row_few m (get m q) (λ kept is. samples_found m q kept is),
    )

-- what is said of what came to the rows, after one more sample of one of them
pub since_after : (rows : List (Option Row)) (since since' : ℕ → Summary) (place : ℕ) (s : Sample) (row : Row) → AreSince rows since → row_at rows place ≡ Some row → kind_of row.kind ≡ s.kind
    → since' place ≡ summary_after s.kind (since place) s → ((p : ℕ) → p ≢ place → since' p ≡ since p) → unsigned_abs (since' place).weight ≤ ((since place).samples + 1) * 10 ^ 24 → AreSince rows since'
since_after rows since since' place s row reported here kind after others bound p r is = elim (cases_eq p place) as (λ _. IsSince (kind_of r.kind) r.base.0 (since' p)) [
  | inl e ↦
      let same : r ≡ row = cc (is, ap (row_at rows) e, here) in
      let was : IsSince s.kind row.base.0 (since place) = subst (λ k. IsSince k row.base.0 (since place)) kind (reported place row here) in
      let weight : unsigned_abs (summary_after s.kind (since place) s).weight ≤ ((since place).samples + 1) * 10 ^ 24 = subst (λ (x : Summary). unsigned_abs x.weight ≤ ((since place).samples + 1) * 10 ^ 24) after bound in
      let more = since_more s.kind row.base.0 (since place) s was weight in
      subst (λ (x : Row). IsSince (kind_of x.kind) x.base.0 (since' p)) (sym same)
      (subst (λ k. IsSince k row.base.0 (since' p)) (sym kind)
      (subst (IsSince s.kind row.base.0) (sym (ap since' e ∙ after)) more))
  | inr ne ↦ subst (IsSince (kind_of r.kind) r.base.0) (sym (others p ne)) (reported p r is)
]

-- A sample of the row in a place: its tally, and the values and members with it.
module _ (tallies : List Tally) (values values' : List TimerValue) (members members' : List SetMember) (place : ℕ) (t' : Tally) (s : Sample)
    (within : place < length tallies)
    (samples : t'.samples ≡ (get_or tallies place no_tally).samples + 1)
    (gauge : t'.gauge.0 ≡ gauge_by s.kind (get_or tallies place no_tally).gauge.0 s)
    (weight : t'.weight.0 ≡ (get_or tallies place no_tally).weight.0 +ℤ sample_weight s.kind s)
    (of_values : (p : ℕ) → reported_values (values_at p values') ≡ cond (place == p) (values_with s.kind (reported_values (values_at p values)) s) (reported_values (values_at p values)))
    (of_members : (p : ℕ) → reported_members (members_at p members') ≡ cond (place == p) (members_with s.kind (reported_members (members_at p members)) s) (reported_members (members_at p members))) where
  pub here_after : since_at (set tallies place t') values' members' place ≡ summary_after s.kind (since_at tallies values members place) s
  here_after =
      let tally = get_or-set_same tallies place t' no_tally within in
      let mine = of_values place ∙ ap (λ b. cond b (values_with s.kind (reported_values (values_at place values)) s) (reported_values (values_at place values))) (eq-eqb place place refl) in
      let named = of_members place ∙ ap (λ b. cond b (members_with s.kind (reported_members (members_at place members)) s) (reported_members (members_at place members))) (eq-eqb place place refl) in
      let all : since_at (set tallies place t') values' members' place
      ≡ record { samples = t'.samples; weight = t'.weight.0; gauge = t'.gauge.0; values = values_with s.kind (reported_values (values_at place values)) s; members = members_with s.kind (reported_members (members_at place members)) s } =
      λ i. record { samples = (tally i).samples; weight = (tally i).weight.0; gauge = (tally i).gauge.0; values = mine i; members = named i } in
      all ∙ summary_is s.kind (get_or tallies place no_tally) t' (reported_values (values_at place values)) (reported_members (members_at place members)) s samples gauge weight

  pub others_after : (p : ℕ) → p ≢ place → since_at (set tallies place t') values' members' p ≡ since_at tallies values members p
  others_after p ne =
      let away : (place == p) ≡ false = ne_eqb place p (λ e. ne (sym e)) in
      let tally = get_or-set_other tallies place p t' no_tally ne in
      let mine = of_values p ∙ ap (λ b. cond b (values_with s.kind (reported_values (values_at p values)) s) (reported_values (values_at p values))) away in
      let named = of_members p ∙ ap (λ b. cond b (members_with s.kind (reported_members (members_at p members)) s) (reported_members (members_at p members))) away in
      λ i. record { samples = (tally i).samples; weight = (tally i).weight.0; gauge = (tally i).gauge.0; values = mine i; members = named i }

  module _ (rows : List (Option Row)) (order : List ℕ) (m : model.Rows) (w : AreRows rows order) (here : row_at rows place ≢ None) (id : id_in rows place ≡ row_of s)
      (live : reported_live rows (since_at tallies values members) order ≡ insert m (row_of s) (without_swaps (row_in m (row_of s)))) where
    pub live_after : reported_live rows (since_at (set tallies place t') values' members') order ≡ touched m s
    live_after =
        let a = without_swaps (row_in m (row_of s)) in
        let since = since_at tallies values members in
        let since' = since_at (set tallies place t') values' members' in
        let kept : kept_in rows since' place ≡ sampled s.kind (row_in m (row_of s)) s =
        ap (kept_as (row_at rows place)) here_after
        ∙ ap (λ (k : Kept). record { base = k.base; swaps = k.swaps; since = summary_after s.kind k.since s }) (kept_was rows order since place m (row_of s) w here id live) in
        reported_set rows rows order since since' place w w (λ p l. (l, refl)) (λ p l. l) here (λ p ne. ap (kept_as (row_at rows p)) (others_after p ne))
        ∙ (λ i. insert (live i) (id i) (kept i))
        ∙ put_again m (row_of s) a (sampled s.kind (row_in m (row_of s)) s)
