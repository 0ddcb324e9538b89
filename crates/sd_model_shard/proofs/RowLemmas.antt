-- The order of rows, and maps of rows that are made from lists.
use Rattle.std.proofs.Common.{◌≡◌, ℕ, cond, eqb, List, refl, sym, ap, ◌∙◌}
use Rattle.std.specs.Ordering.{nat_cmp}
use Rattle.std.specs.Cmp.{IsTotalOrder, on_total, then_total, nat_cmp_total}
use Rattle.std.specs.Cmp.Lexicographic.{slice_cmp, nat_list_cmp_total}
use Rattle.std.specs.FinMap.{IsAntisymmetric, nat_cmp-IsAntisymmetric, slice_cmp-IsAntisymmetric}
use Rattle.std.proofs.lemmas.Map.Lookups.{exact_pairs, exact_unsigned}
use Rattle.sd_model_text.specs.Names.{Kind, Counter, Timer, Gauge, Set, rank}
use Rattle.sd_model_shard.specs.Rows.{RowId, row_cmp}

kind_at : ℕ → Kind
kind_at n = cond (eqb n 0) Counter (cond (eqb n 1) Timer (cond (eqb n 2) Gauge Set))

kind_at-rank : (k : Kind) → kind_at (rank k) ≡ k
unfolding kind_at
kind_at-rank Counter = refl
kind_at-rank Timer = refl
kind_at-rank Gauge = refl
kind_at-rank Set = refl

-- rows that compare alike are one
pub rows_exact : IsAntisymmetric row_cmp
rows_exact a b h =
    let pairs = exact_pairs nat_cmp (slice_cmp nat_cmp) exact_unsigned (slice_cmp-IsAntisymmetric nat_cmp-IsAntisymmetric) (rank a.kind, a.key) (rank b.kind, b.key) h in
    let made : Kind → List ℕ → RowId = λ k key. record { kind = k; key = key } in
    ap (λ k. made k a.key) (sym (kind_at-rank a.kind)) ∙ ap (λ (p : ℕ × List ℕ). made (kind_at p.0) p.1) pairs ∙ ap (λ k. made k b.key) (kind_at-rank b.kind)

pub rows_total : IsTotalOrder row_cmp
rows_total = then_total (on_total (λ r. rank r.kind) nat_cmp_total) (on_total (λ r. r.key) nat_list_cmp_total)
