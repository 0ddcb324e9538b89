-- Where there were no outlets, nothing is added.
use Rattle.std.proofs.Math.Path.{fun_ext}
use Rattle.std.proofs.Common.{◌≡◌, ◌∙◌, ℕ, ◌+◌, List, [], ◌∷◌, ◌++◌, codes, get_or, length, map, ap, sym, arith}
use Rattle.std.specs.Prelude.{Some}
use Rattle.sd_model_outside.specs.Backend.{Backend, PerBackend, at_backend, backends, each_of}
use Rattle.sd_model_outside.proofs.BackendLemmas.{at_each, same_each}
use Rattle.sd_model_record.specs.Totals.{Total, faults_name, totals_of}
use Rattle.sd_model_record.specs.Desk.{Facts}
use Rattle.sd_model_shard.specs.Shard.{Numbers}
use Rattle.sd_admin.specs.Totals.{totals_view}
use Rattle.sd_admin.specs.declared.totals.Totals.{Totals}
use Rattle.sd_desk.specs.Facts.{facts_view}
use Rattle.sd_outside.specs.Backends.{at}
use Rattle.sd_outside.specs.declared.backends.PerBackend.{PerBackend as PerBackendOf}
use Rattle.sd_outside.proofs.BackendLemmas.{same_kind}
use Rattle.sd_serve.specs.Through.{faults_at}
use Rattle.sd_shard.specs.Shard.{numbers_in}
use Rattle.sd_top.specs.Serving.{totals_in}
use Rattle.sd_top.proofs.server_end.totals_of.Goals as goal
use Rattle.sd_model_record.proofs.Short.{added}

none_more : (n : ℕ) → n ≡ n + 0
none_more n = omega arith

none_added : (faults : PerBackend ℕ) → faults ≡ each_of (λ b. at_backend faults b + 0)
none_added faults = same_each faults (each_of (λ b. at_backend faults b + 0)) (λ b. none_more (at_backend faults b) ∙ sym (at_each (λ c. at_backend faults c + 0) b))

pub returns-in_default : goal.returns-in_default
returns-in_default c =
    let books = c.args.books.now in
    let desk = c.args.desk.now in
    c.new-totals.ensures
    ∙ ap (totals_of (added (map numbers_in books))) c.facts-facts.ensures.facts
    ∙ (λ i. totals_of (added (map numbers_in books)) (record desk.facts { faults = none_added desk.facts.faults i }))
    ∙ ap (totals_in books desk) (sym c.in_default.is)

-- the number of the total at a place
number_at : ℕ → List Total → ℕ
number_at i totals = (get_or totals i ([], 0)).1

-- totals that are known, with other faults
other_faults : (all : (Numbers → ℕ) → ℕ) (facts : Facts) (totals : Totals) → totals_view totals ≡ totals_of all facts → (faults : PerBackendOf ℕ) (each : Backend → ℕ) → at faults ≡ each
    → totals_view (record totals { faults = faults }) ≡ totals_of all (record facts { faults = each_of each })
unfolding number_at
other_faults all facts totals are faults each same =
    let behind : ℕ = 9 + length backends in
    λ i. (codes "packets", number_at 0 (are i))
    ∷ (codes "lines", number_at 1 (are i))
    ∷ (codes "bad", number_at 2 (are i))
    ∷ (codes "taken", number_at 3 (are i))
    ∷ (codes "dropped", number_at 4 (are i))
    ∷ (codes "flushed", number_at 5 (are i))
    ∷ (codes "held", number_at 6 (are i))
    ∷ (codes "deleted", number_at 7 (are i))
    ∷ (codes "rounds", number_at 8 (are i))
    ∷ (map (λ b. (faults_name b, same i b)) backends
    ++ (codes "repeater_faults", number_at behind (are i))
    ∷ (codes "admin_faults", number_at (behind + 1) (are i))
    ∷ [])

pub returns : goal.returns
returns c =
    let books = c.args.books.now in
    let desk = c.args.desk.now in
    let outs = c.in-Some.outs in
    let facts = c.facts-facts.result in
    let faults : at c.from_fn.result ≡ (λ b. at facts.faults b + (at outs b).worked.faults) =
    fun_ext (λ b. (c.from_fn.ensures b).1 ∙ ap (λ k. at facts.faults k + (at outs k).worked.faults) (same_kind b)) in
    other_faults (added (map numbers_in books)) (facts_view facts) c.new-totals.result c.new-totals.ensures c.from_fn.result _ faults
    ∙ ap (λ (known : Facts). totals_of (added (map numbers_in books)) (record known { faults = each_of (λ b. at_backend known.faults b + faults_at (Some outs) b) })) c.facts-facts.ensures.facts
    ∙ ap (totals_in books desk) (sym c.in-Some.is)
