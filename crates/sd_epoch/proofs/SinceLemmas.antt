-- What came to the row of a place, after a sample.
use Rattle.std.proofs.Common.{◌≡◌, ℕ, ◌+◌, ◌*◌, ◌^◌, ◌≤◌, ℤ, pos, ◌+ℤ◌, List, [], ◌∷◌, ◌++◌, refl, ◌∙◌, arith, length-append}
use Rattle.std.proofs.lemmas.Int.{ints}
use Rattle.std.specs.Prelude.{unsigned_abs}
use Rattle.sd_model_text.specs.Names.{Kind, Counter, Timer, Gauge, Set}
use Rattle.sd_model_text.specs.Lines.{Sample}
use Rattle.sd_model_shard.specs.Rows.{Summary, sample_weight, summary_after}
use Rattle.sd_epoch.specs.Places.{IsSince}
use Rattle.sd_epoch.specs.Since.{gauge_by, values_with, members_with, IsFresh}
use Rattle.sd_rows.specs.declared.tally.Tally.{Tally}
use Rattle.sd_model_shard.proofs.Short.{no_samples}

add_none : (z : ℤ) → z +ℤ pos 0 ≡ z
add_none z = omega (arith, ints)

-- a tally, values and members after a sample are the summary after it
pub summary_is : (kind : Kind) (t t' : Tally) (values : List ℤ) (members : List (List ℕ)) (s : Sample)
    → t'.samples ≡ t.samples + 1 → t'.gauge.0 ≡ gauge_by kind t.gauge.0 s → t'.weight.0 ≡ t.weight.0 +ℤ sample_weight kind s
    → ◌≡◌ {A = Summary} (record { samples = t'.samples; weight = t'.weight.0; gauge = t'.gauge.0; values = values_with kind values s; members = members_with kind members s })
    (summary_after kind (record { samples = t.samples; weight = t.weight.0; gauge = t.gauge.0; values = values; members = members }) s)
summary_is Counter t t' values members s n g w = λ i. record { samples = n i; weight = w i; gauge = g i; values = values; members = members }
summary_is Timer t t' values members s n g w = λ i. record { samples = n i; weight = w i; gauge = g i; values = values ++ s.value ∷ []; members = members }
summary_is Gauge t t' values members s n g w =
    let same = w ∙ add_none t.weight.0 in λ i. record { samples = n i; weight = same i; gauge = g i; values = values; members = members }
summary_is Set t t' values members s n g w =
    let same = w ∙ add_none t.weight.0 in λ i. record { samples = n i; weight = same i; gauge = g i; values = values; members = members ++ s.member ∷ [] }

-- what is said of what came to a row, after one more sample of its kind
pub since_more : (kind : Kind) (base : ℤ) (since : Summary) (s : Sample) → IsSince kind base since → unsigned_abs (summary_after kind since s).weight ≤ (since.samples + 1) * 10 ^ 24
    → IsSince kind base (summary_after kind since s)
since_more Counter base since s w bound = record { bound = bound; counted = w.counted; none = λ none. absurd (omega arith) }
since_more Timer base since s w bound =
    record { bound = bound; counted = omega (arith, w.counted, length-append since.values (s.value ∷ [])); none = λ none. absurd (omega arith) }
since_more Gauge base since s w bound = record { bound = bound; counted = w.counted; none = λ none. absurd (omega arith) }
since_more Set base since s w bound =
    record { bound = bound; counted = omega (arith, w.counted, length-append since.members (s.member ∷ [])); none = λ none. absurd (omega arith) }

-- and of what came to a row without samples
pub since_none : (kind : Kind) (base : ℤ) → IsSince kind base (no_samples base)
since_none Counter base = record { bound = omega arith; counted = refl; none = λ _. refl }
since_none Timer base = record { bound = omega arith; counted = refl; none = λ _. refl }
since_none Gauge base = record { bound = omega arith; counted = refl; none = λ _. refl }
since_none Set base = record { bound = omega arith; counted = refl; none = λ _. refl }

-- a tally of no samples, without values and members
pub fresh_is : (base : ℤ) (t : Tally) → IsFresh base t → ◌≡◌ {A = Summary} (record { samples = t.samples; weight = t.weight.0; gauge = t.gauge.0; values = []; members = [] }) (no_samples base)
fresh_is base t w = λ i. record { samples = w.samples i; weight = w.weight i; gauge = w.gauge i; values = []; members = [] }
