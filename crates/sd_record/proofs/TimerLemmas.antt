-- The thresholds and limits of a timer.
use Rattle.std.proofs.Common.{◌≡◌, ◌≢◌, ℕ, ◌+◌, ◌<◌, Bool, true, false, cond, ℤ, pos, negsuc, List, [], ◌∷◌, ◌++◌, inl, inr, length, get_or, map, drop, refl, sym, ap, subst, ◌∙◌, Some, arith}
use Rattle.std.specs.Prelude.{◌==◌, All, filter_map, unsigned_abs, IsTrue, ◌↔◌}
use Rattle.std.proofs.lemmas.Bool.{cases_Bool, false≢true}
use Rattle.std.proofs.lemmas.List.{length-map, get_or-map}
use Rattle.std.proofs.lemmas.List.Elements.{All-get_or}
use Rattle.sd_model_text.specs.Names.{is_part}
use Rattle.sd_law_text.specs.Bytes.{HasPart}
use Rattle.sd_model_text.specs.Numbers as text
use Rattle.sd_model_text.specs.Numbers.{per_second}
use Rattle.sd_model_text.proofs.PartLemmas.{part_found}
use Rattle.sd_law_text.proofs.PartLemmas.{found_part}
use Rattle.sd_law_settings.specs.Ranges.{IsThreshold}
use Rattle.sd_model_shard.specs.Values.{Bin, PartStatistics, WholeStatistics, bins, pct, timer_of, whole_statistics}
use Rattle.sd_model_settings.specs.Settings.{Plan}
use Rattle.sd_model_record.specs.Record.{limits_for, timer_figures}
use Rattle.sd_epoch.proofs.ListingLemmas.{left_from}
use Rattle.sd_decimal.specs.declared.number.Micro.{Micro}
use Rattle.sd_plan.specs.Values.{micros}
use Rattle.sd_plan.specs.Entries.{limits_of, classes_view}
use Rattle.sd_plan.specs.declared.entries.Classes.{Classes}
use Rattle.sd_model_shard.proofs.Short.{bin}

pub threshold_at : (ts : List Micro) (i : ℕ) (d : Micro) → i < length ts → All IsThreshold (micros ts) → IsThreshold (get_or ts i d).0
threshold_at ts i d below all =
    subst IsThreshold (get_or-map (λ (m : Micro). m.0) ts i d d.0 below)
    (All-get_or IsThreshold (micros ts) i d.0 (omega (arith, length-map ts (λ (m : Micro). m.0))) all)

pub some_magnitude : (z : ℤ) → z ≢ pos 0 → unsigned_abs z ≢ 0
some_magnitude (pos n) some = λ none. some (ap pos none)
some_magnitude (negsuc n) some = λ none. absurd (omega arith)

-- no value is above all limits
pub none_above : (below : text.Limit) (values : List ℤ) → bin text.Infinite below values ≡ 0
none_above below [] = refl
none_above below (v ∷ values) = none_above below values

-- whether a metric is part of a key, as the code found it
pub reported_part : (r : Bool) (key part bytes : List ℕ) → bytes ≡ part → (IsTrue r ↔ HasPart key bytes) → is_part part key ≡ r
reported_part true key part bytes same h =
    let (prefix, back, is) = h.0 refl in
    part_found part key prefix back (is ∙ ap (λ p. prefix ++ p ++ back) same)
reported_part false key part bytes same h =
    elim (cases_Bool (is_part part key)) [
      | inl there ↦ absurd (absent (h.1 (subst (HasPart key) (sym same) (found_part part key there))))
      | inr none ↦ none
    ] where
      absent : IsTrue false → ⊥
      absent e = cc

-- the entry at a place applies where its metric is part of the key
pub entry_applies : (key : List ℕ) (hs : List Classes) (i : ℕ) (c : Classes) → i < length hs → c ≡ get_or hs i c → is_part c.metric.items key ≡ true → limits_of c.limits.items ≡ limits_for key (map classes_view (drop i hs))
entry_applies key hs i c below is part =
    sym (ap (λ cs. limits_for key (map classes_view cs)) (left_from hs i c below is)
    ∙ ap (λ b. cond b (limits_of c.limits.items) (limits_for key (map classes_view (drop (i + 1) hs)))) part)

-- and else those behind it are left
pub entry_passed : (key : List ℕ) (hs : List Classes) (i : ℕ) (c : Classes) → i < length hs → c ≡ get_or hs i c → is_part c.metric.items key ≡ false → limits_for key (map classes_view (drop (i + 1) hs)) ≡ limits_for key (map classes_view (drop i hs))
entry_passed key hs i c below is part =
    sym (ap (λ cs. limits_for key (map classes_view cs)) (left_from hs i c below is)
    ∙ ap (λ b. cond b (limits_of c.limits.items) (limits_for key (map classes_view (drop (i + 1) hs)))) part)

-- the figures of a timer with values, by what its parts are
pub figures-made :
    (plan : Plan) (key : List ℕ) (weight rate : ℤ) (values : List ℤ) (w : WholeStatistics) (parts : List PartStatistics) (bs : List Bin) (n : ℕ) → (n == 0) ≡ false → n ≡ length values → rate ≡ per_second weight plan.interval_ms
    → w ≡ whole_statistics (timer_of values weight plan.interval_ms) → parts ≡ filter_map (λ t. pct t (timer_of values weight plan.interval_ms).values) plan.thresholds
    → bs ≡ bins (limits_for key plan.histograms) (timer_of values weight plan.interval_ms).values
    → record { count = weight; count_ps = rate; whole = Some w; parts = parts; bins = bs } ≡ timer_figures plan key weight values
figures-made plan key weight rate [] w parts bs n some many a b d e = absurd (false≢true (sym some ∙ ap (λ m. m == 0) many))
figures-made plan key weight rate (v ∷ values) w parts bs n some many a b d e = cc
