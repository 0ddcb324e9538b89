-- The totals of the code, as the definitions have them.
use Rattle.std.specs.Prelude.{List, [], ◌∷◌, ◌++◌, codes, map}
use Rattle.sd_model_outside.specs.Backend.{backends}
use Rattle.sd_outside.specs.Backends.{at}
use Rattle.sd_model_record.specs.Totals as model
use Rattle.sd_model_record.specs.Desk.{Facts}
use Rattle.sd_admin.specs.declared.sums.Sums.{Sums}
use Rattle.sd_admin.specs.declared.totals.Total.{Total}
use Rattle.sd_admin.specs.declared.totals.Totals.{Totals}

abbrev pub total_seen : Total → model.Total
total_seen t = (t.name.now, t.number)

-- those behind the faults of backends
abbrev pub behind_faults : Totals → List model.Total
behind_faults t = (codes "repeater_faults", t.repeater_faults) ∷ (codes "admin_faults", t.admin_faults) ∷ []

abbrev pub totals_view : Totals → List model.Total
totals_view t =
    (codes "packets", t.packets)
    ∷ (codes "lines", t.lines)
    ∷ (codes "bad", t.bad)
    ∷ (codes "taken", t.taken)
    ∷ (codes "dropped", t.dropped)
    ∷ (codes "flushed", t.flushed)
    ∷ (codes "held", t.held)
    ∷ (codes "deleted", t.deleted)
    ∷ (codes "rounds", t.rounds)
    ∷ (map (λ b. (model.faults_name b, at t.faults b)) backends ++ behind_faults t)

-- the totals of shards whose numbers are added up so, and of a desk with these facts
abbrev pub totals_by : Sums → Facts → List model.Total
totals_by sums facts =
    model.totals_of (λ number. number (record {
      rows = 0;
      held = sums.held;
      taken = sums.taken;
      flushed = sums.flushed;
      deleted = sums.deleted;
      dropped = sums.dropped;
    })) facts
