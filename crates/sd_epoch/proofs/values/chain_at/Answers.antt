use Rattle.std.proofs.Common.{ℕ, ℤ, refl}
use Rattle.std.proofs.Math.Seq.{map-set_same}
use Rattle.sd_epoch.specs.Since.{no_value}
use Rattle.sd_epoch.specs.declared.values.TimerValue.{TimerValue}
use Rattle.sd_epoch.proofs.values.chain_at.Goals as goal

pub returns-clause-items : goal.returns-clause-items
returns-clause-items c = map-set_same {B = ℕ × ℤ} (λ (v : TimerValue). (v.place, v.value.0)) c.args.values.now c.args.at _ no_value refl
