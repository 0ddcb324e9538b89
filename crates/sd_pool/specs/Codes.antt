-- Entries, as a proof tells them apart.
use Rattle.std.specs.Prelude.{ℕ, refl}
use Rattle.std.specs.Coded.{Coded, code_by, coded×, coded_ℕ}
use Rattle.sd_model_shard.specs.History.{Act}
use Rattle.sd_shard.specs.Codes.{act_code}
use Rattle.sd_pool.specs.Noted.{Noted}

abbrev pub noted_code : Coded Noted
noted_code = code_by (ℕ × Act) (coded× coded_ℕ act_code) (λ n. (n.number, n.act)) (λ p. record { number = p.0; act = p.1 }) (λ _. refl)
