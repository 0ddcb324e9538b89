-- What a contract sees of shards, as a proof tells it apart.
use Rattle.std.specs.Prelude.{List, refl}
use Rattle.std.specs.Coded.{Coded, code_by, coded×, coded_list}
use Rattle.sd_model_shard.specs.Shard.{Limits, Policy, State, Table}
use Rattle.sd_shard.specs.Codes.{limits_code, policy_code, state_code, table_code}
use Rattle.sd_shards.specs.Shards.{Group}

abbrev pub group_code : Coded Group
group_code =
    code_by (Limits × (Policy × (List State × List Table))) (coded× limits_code (coded× policy_code (coded× (coded_list state_code) (coded_list table_code))))
    (λ g. (g.limits, (g.policy, (g.states, g.swapped)))) (λ p. record { limits = p.0; policy = p.1.0; states = p.1.1.0; swapped = p.1.1.1 }) (λ _. refl)
