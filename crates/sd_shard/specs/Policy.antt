-- Policies of the code, as the definitions have them.
use Rattle.sd_model_shard.specs.Shard as model
use Rattle.sd_shard.specs.declared.policy.Policy.{Policy}

abbrev pub policy_of : Policy → model.Policy
policy_of p = record { counters = p.counters; timers = p.timers; gauges = p.gauges; sets = p.sets; max_ttl = p.max_ttl }
