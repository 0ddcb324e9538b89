-- Each good sample of a replay has one place, and each record the statistics of its own journals.
use Rattle.std.proofs.Common.{List}
use Rattle.sd_model_serve.specs.Rounds.{AreAccounted}
use Rattle.sd_law_record.proofs.AccountLemmas.{account}
use Rattle.sd_model_replay.specs.Replay.{bounds_of, limits_of, policy_of, Played, form_of, history_at, rounds}
use Rattle.sd_model_replay.proofs.HistoryLemmas.{tables-history_at}
use Rattle.sd_model_settings.specs.Settings.{Settings}
use Rattle.sd_model_replay.proofs.AccountingLemmas.{legal}

pub are_accounted : (settings : Settings) (played : List Played) → AreAccounted (limits_of settings) (policy_of settings) (form_of settings) (λ i. history_at (bounds_of settings) i played) (rounds (bounds_of settings) played)
are_accounted settings played =
    let bounds = bounds_of settings in
    account bounds.limits bounds.policy (form_of settings) (λ i. history_at bounds i played) (rounds bounds played) (λ i below. legal bounds i played) (λ i below. tables-history_at bounds i played)
