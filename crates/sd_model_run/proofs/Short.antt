-- Short names that proofs have for parts of definitions.
use Rattle.std.specs.Prelude.{[], ℕ, List, Bool, nat_lt, length, ◌<◌, ◌≤◌, ◌⊎◌, ◌^◌}
use Rattle.sd_model_run.specs.Run.{IsReceiverTrace}
use Rattle.sd_model_serve.specs.Receiving.{ReceiverTrace, HaveRun}
use Rattle.sd_model_outside.specs.Outside.{Object}
use Rattle.sd_model_serve.specs.Rounds.{OutletRoom, OutletTrace}

-- how many texts an outlet takes at most
abbrev pub most_texts : ℕ
most_texts = 2 ^ 61

-- Why a text may be skipped before which so many were queued: it is longer than a buffer; as many were queued as there are buffers; or
-- as many as an outlet takes.
abbrev pub MayBeSkipped : OutletRoom → (before : ℕ) → List ℕ → Type 0
MayBeSkipped room before text = (room.bytes < length text) ⊎ (room.buffers ≤ before) ⊎ (most_texts ≤ before)

-- whether there is an outlet
abbrev pub any_buffers : OutletRoom → Bool
any_buffers room = nat_lt 0 room.buffers

-- no text went through an outlet
abbrev pub no_outlet_trace : OutletTrace
no_outlet_trace = record { queued = []; skipped = 0 }

-- each receiver did so with a source and a run of so many wires of its own
abbrev pub AreReceiverTraces : (asked made run : ℕ) → List ReceiverTrace → (sources sources_now wires wires_now : List Object) → Type 0
AreReceiverTraces asked made run = HaveRun (IsReceiverTrace asked made) run
