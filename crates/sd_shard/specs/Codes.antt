-- Acts, states and what they are made of, as a proof tells them apart: by numbers, and by the entries of maps in order.
use Rattle.std.specs.Prelude.{◌≡◌, ◌⊎◌, ℕ, zero, suc, ℤ, Bool, List, refl}
use mathlib.Core.Logic.{inl, inr}
use Rattle.std.specs.FinMap.{code}
use Rattle.std.specs.Coded.{Coded, code_by, coded×, coded⊎, coded_bool, coded_ℕ, coded_ℤ, coded_list}
use Rattle.sd_model_text.specs.Names.{Kind, Counter, Timer, Gauge, Set, rank}
use Rattle.sd_model_text.specs.Lines.{Sample}
use Rattle.sd_model_shard.specs.Rows.{RowId, Summary, Kept, Rows, DumpRow}
use Rattle.sd_model_shard.specs.Shard.{Limits, Policy, State, Cause, NoRow, NoEntry, NoSum, NoNumber, Placed, Taken, Dropped, Table, Event, Submit, Swap, Delete, Dump, Look, Reply, Answered, Swapped, Deleted, Dumped, Looked, Numbers}
use Rattle.sd_model_shard.specs.History.{Act}

-- the kind at a place
abbrev kind_at : ℕ → Kind
kind_at zero = Counter
kind_at (suc zero) = Timer
kind_at (suc (suc zero)) = Gauge
kind_at (suc (suc (suc place))) = Set

pub kind_at-rank : (kind : Kind) → kind_at (rank kind) ≡ kind
kind_at-rank Counter = refl
kind_at-rank Timer = refl
kind_at-rank Gauge = refl
kind_at-rank Set = refl

abbrev pub kind_code : Coded Kind
kind_code = code_by ℕ coded_ℕ rank kind_at kind_at-rank

abbrev pub id_code : Coded RowId
id_code = code_by (Kind × List ℕ) (coded× kind_code (coded_list coded_ℕ)) (λ id. (id.kind, id.key)) (λ p. record { kind = p.0; key = p.1 }) (λ _. refl)

abbrev pub summary_code : Coded Summary
summary_code =
    code_by (ℕ × (ℤ × (ℤ × (List ℤ × List (List ℕ))))) (coded× coded_ℕ (coded× coded_ℤ (coded× coded_ℤ (coded× (coded_list coded_ℤ) (coded_list (coded_list coded_ℕ))))))
    (λ s. (s.samples, (s.weight, (s.gauge, (s.values, s.members)))))
    (λ p. record { samples = p.0; weight = p.1.0; gauge = p.1.1.0; values = p.1.1.1.0; members = p.1.1.1.1 }) (λ _. refl)

abbrev pub kept_code : Coded Kept
kept_code =
    code_by (ℤ × (ℕ × Summary)) (coded× coded_ℤ (coded× coded_ℕ summary_code)) (λ kept. (kept.base, (kept.swaps, kept.since)))
    (λ p. record { base = p.0; swaps = p.1.0; since = p.1.1 }) (λ _. refl)

abbrev pub rows_code : Coded Rows
rows_code = code id_code kept_code

abbrev pub sample_code : Coded Sample
sample_code =
    code_by (RowId × (ℤ × (ℕ × (Bool × List ℕ)))) (coded× id_code (coded× coded_ℤ (coded× coded_ℕ (coded× coded_bool (coded_list coded_ℕ)))))
    (λ s. (record { kind = s.kind; key = s.key }, (s.value, (s.rate, (s.is_signed, s.member)))))
    (λ p. record { kind = p.0.kind; key = p.0.key; value = p.1.0; rate = p.1.1.0; is_signed = p.1.1.1.0; member = p.1.1.1.1 }) (λ _. refl)

abbrev pub table_code : Coded Table
table_code = code_by Rows rows_code (λ t. t.live) (λ live. record { live = live }) (λ _. refl)

abbrev from_cause : Cause → ((ℕ × ℕ) ⊎ (ℕ × ℕ)) ⊎ ((ℕ × ℕ) ⊎ ℕ)
from_cause (NoRow live limit) = inl (inl (live, limit))
from_cause (NoEntry entries limit) = inl (inr (entries, limit))
from_cause (NoSum summed limit) = inr (inl (summed, limit))
from_cause (NoNumber taken) = inr (inr taken)

abbrev to_cause : ((ℕ × ℕ) ⊎ (ℕ × ℕ)) ⊎ ((ℕ × ℕ) ⊎ ℕ) → Cause
to_cause (inl (inl p)) = NoRow p.0 p.1
to_cause (inl (inr p)) = NoEntry p.0 p.1
to_cause (inr (inl p)) = NoSum p.0 p.1
to_cause (inr (inr n)) = NoNumber n

pub cause_back : (cause : Cause) → to_cause (from_cause cause) ≡ cause
cause_back (NoRow live limit) = refl
cause_back (NoEntry entries limit) = refl
cause_back (NoSum summed limit) = refl
cause_back (NoNumber taken) = refl

abbrev pub cause_code : Coded Cause
cause_code =
    code_by (((ℕ × ℕ) ⊎ (ℕ × ℕ)) ⊎ ((ℕ × ℕ) ⊎ ℕ)) (coded⊎ (coded⊎ (coded× coded_ℕ coded_ℕ) (coded× coded_ℕ coded_ℕ)) (coded⊎ (coded× coded_ℕ coded_ℕ) coded_ℕ))
    from_cause to_cause cause_back

abbrev from_placed : Placed → ℕ ⊎ Cause
from_placed (Taken number) = inl number
from_placed (Dropped cause) = inr cause

abbrev to_placed : ℕ ⊎ Cause → Placed
to_placed (inl number) = Taken number
to_placed (inr cause) = Dropped cause

pub placed_back : (placed : Placed) → to_placed (from_placed placed) ≡ placed
placed_back (Taken number) = refl
placed_back (Dropped cause) = refl

abbrev pub placed_code : Coded Placed
placed_code = code_by (ℕ ⊎ Cause) (coded⊎ coded_ℕ cause_code) from_placed to_placed placed_back

abbrev pub dump_row_code : Coded DumpRow
dump_row_code =
    code_by (List ℕ × (ℕ × ℤ)) (coded× (coded_list coded_ℕ) (coded× coded_ℕ coded_ℤ)) (λ r. (r.key, (r.samples, r.amount)))
    (λ p. record { key = p.0; samples = p.1.0; amount = p.1.1 }) (λ _. refl)

abbrev from_event : Event → (Sample ⊎ Kind) ⊎ ((Kind × List ℕ) ⊎ ℕ)
from_event (Submit s) = inl (inl s)
from_event (Dump kind) = inl (inr kind)
from_event (Delete kind pattern) = inr (inl (kind, pattern))
from_event Swap = inr (inr 0)
from_event Look = inr (inr 1)

abbrev to_event : (Sample ⊎ Kind) ⊎ ((Kind × List ℕ) ⊎ ℕ) → Event
to_event (inl (inl s)) = Submit s
to_event (inl (inr kind)) = Dump kind
to_event (inr (inl p)) = Delete p.0 p.1
to_event (inr (inr zero)) = Swap
to_event (inr (inr (suc n))) = Look

pub event_back : (event : Event) → to_event (from_event event) ≡ event
event_back (Submit s) = refl
event_back (Dump kind) = refl
event_back (Delete kind pattern) = refl
event_back Swap = refl
event_back Look = refl

abbrev pub event_code : Coded Event
event_code = code_by ((Sample ⊎ Kind) ⊎ ((Kind × List ℕ) ⊎ ℕ)) (coded⊎ (coded⊎ sample_code kind_code) (coded⊎ (coded× kind_code (coded_list coded_ℕ)) coded_ℕ)) from_event to_event event_back

abbrev pub numbers_code : Coded Numbers
numbers_code =
    code_by (ℕ × (ℕ × (ℕ × (ℕ × (ℕ × ℕ))))) (coded× coded_ℕ (coded× coded_ℕ (coded× coded_ℕ (coded× coded_ℕ (coded× coded_ℕ coded_ℕ)))))
    (λ n. (n.rows, (n.held, (n.taken, (n.flushed, (n.deleted, n.dropped))))))
    (λ p. record { rows = p.0; held = p.1.0; taken = p.1.1.0; flushed = p.1.1.1.0; deleted = p.1.1.1.1.0; dropped = p.1.1.1.1.1 }) (λ _. refl)

abbrev from_reply : Reply → (Placed ⊎ Table) ⊎ ((List (List ℕ) × (ℕ × ℕ)) ⊎ (List DumpRow ⊎ Numbers))
from_reply (Answered placed) = inl (inl placed)
from_reply (Swapped table) = inl (inr table)
from_reply (Deleted keys rows samples) = inr (inl (keys, (rows, samples)))
from_reply (Dumped rows) = inr (inr (inl rows))
from_reply (Looked numbers) = inr (inr (inr numbers))

abbrev to_reply : (Placed ⊎ Table) ⊎ ((List (List ℕ) × (ℕ × ℕ)) ⊎ (List DumpRow ⊎ Numbers)) → Reply
to_reply (inl (inl placed)) = Answered placed
to_reply (inl (inr table)) = Swapped table
to_reply (inr (inl p)) = Deleted p.0 p.1.0 p.1.1
to_reply (inr (inr (inl rows))) = Dumped rows
to_reply (inr (inr (inr numbers))) = Looked numbers

pub reply_back : (reply : Reply) → to_reply (from_reply reply) ≡ reply
reply_back (Answered placed) = refl
reply_back (Swapped table) = refl
reply_back (Deleted keys rows samples) = refl
reply_back (Dumped rows) = refl
reply_back (Looked numbers) = refl

abbrev pub reply_code : Coded Reply
reply_code =
    code_by ((Placed ⊎ Table) ⊎ ((List (List ℕ) × (ℕ × ℕ)) ⊎ (List DumpRow ⊎ Numbers)))
    (coded⊎ (coded⊎ placed_code table_code) (coded⊎ (coded× (coded_list (coded_list coded_ℕ)) (coded× coded_ℕ coded_ℕ)) (coded⊎ (coded_list dump_row_code) numbers_code)))
    from_reply to_reply reply_back

abbrev pub act_code : Coded Act
act_code =
    code_by (ℕ × (Event × Reply)) (coded× coded_ℕ (coded× event_code reply_code)) (λ a. (a.who, (a.event, a.reply)))
    (λ p. record { who = p.0; event = p.1.0; reply = p.1.1 }) (λ _. refl)

abbrev pub state_code : Coded State
state_code =
    code_by (Rows × (ℕ × (ℕ × (ℕ × (ℕ × (ℕ × ℕ)))))) (coded× rows_code (coded× coded_ℕ (coded× coded_ℕ (coded× coded_ℕ (coded× coded_ℕ (coded× coded_ℕ coded_ℕ))))))
    (λ s. (s.live, (s.held, (s.listed, (s.taken, (s.flushed, (s.deleted, s.dropped)))))))
    (λ p. record { live = p.0; held = p.1.0; listed = p.1.1.0; taken = p.1.1.1.0; flushed = p.1.1.1.1.0; deleted = p.1.1.1.1.1.0; dropped = p.1.1.1.1.1.1 }) (λ _. refl)

abbrev pub limits_code : Coded Limits
limits_code =
    code_by (ℕ × (ℕ × Bool)) (coded× coded_ℕ (coded× coded_ℕ coded_bool)) (λ l. (l.rows, (l.entries, l.sums_on_arrival)))
    (λ p. record { rows = p.0; entries = p.1.0; sums_on_arrival = p.1.1 }) (λ _. refl)

abbrev pub policy_code : Coded Policy
policy_code =
    code_by (Bool × (Bool × (Bool × (Bool × ℕ)))) (coded× coded_bool (coded× coded_bool (coded× coded_bool (coded× coded_bool coded_ℕ))))
    (λ y. (y.counters, (y.timers, (y.gauges, (y.sets, y.max_ttl)))))
    (λ p. record { counters = p.0; timers = p.1.0; gauges = p.1.1.0; sets = p.1.1.1.0; max_ttl = p.1.1.1.1 }) (λ _. refl)
