-- A drill: the made script, executed with no fault by the settings of an empty file, with a count of bytes in Graphite's place.
use Rattle.std.specs.Prelude.{ℕ, min, List, [], ◌∷◌, ◌++◌, length, map, sum_by, codes, false, if◌then◌else◌}
use Rattle.sd_model_outside.specs.{Backend.{Graphite, each_of}, Outside.{Left, Number, Object, fresh, last_count}, Uses.{NotUsed, Written}}
use Rattle.sd_model_settings.specs.Settings.{default_settings, Settings}
use Rattle.sd_model_record.specs.Totals.{totals_text}
use Rattle.sd_model_replay.specs.{MadeScript.{made_commands}, Replay.{Played, deliveries, no_marks, targets_of, is_used}, AccountingTheorem.{totals_after, Seen}, Script.{ScriptCommand, Packet, Flush, Admin, script_text, end_word}}

-- a record executed with no fault
abbrev pub well : Settings → ScriptCommand → Played
well settings (Packet who moment datagram) = record { command = Packet who moment datagram; outcome = record { marks = no_marks; failed = map (λ t. false) (targets_of settings) } }
well settings (Flush ts) =
    record {
      command = Flush ts;
      outcome = record { marks = each_of (λ b. if is_used settings b then Written else NotUsed); failed = [] };
    }
well settings (Admin moment line) = record { command = Admin moment line; outcome = record { marks = no_marks; failed = [] } }

-- the records of n packets, executed with no fault by the settings of an empty file
unfoldable pub drilled : ℕ → List Played
drilled n = map (well default_settings) (made_commands n)

-- how many bytes the texts of records for Graphite have, up to the last count
abbrev pub bytes_counted : Settings → List Played → ℕ
bytes_counted settings played = min (sum_by (λ d. length d.text) (deliveries settings Graphite played)) last_count

-- what a drill of n packets writes to the output: the totals, and the count of Graphite's bytes
abbrev pub drill_text : ℕ → List ℕ
drill_text n = totals_text (totals_after default_settings (drilled n) ++ (codes "bytes", bytes_counted default_settings (drilled n)) ∷ [])

-- what is seen where a drill of n packets begins: the made script, backends that count their bytes, and no wires
abbrev pub drill_start : ℕ → Object → Seen
drill_start n output =
    record { script = fresh (Left (script_text (made_commands n) ++ end_word)); output = output; backs = λ b. fresh (Number 0); wires = [] }
