use Rattle.std.proofs.Common.{◌≡◌, ◌<◌, ℕ, List, length, map}
use Rattle.sd_model_outside.specs.Outside.{Object, given}
use Rattle.sd_model_settings.specs.Settings as file
use Rattle.sd_model_record.specs.Desk.{Desk}
use Rattle.sd_model_replay.specs.Replay.{limits_of}
use Rattle.sd_model_outside.specs.Backend.{Backend}
use Rattle.sd_model_replay.specs.AccountingTheorem.{output_of}
use Rattle.sd_shards.specs.Shards.{Group, state_at}
use Rattle.sd_script.specs.Reading.{Reading, left}
use Rattle.sd_record.specs.Rows.{Room}
use Rattle.sd_replay.specs.Room.{HasRoom, HoldsRows}
use Rattle.sd_outside.specs.Backends.{back_of, uses}
use Rattle.sd_replay.proofs.PlayLemmas.{Progress, GoBy}
use Rattle.sd_replay.proofs.run.replay.Given as goal

-- what stands after so many turns
pub record Stands (settings : file.Settings) (script now : Object) (old new : Backend → Object) (had has : List Object) (given_first given_now : Object) (group : Group) (desk : Desk) (scratch_room : Room) (keys_room dump_room : ℕ) (reader : Reading) (turn : ℕ) : Type 0 where
  pub progress : Progress settings script.content (left reader now.content) old new had has (state_at group) desk reader.at turn
  pub written : given_now ≡ given (output_of settings progress.played) given_first
  pub some : 0 < settings.sizes.shards
  pub by : GoBy settings group
  pub room : HasRoom settings.sizes.shards (limits_of settings) scratch_room
  pub keys : HoldsRows settings.sizes.shards (limits_of settings) keys_room
  pub dump : HoldsRows settings.sizes.shards (limits_of settings) dump_room
  pub receivers : reader.receivers ≡ settings.sizes.receivers
  pub faults : now.faults ≡ script.faults
  pub place : now.opened_at ≡ script.opened_at

abbrev pub invariant-loop-turn : goal.invariant-loop-turn
invariant-loop-turn g l =
    Stands l.fn.settings (g.R.Faulty.seen l.fn.script) (g.R.Faulty.seen l.script) (back_of g.B.Faulty.seen l.fn.backs) (back_of g.B.Faulty.seen l.backs)
    (map g.L.Faulty.seen l.fn.wires) (map g.L.Faulty.seen l.wires) (g.O.Faulty.seen l.fn.output) (g.O.Faulty.seen l.output) l.shards l.desk l.scratch.room l.keys.room l.dump.room l.reader l.turn
    × ((b : Backend) → uses l.backs b ≡ uses l.fn.backs b)
    × (length l.wires ≡ length l.fn.wires)
