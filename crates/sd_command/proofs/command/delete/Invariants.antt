use Rattle.std.proofs.Common.{◌≡◌, ◌≤◌, ℕ, ◌-◌, length, take, map}
use Rattle.sd_admin.specs.Words.{names_of}
use Rattle.sd_model_record.specs.Replies.{names_replied, replies_text}
use Rattle.sd_model_shard.specs.Shard.{Delete}
use Rattle.sd_key.specs.Kind.{kind_of}
use Rattle.sd_shards.specs.Shards.{AreAlike, state_at}
use Rattle.sd_admin.specs.Command.{command_view}
use Rattle.sd_command.specs.Commanded.{IsWritten, deleted, reported_of}
use Rattle.sd_command.proofs.command.delete.Given as goal

abbrev pub invariant-loop-name : goal.invariant-loop-name
invariant-loop-name g l =
    let names = names_of (command_view l.names) in
    let answers = reported_of l.fn.shards (map (Delete (kind_of l.kind)) names) in
    (l.i ≤ length names)
    × ((k : ℕ) → state_at l.shards k ≡ deleted (kind_of l.kind) (state_at l.fn.shards k) (take l.i names))
    × IsWritten (replies_text (names_replied answers (take l.i names))) l.written (g.O.Faulty.seen l.fn.output) (g.O.Faulty.seen l.output)
    × AreAlike l.fn.shards l.shards
    × (l.keys.room ≡ l.fn.keys.room)

abbrev pub decreases-loop-name : goal.decreases-loop-name
decreases-loop-name g l = length (names_of (command_view l.names)) - l.i
