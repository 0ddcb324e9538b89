use Rattle.std.proofs.Common.{◌≡◌, ◌≤◌, sym, subst}
use Rattle.std.specs.Prelude.{None}
use Rattle.sd_model_shard.specs.Shard.{refusal}
use Rattle.sd_model_shard.specs.Rows.{is_listed}
use Rattle.sd_epoch.specs.Limits.{AreLimits}
use Rattle.sd_shard.specs.Shard.{Standing, state_of}
use Rattle.sd_shard.specs.ShardInside.{standing_of}
use Rattle.sd_shard.proofs.RoomLemmas.{HasRoom, room_for_row, room_left, has_room}
use Rattle.sd_shard.proofs.shard.Shard.sample.Goals as goal
use Rattle.sd_shard.proofs.shard.Shard.sample.Goals.{In_default}

none : (c : In_default) → None ≡ refusal c.self.inside.table.limits (state_of (standing_of c.self.inside)) c.args.s.now
none c = subst (λ (s : Standing). None ≡ refusal s.table.limits (state_of s) c.args.s.now) (sym c.self.view_is) c.in_default.ensures.refusal

room : (c : In_default) → HasRoom c.self.inside.table.limits (state_of (standing_of c.self.inside)) (is_listed c.args.s.now.kind)
room c =
    let limits = c.self.inside.table.limits in
    let state = state_of (standing_of c.self.inside) in
    let ensured = c.in_default.ensures in
    has_room limits state limits.sums_on_arrival (is_listed c.args.s.now.kind) (room_left limits state c.args.s.now (none c))
    (subst (λ (s : Standing). s.table.entries ≤ s.table.held) (sym c.self.view_is) ensured.counted)
    (subst (λ (s : Standing). s.table.entries ≤ s.table.limits.entries) (sym c.self.view_is) ensured.within)
    (subst (λ (s : Standing). AreLimits s.table.limits) (sym c.self.view_is) ensured.range).few_entries
    c.self.invariant.summed

pub sample-requires-clause-row_room : goal.sample-requires-clause-row_room
sample-requires-clause-row_room c absent =
    room_for_row c.self.inside.table.limits (state_of (standing_of c.self.inside)) c.args.s.now (none (goal.at.sample-requires-clause-row_room c).In_default) absent

pub sample-requires-clause-entry_room : goal.sample-requires-clause-entry_room
sample-requires-clause-entry_room c listed = (room (goal.at.sample-requires-clause-entry_room c).In_default).entry listed

pub sample-requires-clause-room : goal.sample-requires-clause-room
sample-requires-clause-room c = (room (goal.at.sample-requires-clause-room c).In_default).held
