use Rattle.std.proofs.Common.{◌≡◌, ◌≢◌, ◌<◌, ℕ, ◌^◌, List, [], ◌∷◌, ◌++◌, map, take, drop, length, length-take, length-append, sym, subst, ap, ◌∙◌, refl, arith}
use Rattle.sd_model_outside.specs.Outside.{Object, Used, Rose, HasFailedBehind, given, put_back}
use Rattle.sd_repeater.specs.Sent.{AreSent}
use Rattle.sd_model_outside.specs.Uses.{AfterMark, FitsUse, AreRepeated, Sending, failures}
use Rattle.sd_model_outside.proofs.OutsideLemmas.{Reads-append, Reads-nil}
use Rattle.sd_model_outside.proofs.WriteLemmas.{given-given}
use Rattle.std.specs.Prelude.{sum_by, true, false, is_err, Result, Ok, Err, OnOk, OnErr}
use Rattle.sd_model_shard.specs.Shard.{table_of}
use Rattle.sd_model_outside.specs.Backend.{Backend, at_backend}
use Rattle.sd_model_record.specs.Backends.{text_of}
use Rattle.sd_model_record.specs.Desk.{Desk, Marks, new_desk}
use Rattle.sd_model_record.specs.Admin as admin
use Rattle.sd_model_settings.specs.Settings.{Plan, plan_of, names_of, Settings}
use Rattle.sd_model_replay.specs.Replay.{bounds_of, is_used, limits_of, targets_of, replies_to, states_after, Played, moment_of, desk_after_line, first_run, run_of}
use Rattle.sd_model_record.specs.Record.{Record, record_of}
use Rattle.sd_model_replay.specs.Script.{Packet, Flush, Admin, IsLegal, end_word, Faulty, Begins, IsUndecided}
use Rattle.sd_model_replay.specs.AccountingTheorem.{output_in, output_of, Seen}
use Rattle.sd_replay.specs.Replayed.{Replayed}
use Rattle.sd_shards.specs.Shards.{Group, AreAlike, group_bounds, numbers, state_at}
use Rattle.sd_model_shard.specs.History.{dropped_in}
use Rattle.sd_replay.specs.Ends.{end_of}
use Rattle.sd_desk.specs.Marks.{marks_of}
use Rattle.sd_plan.specs.Entries.{target_view}
use Rattle.sd_repeater.proofs.SentLemmas.{AreRepeated-one, length-sent}
use Rattle.std.proofs.lemmas.List.{map-append, length-map, take-append-drop, length-drop}
use Rattle.sd_script.specs.Flaws.{flaw_of}
use Rattle.sd_script.specs.Reading.{left}
use Rattle.sd_script.specs.Reads.{ReadsItem}
use Rattle.sd_replay.specs.Room.{Sizing, HasRoom, HoldsRows, sizing_of}
use Rattle.sd_replay.specs.RoomInside.{sizing_in}
use Rattle.sd_run.specs.Seen.{seen_of}
use Rattle.sd_outside.specs.Backends.{back_of, uses}
use Rattle.sd_admin.specs.Totals.{totals_view}
use Rattle.sd_outside.specs.declared.backend.Back.{Back}
use Rattle.sd_outside.specs.declared.backends.PerBackend.{PerBackend}
use Rattle.sd_script.specs.declared.reader.Item.{Item}
use Rattle.sd_model_replay.proofs.ReplayLemmas.{run_before, output_of-push}
use Rattle.sd_shard.specs.Keys.{KeyList}
use Rattle.sd_shard.specs.Dump.{DumpList}
use Rattle.sd_replay.specs.Start.{start_in}
use Rattle.sd_replay.proofs.PlayLemmas.{count_by, still_go, given-nil, nothing_played, completes, writes_part, replies_part, finds_flaw, fails_to_read, wears_out, desk_before, desk_at_end, packet_more, flush_more, line_more, line_played, line_replied, quiet}
use Rattle.sd_replay.proofs.run.replay.Goals as goal
use Rattle.sd_replay.proofs.run.replay.Goals.{in-Ok-finish, in-Err, in-Packet, in-Flush, in-Admin+else-is_err}
use Rattle.sd_model_replay.proofs.Short.{packet_tally}
use Rattle.sd_desk.specs.Steps.{with_tally, with_repeater_faults}

-- a backend is seen as the one of its name
back_seen : {R O B L : Type 0} (of_script : R → Object) (of_output : O → Object) (of_back : B → Object) (of_wire : L → Object) (script : R) (output : O) (backs : PerBackend (Back B)) (wires : List L) (back : Backend)
    → back_of of_back backs back ≡ (seen_of of_script of_output of_back of_wire script output backs wires).backs back
back_seen of_script of_output of_back of_wire script output backs wires back = refl

-- what was written where a write succeeded, and where it failed
written_of : {A E P : Type 0} (result : Result A E) → is_err result ≡ false → OnOk result P → P
written_of (Ok value) fine written = written
written_of (Err fault) fine written = absurd (cc)

failed_of : {A E P : Type 0} (result : Result A E) → is_err result ≡ true → OnErr result P → P
failed_of (Ok value) fails failed = absurd (cc)
failed_of (Err fault) fails failed = failed

-- the script was used since the replay began
used_since : (first now next : Object) → now.faults ≡ first.faults → now.opened_at ≡ first.opened_at → Used now next → Used first next
used_since first now next faults place used = record { faults = omega (arith, faults, used.faults); opened_at = used.opened_at ∙ place }

-- The desk begins anew where the first record stands next.
record IsBegun (turn : ℕ) (item : Item) (desk begun : Desk) : Type 0 where
  first : turn ≡ 0 → begun ≡ new_desk (start_in item)
  later : turn ≢ 0 → begun ≡ desk

-- the desk before a record
before_record : (settings : Settings) (played : List Played) (p : Played) (turn : ℕ) (item : Item) (desk now : Desk) → length played ≡ turn → start_in item ≡ moment_of p.command → IsBegun turn item desk now
    → desk ≡ (run_of (bounds_of settings) (first_run played) played).desk → now ≡ (run_before (bounds_of settings) played p).desk
before_record settings played p turn item desk now turns start b same =
    desk_before settings played p desk now same (λ none. b.first (sym turns ∙ none) ∙ ap new_desk start) (λ some. b.later (λ none. some (turns ∙ none)))

pub returns-in_default-clause-end : goal.returns-in_default-clause-end
returns-in_default-clause-end g c =
    let settings = c.args.settings.now in
    let stands = c.loop-turn.invariant.0 in
    let seen : _ → _ → _ → _ → Seen = seen_of g.R.Faulty.seen g.O.Faulty.seen g.B.Faulty.seen g.L.Faulty.seen in
    let shown : _ → _ → _ → _ → _ = back_seen g.R.Faulty.seen g.O.Faulty.seen g.B.Faulty.seen g.L.Faulty.seen in
    let old = seen c.args.script.now c.args.output.now c.args.backs.now c.args.wires.now in
    let before = shown c.args.script.now c.args.output.now c.args.backs.now c.args.wires.now in
    let new = seen c.next.new.script c.loop-turn.output c.loop-turn.backs c.loop-turn.wires in
    let now = shown c.next.new.script c.loop-turn.output c.loop-turn.backs c.loop-turn.wires in
    let pending = c.next.new.self.pending in
    fails_to_read settings old new _ c.loop-turn.shards _ _ _ _ _ before now stands.progress pending (sym c.in_default.ensures.stays.left)
    (used_since old.script (g.R.Faulty.seen c.loop-turn.script) new.script stands.faults stands.place c.in_default.ensures.used)
    c.loop-turn-test.true (subst (λ n. IsUndecided n pending) stands.receivers c.in_default.ensures.asked)
    (subst (λ n. Rose n new.script.faults) stands.faults c.in_default.ensures.failed) stands.written

pub returns-in-End-clause-end : goal.returns-in-End-clause-end
returns-in-End-clause-end g c =
    let settings = c.args.settings.now in
    let stands = c.loop-turn.invariant.0 in
    let seen : _ → _ → _ → _ → Seen = seen_of g.R.Faulty.seen g.O.Faulty.seen g.B.Faulty.seen g.L.Faulty.seen in
    let shown : _ → _ → _ → _ → _ = back_seen g.R.Faulty.seen g.O.Faulty.seen g.B.Faulty.seen g.L.Faulty.seen in
    let old = seen c.args.script.now c.args.output.now c.args.backs.now c.args.wires.now in
    let before = shown c.args.script.now c.args.output.now c.args.backs.now c.args.wires.now in
    let new = seen c.next.new.script c.finish.new.output c.loop-turn.backs c.loop-turn.wires in
    let now = shown c.next.new.script c.finish.new.output c.loop-turn.backs c.loop-turn.wires in
    let pending = c.next.new.self.pending in
    let content = new.script.content in
    let desk = c.begin.new.desk in
    let b = subst (λ item. IsBegun c.loop-turn.turn item c.loop-turn.desk desk) c.in-End.is (record { first = c.begin.ensures.first; later = c.begin.ensures.later }) in
    let same_desk = desk_at_end settings stands.progress.played c.loop-turn.desk desk stands.progress.same_desk (λ none. b.first (sym stands.progress.turns ∙ none)) (λ some. b.later (λ none. some (stands.progress.turns ∙ none))) in
    let reads = subst (λ item. ReadsItem item c.loop-turn.reader (g.R.Faulty.seen c.loop-turn.script).content c.next.new.self content) c.in-End.is c.in-Ok.ensures.item in
    let behind = Reads-append _ (put_back pending content) content end_word pending reads.stands.reads refl in
    let used = used_since old.script (g.R.Faulty.seen c.loop-turn.script) new.script stands.faults stands.place c.in-Ok.ensures.used in
    let faults : new.script.faults ≡ old.script.faults = c.in-Ok.ensures.steady ∙ stands.faults in
    let output = g.O.Faulty.seen c.loop-turn.output in
    elim c.match-finish.branch [
      | in-Ok-finish w ↦ subst (λ r. Replayed settings (end_of r) old new) (sym w.result-is)
          (completes settings old new _ c.loop-turn.shards _ _ _ _ _ before now stands.progress (end_word ++ pending) behind used faults (count_by settings c.loop-turn.shards stands.by) desk (totals_view w.in-Ok-finish.totals) pending output same_desk c.loop-turn-test.true refl
          w.in-Ok-finish.ensures.totals stands.written w.in-Ok-finish.ensures.written)
      | in-Err w ↦ subst (λ r. Replayed settings (end_of r) old new) (sym w.result-is)
          (writes_part settings old new _ c.loop-turn.shards _ _ _ _ _ before now stands.progress (end_word ++ pending) behind used faults (count_by settings c.loop-turn.shards stands.by) desk pending output same_desk c.loop-turn-test.true refl
          stands.written w.in-Err.ensures.failed)
    ]

pub returns-then-is_err-clause-end : goal.returns-then-is_err-clause-end
returns-then-is_err-clause-end g c =
    let settings = c.args.settings.now in
    let stands = c.loop-turn.invariant.0 in
    let seen : _ → _ → _ → _ → Seen = seen_of g.R.Faulty.seen g.O.Faulty.seen g.B.Faulty.seen g.L.Faulty.seen in
    let shown : _ → _ → _ → _ → _ = back_seen g.R.Faulty.seen g.O.Faulty.seen g.B.Faulty.seen g.L.Faulty.seen in
    let old = seen c.args.script.now c.args.output.now c.args.backs.now c.args.wires.now in
    let before = shown c.args.script.now c.args.output.now c.args.backs.now c.args.wires.now in
    let new = seen c.next.new.script c.execute-replied.new.output c.loop-turn.backs c.loop-turn.wires in
    let now = shown c.next.new.script c.execute-replied.new.output c.loop-turn.backs c.loop-turn.wires in
    let had = (g.R.Faulty.seen c.loop-turn.script).content in
    let has = new.script.content in
    let pending = c.next.new.self.pending in
    let moment = c.in-Admin.moment in
    let line = c.next.new.self.body in
    let p = line_played moment line in
    let read = subst (λ item. ReadsItem item c.loop-turn.reader had c.next.new.self has) c.in-Admin.is c.in-Ok.ensures.item in
    let desk = c.begin.new.desk in
    let same_desk = before_record settings stands.progress.played p c.loop-turn.turn c.in-Ok.item c.loop-turn.desk desk stands.progress.turns (ap start_in c.in-Admin.is) (record { first = c.begin.ensures.first; later = c.begin.ensures.later }) stands.progress.same_desk in
    let group = c.loop-turn.shards in
    let more = line_more settings stands.some _ _ (left c.next.new.self has) _ _ (back_of g.B.Faulty.seen c.loop-turn.backs) _ _ (map g.L.Faulty.seen c.loop-turn.wires) group c.execute-replied.new.shards _ desk c.execute-replied.new.desk _ c.next.new.self.at _ stands.progress stands.by c.execute-replied.ensures.alike
    moment line read.stands.reads (subst (λ k. IsLegal k (Admin moment line)) stands.receivers read.stands.begins.0) same_desk
    (λ i. c.execute-replied.ensures.states i ∙ ap (λ bytes. states_after (group_bounds group) (state_at group) (Admin moment bytes) i) c.body-in-Admin.ensures)
    (c.execute-replied.ensures.desk ∙ ap (λ bytes. desk_after_line desk (admin.command bytes)) c.body-in-Admin.ensures)
    read.at refl refl in
    let replied = line_replied settings stands.some _ _ (left c.next.new.self has) _ _ (back_of g.B.Faulty.seen c.loop-turn.backs) _ _ (map g.L.Faulty.seen c.loop-turn.wires) group c.execute-replied.new.shards _ desk c.execute-replied.new.desk _ c.next.new.self.at _ stands.progress stands.by c.execute-replied.ensures.alike moment line same_desk in
    let failed = failed_of c.execute-replied.result (sym c.is_err.ensures.value ∙ c.if-is_err.true) c.execute-replied.ensures.failed in
    replies_part settings old new _ c.execute-replied.new.shards _ _ _ _ _ before now more.0 pending refl
    (used_since old.script (g.R.Faulty.seen c.loop-turn.script) new.script stands.faults stands.place c.in-Ok.ensures.used)
    (c.in-Ok.ensures.steady ∙ stands.faults) stands.progress.played p (g.O.Faulty.seen c.loop-turn.output) more.1 (omega (arith, c.loop-turn-test.true, stands.progress.turns)) stands.written
    (subst (λ text. HasFailedBehind text (g.O.Faulty.seen c.loop-turn.output) new.output) (ap (λ bytes. output_in settings (record { shards = state_at group; desk = desk }) (Admin moment bytes)) c.body-in-Admin.ensures ∙ replied) failed)

pub returns-in-Fault-clause-end : goal.returns-in-Fault-clause-end
returns-in-Fault-clause-end g c =
    let settings = c.args.settings.now in
    let stands = c.loop-turn.invariant.0 in
    let seen : _ → _ → _ → _ → Seen = seen_of g.R.Faulty.seen g.O.Faulty.seen g.B.Faulty.seen g.L.Faulty.seen in
    let shown : _ → _ → _ → _ → _ = back_seen g.R.Faulty.seen g.O.Faulty.seen g.B.Faulty.seen g.L.Faulty.seen in
    let old = seen c.args.script.now c.args.output.now c.args.backs.now c.args.wires.now in
    let before = shown c.args.script.now c.args.output.now c.args.backs.now c.args.wires.now in
    let new = seen c.next.new.script c.loop-turn.output c.loop-turn.backs c.loop-turn.wires in
    let now = shown c.next.new.script c.loop-turn.output c.loop-turn.backs c.loop-turn.wires in
    let pending = c.next.new.self.pending in
    let content = new.script.content in
    let read = subst (λ item. ReadsItem item c.loop-turn.reader (g.R.Faulty.seen c.loop-turn.script).content c.next.new.self content) c.in-Fault.is c.in-Ok.ensures.item in
    let behind = read.stands.reads ∙ sym (Reads-nil (put_back pending content)) in
    let flaw = flaw_of c.in-Fault.flaw in
    subst (λ end. Replayed settings end old new) (sym c.fault_at.ensures)
    (finds_flaw settings old new _ c.loop-turn.shards _ _ _ _ _ before now stands.progress pending behind
    (used_since old.script (g.R.Faulty.seen c.loop-turn.script) new.script stands.faults stands.place c.in-Ok.ensures.used)
    (c.in-Ok.ensures.steady ∙ stands.faults) flaw c.at.result (c.at.ensures ∙ read.at) c.loop-turn-test.true
    (subst (λ n. Begins n (Faulty flaw) pending content) stands.receivers read.stands.begins) stands.written)

pub returns-clause-end : goal.returns-clause-end
returns-clause-end g c =
    let settings = c.args.settings.now in
    let stands = c.loop-turn.invariant.0 in
    let seen : _ → _ → _ → _ → Seen = seen_of g.R.Faulty.seen g.O.Faulty.seen g.B.Faulty.seen g.L.Faulty.seen in
    let shown : _ → _ → _ → _ → _ = back_seen g.R.Faulty.seen g.O.Faulty.seen g.B.Faulty.seen g.L.Faulty.seen in
    let old = seen c.args.script.now c.args.output.now c.args.backs.now c.args.wires.now in
    let before = shown c.args.script.now c.args.output.now c.args.backs.now c.args.wires.now in
    let new = seen c.loop-turn.script c.loop-turn.output c.loop-turn.backs c.loop-turn.wires in
    let now = shown c.loop-turn.script c.loop-turn.output c.loop-turn.backs c.loop-turn.wires in
    wears_out settings old new _ c.loop-turn.shards _ _ _ _ _ before now stands.progress c.loop-turn.reader.pending refl
    (record { faults = omega (arith, stands.faults); opened_at = stands.place }) stands.faults (2 ^ 62) refl (omega arith) stands.written

pub loop-turn-init : goal.loop-turn-init
unfolding nothing_played
loop-turn-init g c =
    let fresh = c.room.invariant in
    let settings = c.args.settings.now in
    let opened : sizing_in c.room.inside ≡ sizing_of settings = c.room.view_is ∙ c.requires.room in
    let limits = ap (λ (s : Sizing). s.bounds.limits) opened in
    let shards = ap (λ (s : Sizing). s.bounds.shards) opened in
    let content = (g.R.Faulty.seen c.args.script.now).content in
    let backs = back_of g.B.Faulty.seen c.args.backs.now in
    let wires = map g.L.Faulty.seen c.args.wires.now in
    let group = c.room.inside.shards in
    let at = c.room.inside.reader.at in (
      record {
        progress = nothing_played settings content (left c.room.inside.reader content) backs wires (state_at group) c.new-desk.result at (Reads-nil content ∙ ap (put_back []) (Reads-nil content ∙ ap (λ pending. put_back pending content) (sym fresh.pending))) (λ t i. fresh.states i t) c.new-desk.ensures fresh.start;
        written = sym (given-nil (g.O.Faulty.seen c.args.output.now) (g.met.O.Sink.number_fits c.args.output.now));
        some = subst (λ n. 0 < n) shards fresh.some;
        by = ap (λ (s : Sizing). s.bounds) opened;
        room = subst (λ n. HasRoom n (limits_of settings) c.room.inside.scratch.room) shards (subst (λ most. HasRoom (length group.states) most c.room.inside.scratch.room) limits fresh.scratch);
        keys = subst (λ n. HoldsRows n (limits_of settings) c.room.inside.keys.room) shards (subst (λ most. HoldsRows (length group.states) most c.room.inside.keys.room) limits fresh.keys);
        dump = subst (λ n. HoldsRows n (limits_of settings) c.room.inside.dump.room) shards (subst (λ most. HoldsRows (length group.states) most c.room.inside.dump.room) limits fresh.dump);
        receivers = ap (λ (s : Sizing). s.receivers) opened;
        faults = refl;
        place = refl;
      },
      (λ b. refl),
      refl,
    )

pub play_packet-requires-clause-wires : goal.play_packet-requires-clause-wires
play_packet-requires-clause-wires g c = omega (arith, length-take (length c.targets_of-targets.result.now) c.loop-turn.wires, c.targets_of-targets.ensures.few)

pub loop-turn-preserved : goal.loop-turn-preserved
loop-turn-preserved g c =
    let settings = c.args.settings.now in
    let stands = c.loop-turn.invariant.0 in
    let group = c.loop-turn.shards in
    let had = (g.R.Faulty.seen c.loop-turn.script).content in
    let has = (g.R.Faulty.seen c.next.new.script).content in
    let reads : Item → Type 0 = λ item. ReadsItem item c.loop-turn.reader had c.next.new.self has in
    let faults = c.in-Ok.ensures.steady ∙ stands.faults in
    let place = c.in-Ok.ensures.used.opened_at ∙ stands.place in
    let begun_desk = c.begin.new.desk in
    let b : IsBegun c.loop-turn.turn c.in-Ok.item c.loop-turn.desk c.begin.new.desk = record { first = c.begin.ensures.first; later = c.begin.ensures.later } in
    let played = stands.progress.played in
    let first = g.O.Faulty.seen c.args.output.now in
    elim c.match-item.branch [
      | in-Packet w ↦
          let read = subst reads w.in-Packet.is c.in-Ok.ensures.item in
          let who = w.in-Packet.who in
          let moment = w.in-Packet.moment in
          let datagram = c.next.new.self.body in
          let n = length c.targets_of-targets.result.now in
          let wires = c.loop-turn.wires in
          let sent_on = w.play_packet.new.wires in
          let failed = w.play_packet.ensures.played.failed in
          let after : c.match-item.wires ≡ sent_on ++ drop n wires = w.wires-is in
          let behind = map g.L.Faulty.seen (drop n wires) in
          let sends : AreSent datagram failed (map g.L.Faulty.seen (take n wires)) (map g.L.Faulty.seen sent_on) =
          subst (λ bytes. AreSent bytes failed (map g.L.Faulty.seen (take n wires)) (map g.L.Faulty.seen sent_on)) w.body.ensures w.play_packet.ensures.played.sends in
          let sending : Sending = record { packet = datagram; failed = failed } in
          let repeated : AreRepeated (sending ∷ []) (map g.L.Faulty.seen wires) (map g.L.Faulty.seen c.match-item.wires) =
          subst (λ ws. AreRepeated (sending ∷ []) ws (map g.L.Faulty.seen c.match-item.wires)) (sym (map-append g.L.Faulty.seen (take n wires) (drop n wires)) ∙ ap (map g.L.Faulty.seen) (take-append-drop n wires))
          (subst (λ ws. AreRepeated (sending ∷ []) (map g.L.Faulty.seen (take n wires) ++ behind) ws) (sym (ap (map g.L.Faulty.seen) after ∙ map-append g.L.Faulty.seen sent_on (drop n wires)))
          (AreRepeated-one datagram failed _ _ behind sends)) in
          let count : length failed ≡ length (targets_of settings) =
          omega (arith, length-sent datagram failed _ _ sends, length-map (take n wires) g.L.Faulty.seen, length-take n wires, length-map c.targets_of-targets.result.now target_view, ap length c.targets_of-targets.ensures.targets, c.requires.wires, c.loop-turn.invariant.2) in
          let alike = subst (AreAlike group) (sym w.shards-is) w.play_packet.ensures.alike in
          let more = packet_more settings stands.some _ _ (left c.next.new.self has) _ _ (back_of g.B.Faulty.seen c.match-item.backs) _ _ (map g.L.Faulty.seen c.match-item.wires) group c.match-item.shards _ begun_desk c.match-item.desk _ c.next.new.self.at _ stands.progress stands.by alike
          who moment datagram failed read.stands.reads (subst (λ k. IsLegal k (Packet who moment datagram)) stands.receivers read.stands.begins.0)
          (before_record settings played _ c.loop-turn.turn c.in-Ok.item c.loop-turn.desk begun_desk stands.progress.turns (ap start_in w.in-Packet.is) b stands.progress.same_desk) count repeated
          (λ i below. ap (λ (gr : Group). state_at gr i) w.shards-is ∙ w.play_packet.ensures.states i below ∙ ap (λ bytes. states_after (group_bounds group) (state_at group) (Packet who moment bytes) i) w.body.ensures)
          (w.desk-is ∙ w.play_packet.ensures.played.counted ∙ ap (λ bytes. with_repeater_faults (with_tally begun_desk (packet_tally bytes (sum_by dropped_in (replies_to (group_bounds group) (state_at group) (Packet who moment bytes)))) moment) (failures failed)) w.body.ensures)
          read.at (ap (back_of g.B.Faulty.seen) w.backs-is) in (
            record {
              progress = more.0;
              written = ap g.O.Faulty.seen w.output-is ∙ stands.written ∙ ap (λ text. given text first) (sym (ap (output_of settings) more.1 ∙ quiet settings played _ refl));
              some = stands.some;
              by = still_go settings group c.match-item.shards stands.by alike;
              room = subst (λ s. HasRoom settings.sizes.shards (limits_of settings) s.room) (sym w.scratch-is) stands.room;
              keys = subst (λ (s : KeyList). HoldsRows settings.sizes.shards (limits_of settings) s.room) (sym w.keys-is) stands.keys;
              dump = subst (λ (s : DumpList). HoldsRows settings.sizes.shards (limits_of settings) s.room) (sym w.dump-is) stands.dump;
              receivers = read.receivers ∙ stands.receivers;
              faults = faults;
              place = place;
            },
            (λ b. ap (λ (bs : PerBackend (Back _)). uses bs b) w.backs-is ∙ c.loop-turn.invariant.1 b),
            omega (arith, ap length after, length-append sent_on (drop n wires), length-drop n wires, c.loop-turn.invariant.2),
          )
      | in-Flush w ↦
          let read = subst reads w.in-Flush.is c.in-Ok.ensures.item in
          let ts = w.in-Flush.ts in
          let old = c.loop-turn.backs in
          let new = w.flush.new.backs in
          let marks = marks_of w.flush.result in
          let rec : Plan → Record = λ plan. record_of plan (map (λ i. table_of (state_at group i)) (numbers group)) begun_desk.tally ts in
          let fit : (back : Backend) → FitsUse (is_used settings back) (at_backend marks back) = λ back. subst (λ used. FitsUse used (at_backend marks back)) (c.loop-turn.invariant.1 back ∙ c.requires.uses back) (w.flush.ensures.gives.used back) in
          let after : (back : Backend) → AfterMark (at_backend marks back) (text_of (names_of settings) back (rec (plan_of settings))) (back_of g.B.Faulty.seen old back) (back_of g.B.Faulty.seen new back) =
          λ back. subst (λ names. AfterMark (at_backend marks back) (text_of names back (rec (plan_of settings))) (back_of g.B.Faulty.seen old back) (back_of g.B.Faulty.seen new back)) c.of-names.ensures
          (subst (λ plan. AfterMark (at_backend marks back) (text_of c.of-names.result back (rec plan)) (back_of g.B.Faulty.seen old back) (back_of g.B.Faulty.seen new back)) w.plan.ensures (w.flush.ensures.gives.delivered back)) in
          let alike = subst (AreAlike group) (sym w.shards-is) w.flush.ensures.alike in
          let more = flush_more settings stands.some _ _ (left c.next.new.self has) _ _ (back_of g.B.Faulty.seen c.match-item.backs) _ _ (map g.L.Faulty.seen c.match-item.wires) group c.match-item.shards _ begun_desk c.match-item.desk _ c.next.new.self.at _ stands.progress stands.by alike
          ts marks read.stands.reads (subst (λ k. IsLegal k (Flush ts)) stands.receivers read.stands.begins.0)
          (before_record settings played _ c.loop-turn.turn c.in-Ok.item c.loop-turn.desk begun_desk stands.progress.turns (ap start_in w.in-Flush.is) b stands.progress.same_desk) fit
          (subst (λ (f : Backend → Object). (back : Backend) → AfterMark (at_backend marks back) (text_of (names_of settings) back (rec (plan_of settings))) (back_of g.B.Faulty.seen old back) (f back)) (ap (back_of g.B.Faulty.seen) (sym w.backs-is)) after)
          (λ i below. ap (λ (gr : Group). state_at gr i) w.shards-is ∙ w.flush.ensures.states i below)
          (w.desk-is ∙ w.flush.ensures.desk) read.at (ap (map g.L.Faulty.seen) w.wires-is) in (
            record {
              progress = more.0;
              written = ap g.O.Faulty.seen w.output-is ∙ stands.written ∙ ap (λ text. given text first) (sym (ap (output_of settings) more.1 ∙ quiet settings played _ refl));
              some = stands.some;
              by = still_go settings group c.match-item.shards stands.by alike;
              room = subst (λ s. HasRoom settings.sizes.shards (limits_of settings) s.room) (sym w.scratch-is) (subst (HasRoom settings.sizes.shards (limits_of settings)) (sym w.flush.ensures.room) stands.room);
              keys = subst (λ (s : KeyList). HoldsRows settings.sizes.shards (limits_of settings) s.room) (sym w.keys-is) stands.keys;
              dump = subst (λ (s : DumpList). HoldsRows settings.sizes.shards (limits_of settings) s.room) (sym w.dump-is) stands.dump;
              receivers = read.receivers ∙ stands.receivers;
              faults = faults;
              place = place;
            },
            (λ b. ap (λ (bs : PerBackend (Back _)). uses bs b) w.backs-is ∙ w.flush.ensures.gives.same_use b ∙ c.loop-turn.invariant.1 b),
            ap length w.wires-is ∙ c.loop-turn.invariant.2,
          )
      | in-Admin+else-is_err w ↦
          let read = subst reads w.in-Admin.is c.in-Ok.ensures.item in
          let moment = w.in-Admin.moment in
          let line = c.next.new.self.body in
          let p = line_played moment line in
          let same_desk = before_record settings played p c.loop-turn.turn c.in-Ok.item c.loop-turn.desk begun_desk stands.progress.turns (ap start_in w.in-Admin.is) b stands.progress.same_desk in
          let alike = subst (AreAlike group) (sym w.shards-is) w.execute-replied.ensures.alike in
          let more = line_more settings stands.some _ _ (left c.next.new.self has) _ _ (back_of g.B.Faulty.seen c.match-item.backs) _ _ (map g.L.Faulty.seen c.match-item.wires) group c.match-item.shards _ begun_desk c.match-item.desk _ c.next.new.self.at _ stands.progress stands.by alike
          moment line read.stands.reads (subst (λ k. IsLegal k (Admin moment line)) stands.receivers read.stands.begins.0) same_desk
          (λ i. ap (λ (gr : Group). state_at gr i) w.shards-is ∙ w.execute-replied.ensures.states i ∙ ap (λ bytes. states_after (group_bounds group) (state_at group) (Admin moment bytes) i) w.body-in-Admin.ensures)
          (w.desk-is ∙ w.execute-replied.ensures.desk ∙ ap (λ bytes. desk_after_line begun_desk (admin.command bytes)) w.body-in-Admin.ensures)
          read.at (ap (back_of g.B.Faulty.seen) w.backs-is) (ap (map g.L.Faulty.seen) w.wires-is) in
          let replied = line_replied settings stands.some _ _ (left c.next.new.self has) _ _ (back_of g.B.Faulty.seen c.match-item.backs) _ _ (map g.L.Faulty.seen c.match-item.wires) group c.match-item.shards _ begun_desk c.match-item.desk _ c.next.new.self.at _ stands.progress stands.by alike moment line same_desk in
          let content = written_of w.execute-replied.result (sym w.is_err.ensures.value ∙ w.if-is_err.false) w.execute-replied.ensures.written in
          let output = g.O.Faulty.seen c.loop-turn.output in
          let text = output_in settings (run_before (bounds_of settings) played p) (Admin moment line) in (
            record {
              progress = more.0;
              written = ap g.O.Faulty.seen w.output-is ∙ content
                  ∙ ap (λ bytes. given (output_in settings (record { shards = state_at group; desk = begun_desk }) (Admin moment bytes)) output) w.body-in-Admin.ensures
                  ∙ ap (λ t. given t output) replied ∙ ap (given text) stands.written ∙ given-given (output_of settings played) text first
                  ∙ ap (λ t. given t first) (sym (ap (output_of settings) more.1 ∙ output_of-push settings played p));
              some = stands.some;
              by = still_go settings group c.match-item.shards stands.by alike;
              room = subst (λ s. HasRoom settings.sizes.shards (limits_of settings) s.room) (sym w.scratch-is) stands.room;
              keys = subst (HoldsRows settings.sizes.shards (limits_of settings)) (sym (ap (λ (s : KeyList). s.room) w.keys-is ∙ w.execute-replied.ensures.keys)) stands.keys;
              dump = subst (HoldsRows settings.sizes.shards (limits_of settings)) (sym (ap (λ (s : DumpList). s.room) w.dump-is ∙ w.execute-replied.ensures.dump)) stands.dump;
              receivers = read.receivers ∙ stands.receivers;
              faults = faults;
              place = place;
            },
            (λ b. ap (λ (bs : PerBackend (Back _)). uses bs b) w.backs-is ∙ c.loop-turn.invariant.1 b),
            ap length w.wires-is ∙ c.loop-turn.invariant.2,
          )
    ]
