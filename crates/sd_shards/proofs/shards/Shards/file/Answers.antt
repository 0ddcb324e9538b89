use Rattle.std.proofs.Common.{◌≡◌, ℕ, ◌<◌, length, sym, ap, subst, ◌∙◌, arith}
use Rattle.std.specs.Prelude.{sum_by}
use Rattle.std.proofs.lemmas.List.{length-map}
use Rattle.sd_model_shard.specs.History.{dropped_in}
use Rattle.sd_model_replay.specs.Script.{Packet}
use Rattle.sd_model_replay.specs.Replay.{replies_to, states_after}
use Rattle.sd_law_shards.proofs.HomeLemmas.{AtHome-after}
use Rattle.sd_batch.specs.Batch.{Waiting}
use Rattle.sd_shard.specs.Shard.{state_of}
use Rattle.sd_shards.specs.Inside.{AreShards}
use Rattle.sd_shards.specs.Shards.{Group, group_bounds, state_at}
use Rattle.sd_shards.specs.Standings.{state_in, bounds_in}
use Rattle.sd_shards.proofs.InsideLemmas.{AreAlike-kept, AreKept, AreKept-by, AreShards-kept}
use Rattle.sd_shards.proofs.PlayedLemmas.{drops_are, filed_are}
use Rattle.sd_shards.proofs.shards.Shards.file.Goals as goal

-- the states of the shards in hand
states : (c : goal.After-file_datagram) (moment i : ℕ) → i < length c.self.inside.shards.items
    → state_in c.file_datagram.new.seat.items i ≡ states_after (bounds_in c.self.inside.shards.items) (state_in c.self.inside.shards.items) (Packet c.args.who.0 moment c.args.datagram.now) i
states c moment =
    let f = c.file_datagram.ensures.files in
    filed_are c.args.who.0 moment c.args.datagram.now c.self.inside.shards.items c.file_datagram.new.seat.items f.acts f.added f.asked f.whose

kept : (c : goal.After-file_datagram) → AreKept c.self.inside.shards.items c.file_datagram.new.seat.items
kept c =
    let old = c.self.inside.shards.items in
    let packet = Packet c.args.who.0 0 c.args.datagram.now in
    AreKept-by old c.file_datagram.new.seat.items (states_after (bounds_in old) (state_in old) packet)
    (omega (arith, c.self.invariant.some)) c.file_datagram.ensures.shards c.file_datagram.ensures.files.added.bounds (states c 0)
    (AtHome-after (bounds_in old) (state_in old) packet c.self.invariant.home)

pub invariant_of-self : goal.invariant_of-self
invariant_of-self c =
    subst (λ (b : Waiting). AreShards (record { shards = c.file_datagram.new.seat; spares = c.self.inside.spares; batch = b })) (sym c.file_datagram.ensures.batch)
    (AreShards-kept c.self.inside (record { shards = c.file_datagram.new.seat; spares = c.self.inside.spares; batch = c.self.inside.batch }) c.self.invariant (kept c) (omega (arith, c.file_datagram.ensures.shards)))

pub returns-clause-states : goal.returns-clause-states
returns-clause-states c moment =
    let old = c.self.inside.shards.items in
    let packet = Packet c.args.who.0 moment c.args.datagram.now in
    subst (λ (g : Group). (i : ℕ) → i < length g.states → state_in c.file_datagram.new.seat.items i ≡ states_after (group_bounds g) (state_at g) packet i) c.self.view_is
    (λ i below. states c moment i (omega (arith, below, length-map old state_of))
    ∙ ap (λ n. states_after (record (bounds_in old) { shards = n }) (state_in old) packet i) (sym (length-map old state_of)))

pub returns-clause-dropped : goal.returns-clause-dropped
returns-clause-dropped c moment =
    let old = c.self.inside.shards.items in
    let packet = Packet c.args.who.0 moment c.args.datagram.now in
    let f = c.file_datagram.ensures.files in
    subst (λ (g : Group). c.file_datagram.result.dropped ≡ sum_by dropped_in (replies_to (group_bounds g) (state_at g) packet)) c.self.view_is
    (f.dropped ∙ drops_are c.args.who.0 moment c.args.datagram.now old c.file_datagram.new.seat.items f.acts f.added f.asked f.whose
    ∙ ap (λ n. sum_by dropped_in (replies_to (record (bounds_in old) { shards = n }) (state_in old) packet)) (sym (length-map old state_of)))

pub returns-clause-alike : goal.returns-clause-alike
returns-clause-alike c = AreAlike-kept c.args.self.now c.self.inside (record { shards = c.file_datagram.new.seat; spares = c.self.inside.spares; batch = c.self.inside.batch }) c.self.view_is (kept c)
