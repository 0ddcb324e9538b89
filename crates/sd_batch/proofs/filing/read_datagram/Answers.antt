use Rattle.std.proofs.Common.{refl, ap, ◌∙◌, arith}
use Rattle.sd_law_text.proofs.PieceCounts.{length-pieces}
use Rattle.sd_batch.specs.Batch.{Waiting}
use Rattle.sd_batch.specs.declared.filing.Filed.{Filed}
use Rattle.sd_batch.proofs.FilingLemmas.{all_read, bad_one, none_filed, piece_filed, reads_same, submitted_filed}
use Rattle.sd_batch.proofs.filing.read_datagram.Goals as goal

pub loop-piece-init : goal.loop-piece-init
loop-piece-init g c = record {
  ready = c.requires.ready;
  shards = refl;
  caller = refl;
  batch = refl;
  room = c.requires.batch.room;
  flaws = let none = ap (λ (f : Filed). f.bad) c.none-filed.ensures in omega (arith, none);
  few = let taken = ap (λ (f : Filed). f.taken) c.none-filed.ensures in let dropped = ap (λ (f : Filed). f.dropped) c.none-filed.ensures in omega (arith, taken, dropped);
  files = rw (c.new-lines.ensures, c.none-filed.ensures) (none_filed _ _ _ _ _ (g.met.G.Submit.adds_none c.args.group.now c.args.seat.now c.requires.ready));
}

pub note-requires : goal.note-requires
note-requires g c =
    let count = c.loop-piece.invariant.files.count in
    let flaws = c.loop-piece.invariant.flaws in
    let few = length-pieces c.args.datagram.now in
    record { few = (omega (arith, count, few, c.requires.datagram), omega (arith, count, flaws, few, c.requires.datagram)) }

pub submit_full-requires-clause-few : goal.submit_full-requires-clause-few
submit_full-requires-clause-few g c =
    let count = c.loop-piece.invariant.files.count in
    let fit = c.loop-piece.invariant.few in
    let few = length-pieces c.args.datagram.now in
    let same = c.note.ensures in
    rw same (omega (arith, count, fit, few, c.requires.datagram))

pub loop-piece-preserved : goal.loop-piece-preserved
loop-piece-preserved g c =
    let inv = c.loop-piece.invariant in
    let group = c.args.group.now in
    let full = c.submit_full.ensures in
    let read = c.in-Some.ensures.next in
    let files = rw (← c.note.ensures) at (piece_filed _ _ _ _ _ _ _ _ _ _ _ read inv.files) in
    let submits = rw (inv.shards, inv.caller) at full.submits in
    let same = reads_same _ _ _ _ _ read in
    record {
      ready = full.ready;
      shards = full.shards ∙ inv.shards;
      caller = full.caller ∙ inv.caller;
      batch =
          full.batch
          ∙ ap (λ (w : Waiting). record w { items = c.submit_full.new.batch.items })
          (same ∙ ap (λ (w : Waiting). record w { items = c.read.new.self.items }) inv.batch);
      room = let room = ap (λ (w : Waiting). w.room) full.batch in let low = full.room in omega (arith, room, low);
      flaws =
          let submits = full.submits in
          let lines = submits.lines in
          let bad = submits.bad in
          let noted = ap (λ (f : Filed). f.lines) c.note.ensures in
          let flawed = ap (λ (f : Filed). f.bad) c.note.ensures in
          let one = bad_one c.in-Some.piece in
          let flaws = inv.flaws in
          omega (arith, lines, bad, noted, flawed, one, flaws);
      few =
          let lines = full.submits.lines in
          let more = full.more in
          let noted = ap (λ (f : Filed). f.lines) c.note.ensures in
          let taken = ap (λ (f : Filed). f.taken) c.note.ensures in
          let dropped = ap (λ (f : Filed). f.dropped) c.note.ensures in
          let fit = inv.few in
          omega (arith, lines, more, noted, taken, dropped, fit);
      files = submitted_filed _ _ _ _ _ _ _ _ _ _ _ _ (g.met.G.Submit.adds_next group c.args.seat.now c.loop-piece.seat c.submit_full.new.seat) files submits;
    }

pub returns-clause-reads : goal.returns-clause-reads
returns-clause-reads g c =
    let end = c.in_default.ensures.end refl in
    let waits = ap (λ (w : Waiting). w.items) end.2 in
    rw waits (all_read _ _ _ _ _ _ _ _ c.requires.datagram end.0 c.loop-piece.invariant.few c.loop-piece.invariant.files)
