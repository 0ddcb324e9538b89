use Rattle.std.proofs.Common.{List, ℕ, length, sym, ap, subst, ◌∙◌, arith}
use Rattle.sd_model_text.specs.Names.{shard}
use Rattle.sd_model_text.specs.Lines.{Sample}
use Rattle.sd_model_shard.specs.History.{part_of}
use Rattle.sd_batch.specs.Batch.{Waiting}
use Rattle.sd_batch.specs.Places.{AreBelow, at_places}
use Rattle.sd_batch.proofs.PlaceLemmas.{length-part, run_below, run_is, waiting_long}
use Rattle.sd_batch.proofs.batch.Batch.run.Goals as goal

pub new-requires : goal.new-requires
new-requires c =
    let b = c.self.inside in
    let asked = c.requires in
    let shards = ap (λ (w : Waiting). w.shards) c.self.view_is in
    subst (λ (ps : List ℕ). AreBelow (length c.deref.result.now) ps) (sym c.deref-2.ensures.value)
    (subst (λ (xs : List Sample). AreBelow (length xs) c.index.result.now.items) (sym c.deref.ensures.value)
    (run_below b c.self.invariant c.from.result (omega (arith, asked, shards, c.from.ensures)) c.index.result.now c.index.ensures))

is_run : goal.returns-clause-run
is_run c =
    let b = c.self.inside in
    let asked = c.requires in
    let shards = ap (λ (w : Waiting). w.shards) c.self.view_is in
    c.new.ensures
    ∙ (λ k. at_places (c.deref.ensures.value k) (c.deref-2.ensures.value k))
    ∙ run_is b c.self.invariant c.from.result (omega (arith, asked, shards, c.from.ensures)) c.index.result.now c.index.ensures
    ∙ ap (λ (w : Waiting). part_of (λ (s : Sample). shard s.key w.shards) c.from.result w.items) c.self.view_is
    ∙ ap (λ n. part_of (λ (s : Sample). shard s.key c.args.self.now.shards) n c.args.self.now.items) c.from.ensures

pub returns-clause-run : goal.returns-clause-run
returns-clause-run c = is_run c

pub returns-clause-few : goal.returns-clause-few
returns-clause-few c =
    let long = ap (λ (xs : List Sample). length xs) (is_run c) in
    let part = length-part c.args.self.now.shards c.args.home c.args.self.now.items in
    let waits = ap (λ (w : Waiting). length w.items) c.self.view_is in
    let first = waiting_long c.self.inside c.self.invariant in
    omega (arith, long, part, waits, first, c.self.invariant.waiting, c.self.invariant.few)
