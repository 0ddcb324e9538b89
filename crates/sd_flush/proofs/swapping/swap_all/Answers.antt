use Rattle.std.proofs.Common.{◌≡◌, ℕ, ◌+◌, ◌∷◌, [], ◌++◌, List, length, refl, sym, ap, subst, ◌∙◌, arith}
use Rattle.std.proofs.lemmas.List.{length_push}
use Rattle.sd_shard.specs.Spares.{Stock}
use Rattle.sd_model_shard.specs.Shard.{Swap, Swapped}
use Rattle.sd_epoch.specs.Table.{Listing, table_of}
use Rattle.sd_pool.specs.Pool.{own_at, shards_of}
use Rattle.sd_flush.specs.Swapping.{swap_at}
use Rattle.sd_flush.proofs.HomeLemmas.{AreHome, AreHome-push, disjoint_home}
use Rattle.sd_flush.proofs.SwapLemmas.{swaps_next}
use Rattle.sd_flush.proofs.swapping.swap_all.Goals as goal
use Rattle.sd_model_serve.proofs.Short.{swap_of}

pub loop-i-preserved : goal.loop-i-preserved
loop-i-preserved g c =
    let inv = c.loop-i.invariant in
    let swap = c.swap_one.ensures.swaps in
    let t = swap.table in
    let tables = c.loop-i.spares.swapped in
    let shards = shards_of c.args.pool.now in
    let is : c.swap_one.new.spares.swapped ≡ tables ++ t ∷ [] = ap (λ (s : Stock). s.swapped) swap.kept in
    let here : own_at c.swap_one.new.seat c.loop-i.i ≡ own_at c.loop-i.seat c.loop-i.i ++ swap_of (table_of t) ∷ [] =
    swap.act.own ∙ ap (λ (who : ℕ). own_at c.loop-i.seat c.loop-i.i ++ record { who = who; event = Swap; reply = Swapped (table_of t) } ∷ []) (inv.who ∙ c.requires.flusher) in
    record {
      seat = c.swap_one.ensures.seat;
      who = swap.act.who ∙ inv.who;
      done = λ j below.
          swaps_next (own_at c.args.seat.now) (own_at c.loop-i.seat) (own_at c.swap_one.new.seat) tables t c.loop-i.i inv.out inv.done (inv.left c.loop-i.i (omega arith)) here (λ k other. (swap.act.others k other).1) j below
          ∙ ap (λ (ts : List Listing). own_at c.args.seat.now j ++ swap_at ts j) (sym is);
      left = λ j past. (swap.act.others j (λ at. omega (arith, past, at))).1 ∙ inv.left j (omega (arith, past));
      out = ap length is ∙ length_push tables t ∙ ap (λ n. n + 1) inv.out;
      spare = omega (arith, inv.spare, swap.taken);
      home = subst (AreHome shards 0) (sym is) (AreHome-push shards 0 c.loop-i.i tables t (omega (arith, inv.out)) inv.home swap.own);
      kept = swap.kept ∙ ap (λ (s : Stock). record s { waiting = c.swap_one.new.spares.waiting; swapped = tables ++ t ∷ [] }) inv.kept ∙ ap (λ (ts : List Listing). record c.args.spares.now { waiting = c.swap_one.new.spares.waiting; swapped = ts }) (sym is);
    }

pub returns-clause-swaps : goal.returns-clause-swaps
returns-clause-swaps g c =
    let inv = c.loop-i.invariant in
    let at : c.loop-i.i ≡ shards_of c.args.pool.now = omega (arith, c.loop-i-test.false, c.loop-i.auto.i-end, c.shards-i-end.ensures) in
    record {
      added = λ j below. inv.done j (omega (arith, at, below));
      count = inv.out ∙ at;
      disjoint = disjoint_home (shards_of c.args.pool.now) 0 c.loop-i.spares.swapped inv.home;
      kept = inv.kept ∙ ap (λ (w : _). record c.args.spares.now { waiting = w; swapped = c.loop-i.spares.swapped }) (none c.loop-i.spares.waiting (omega (arith, inv.spare, at)));
    } where
      none : {X : Type 0} (xs : List X) → length xs ≡ 0 → xs ≡ []
      none [] h = refl
      none (x ∷ xs) h = absurd (omega (arith, h))
