use Rattle.std.proofs.Common.{◌≡◌, ◌+◌, ◌++◌, List, [], Option, length, map, sym, ap, subst, ◌∙◌, arith}
use Rattle.std.specs.List.{range_with_len}
use Rattle.std.specs.Vec.{with_items}
use Rattle.std.proofs.lemmas.List.{length-append, length-map}
use Rattle.sd_rows.specs.declared.row.Row.{Row}
use Rattle.sd_model_shard.specs.Shard.{after_swap, table_of}
use Rattle.sd_law_shards.specs.Shards.{AtHome}
use Rattle.sd_law_shards.proofs.HomeLemmas.{AtHome-swap}
use Rattle.sd_epoch.specs.Table.{Listing, table_of as table_seen}
use Rattle.sd_batch.specs.Filing.{IsOpenFor}
use Rattle.sd_shard.specs.Shard.{Standing, state_of}
use Rattle.sd_shard.specs.Spares.{Stock}
use Rattle.sd_shards.specs.Shards.{Group}
use Rattle.sd_shards.specs.Standings.{state_in, limits_in, policy_in}
use Rattle.sd_shards.proofs.EachLemmas.{map-group, map-states}
use Rattle.sd_shards.proofs.HomeLemmas.{tables_disjoint}
use Rattle.sd_shards.proofs.InsideLemmas.{AreAlike-kept, AreKept-within}
use Rattle.sd_shards.proofs.shards.Shards.swap.Goals as goal

-- the tables that shards gave, where none were there before
given : (shards : List Standing) (before now : List Listing) → before ≡ [] → map table_seen now ≡ map table_seen before ++ map (λ s. table_of (state_of s)) shards
    → map table_seen now ≡ map (λ i. table_of (state_in shards i)) (range_with_len 0 (length shards))
given shards before now none tables =
    tables ∙ ap (λ (ts : List Listing). map table_seen ts ++ map (λ (s : Standing). table_of (state_of s)) shards) none ∙ sym (map-states shards table_of)

pub swap_all-requires-clause-fits : goal.swap_all-requires-clause-fits
swap_all-requires-clause-fits c = ap (λ (st : Stock). st.limits) c.reclaim.ensures ∙ c.self.invariant.limits ∙ ap limits_in (sym c.deref_mut.ensures.value)

pub invariant_of-self : goal.invariant_of-self
invariant_of-self c =
    let s = c.self.inside in
    let are = c.self.invariant in
    let old = c.deref_mut.result.now in
    let new = c.swap_all.new.shards in
    let policy = policy_in old in
    let kept =
    AreKept-within s are old new c.deref_mut.ensures.value (omega arith) (omega arith) c.swap_all.ensures.bounds
    (λ i. after_swap policy (state_in old i)) c.swap_all.ensures.states (AtHome-swap policy (length old) (state_in old)) in
    let limits : limits_in old ≡ limits_in (with_items s.shards new).items = ap limits_in c.deref_mut.ensures.value ∙ sym kept.limits in
    let places : Listing → List (Option Row) = λ t. t.places in
    let reclaimed : length c.reclaim.new.self.waiting ≡ length s.spares.swapped + length s.spares.waiting =
    ap (λ (st : Stock). length st.waiting) c.reclaim.ensures ∙ length-append (map places s.spares.swapped) s.spares.waiting
    ∙ ap (λ n. n + length s.spares.waiting) (length-map s.spares.swapped places) in
    let home : AtHome (length old) (state_in old) = subst (λ xs. AtHome (length xs) (state_in xs)) (sym c.deref_mut.ensures.value) are.home in
    record {
      some = are.some;
      few = are.few;
      bounds = kept.bounds;
      home = kept.home;
      limits = c.swap_all.ensures.limits ∙ ap (λ (st : Stock). st.limits) c.reclaim.ensures ∙ are.limits ∙ ap limits_in (sym c.deref_mut.ensures.value) ∙ limits;
      disjoint = tables_disjoint (length old) (state_in old) home c.swap_all.new.spares.swapped
          (given old c.reclaim.new.self.swapped c.swap_all.new.spares.swapped (ap (λ (st : Stock). st.swapped) c.reclaim.ensures) c.swap_all.ensures.tables);
      tables = omega (arith, reclaimed, ap (λ (st : Stock). length st.swapped) c.reclaim.ensures, c.swap_all.ensures.left, c.swap_all.ensures.len, are.tables);
      room = omega (arith, c.swap_all.ensures.room, ap (λ (st : Stock). st.room) c.reclaim.ensures, are.room);
      batch = subst (λ n. IsOpenFor n s.batch) (sym kept.count) are.batch;
    }

pub returns-clause-swapped : goal.returns-clause-swapped
returns-clause-swapped c =
    let old = c.deref_mut.result.now in
    given old c.reclaim.new.self.swapped c.swap_all.new.spares.swapped (ap (λ (st : Stock). st.swapped) c.reclaim.ensures) c.swap_all.ensures.tables
    ∙ sym (map-group c.args.self.now old (ap (λ (g : Group). g.states) (sym c.self.view_is) ∙ ap (map state_of) (sym c.deref_mut.ensures.value)) table_of)

pub returns-clause-alike : goal.returns-clause-alike
returns-clause-alike c =
    let s = c.self.inside in
    let old = c.deref_mut.result.now in
    let new = c.swap_all.new.shards in
    let policy = policy_in old in
    AreAlike-kept c.args.self.now s (record { shards = with_items s.shards new; spares = c.swap_all.new.spares; batch = s.batch }) c.self.view_is
    (AreKept-within s c.self.invariant old new c.deref_mut.ensures.value (omega arith) (omega arith) c.swap_all.ensures.bounds
    (λ i. after_swap policy (state_in old i)) c.swap_all.ensures.states (AtHome-swap policy (length old) (state_in old)))
