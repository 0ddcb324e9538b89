use Rattle.std.proofs.Common.{List, length, map, sym, ap, subst, ◌∙◌}
use Rattle.std.specs.Prelude.{flat_map}
use Rattle.sd_model_shard.specs.Shard.{State, Dumped}
use Rattle.sd_model_shard.specs.Rows.{DumpRow, dump_of}
use Rattle.sd_law_shards.specs.Shards.{AtHome}
use Rattle.sd_key.specs.Kind.{kind_of}
use Rattle.sd_shard.specs.Dump.{dump_row_of, rows_of}
use Rattle.sd_shard.specs.Shard.{Standing, state_of, Appends}
use Rattle.sd_shards.specs.Shards.{Group}
use Rattle.sd_shards.specs.Standings.{state_in}
use Rattle.sd_shards.proofs.EachLemmas.{map-group}
use Rattle.sd_shards.proofs.ReportedLemmas.{rows_sorted}
use Rattle.sd_shards.proofs.shards.Shards.dump.Goals as goal
use Rattle.sd_model_record.proofs.Short.{rows_reported}

pub returns-clause-rows : goal.returns-clause-rows
returns-clause-rows c =
    let old = c.deref.result.now in
    let kind = kind_of c.args.kind in
    let home : AtHome (length old) (state_in old) = subst (λ xs. AtHome (length xs) (state_in xs)) (sym c.deref.ensures.value) c.self.invariant.home in
    let reported = flat_map (λ (s : Standing). dump_of kind (state_of s).live) old in
    rows_sorted old home kind (rows_of c.dump_all.new.dump) (rows_of c.sort.new.self) (subst (λ (rs : List DumpRow). Appends reported rs (rows_of c.dump_all.new.dump)) (ap (map dump_row_of) c.clear.ensures.items) c.dump_all.ensures.rows) c.sort.ensures.permutation c.sort.ensures.sorted
    ∙ ap rows_reported (sym (map-group c.args.self.now old (ap (λ (g : Group). g.states) (sym c.self.view_is) ∙ ap (map state_of) (sym c.deref.ensures.value)) (λ (s : State). Dumped (dump_of kind s.live))))
