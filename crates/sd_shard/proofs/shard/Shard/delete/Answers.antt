use Rattle.std.proofs.Common.{◌≡◌, ℕ, List, [], length, filter, map, sym, ap, subst, ◌∙◌, IsPermutation, append-nil, arith}
use Rattle.std.proofs.lemmas.List.{length-map}
use Rattle.std.proofs.lemmas.List.Sorted.{IsPermutation-refl, length_permutation}
use Rattle.sd_key.specs.Kind.{kind_of}
use Rattle.sd_model_shard.specs.Rows.{RowId, Kept, is_hit, keys_of, rows_taken_out}
use Rattle.sd_model_shard.specs.Shard.{after_delete, deletion_of}
use Rattle.sd_model_shard.proofs.ListedLemmas.{reported_permutes}
use Rattle.sd_epoch.specs.Table.{live_of}
use Rattle.sd_epoch.proofs.ForgetLemmas.{StandApart-rows}
use Rattle.sd_shard.specs.ShardInside.{standing_of}
use Rattle.sd_shard.specs.Shard.{Standing, state_of, IsDeletion}
use Rattle.sd_shard.proofs.AbsentLemmas.{no_keys, no_samples, none_hit, state_stays}
use Rattle.sd_shard.proofs.RoomLemmas.{listed_few}
use Rattle.sd_shard.proofs.shard.Shard.delete.Goals as goal

pub invariant_of-self : goal.invariant_of-self
invariant_of-self c =
    let out = rows_taken_out (kind_of c.args.kind) c.args.pattern.now (live_of c.self.inside.table) in record {
      conserved = omega (arith, c.forget_rows-samples.ensures.held, c.self.invariant.conserved);
      summed = omega (arith, c.forget_rows-samples.ensures.held, c.forget_rows-samples.ensures.entries, c.forget_rows-samples.ensures.samples, listed_few out, c.self.invariant.summed);
      taken = c.self.invariant.taken;
      dropped = c.self.invariant.dropped;
    }

pub returns-clause-answer : goal.returns-clause-answer
returns-clause-answer c =
    let kind = kind_of c.args.kind in
    let pattern = c.args.pattern.now in
    let t = c.self.inside.table in
    let key : RowId × Kept → List ℕ = λ row. row.0.key in
    let hits = filter (λ (row : RowId × Kept). is_hit kind pattern row.0) t.listed in
    let reported : IsPermutation (map key hits) (keys_of (rows_taken_out kind pattern (live_of t))) =
    reported_permutes key (is_hit kind pattern) t.listed (StandApart-rows t.listed c.push_keys-rows.ensures.apart) in
    let count : c.push_keys-rows.result ≡ length (keys_of (rows_taken_out kind pattern (live_of t))) =
    omega (arith, c.push_keys-rows.ensures.count, length-map hits key, length_permutation (map key hits) (keys_of (rows_taken_out kind pattern (live_of t))) reported) in
    subst (λ (s : Standing). IsDeletion (deletion_of kind pattern (state_of s)) c.args.out.now.items c.push_keys-rows.new.out.items (record { rows = c.push_keys-rows.result; samples = c.forget_rows-samples.result }))
    c.self.view_is ((map key hits, c.push_keys-rows.ensures.keys, reported), count, c.forget_rows-samples.ensures.samples)

pub returns-then-names_no_row-clause-state : goal.returns-then-names_no_row-clause-state
returns-then-names_no_row-clause-state c =
    let none = c.names_no_row.ensures c.if-names_no_row.true in
    subst (λ (s : Standing). state_of s ≡ after_delete (kind_of c.args.kind) c.args.pattern.now (state_of s)) c.self.view_is
    (sym (state_stays (kind_of c.args.kind) c.args.pattern.now (state_of (standing_of c.self.inside)) none))

pub returns-then-names_no_row-clause-answer : goal.returns-then-names_no_row-clause-answer
returns-then-names_no_row-clause-answer c =
    let kind = kind_of c.args.kind in
    let pattern = c.args.pattern.now in
    let state = state_of (standing_of c.self.inside) in
    let none = c.names_no_row.ensures c.if-names_no_row.true in
    let keys = sym (no_keys kind pattern state none) in
    subst (λ (s : Standing). IsDeletion (deletion_of kind pattern (state_of s)) c.args.out.now.items c.args.out.now.items (record { rows = 0; samples = 0 })) c.self.view_is (
      ([], sym (append-nil c.args.out.now.items), subst (IsPermutation []) keys (IsPermutation-refl [])),
      ap length keys,
      sym (no_samples kind pattern state none),
    )

pub returns-then-rows-eq0-clause-state : goal.returns-then-rows-eq0-clause-state
returns-then-rows-eq0-clause-state c =
    let none = none_hit (kind_of c.args.kind) c.args.pattern.now c.self.inside.table.listed (sym c.push_keys-rows.ensures.count ∙ c.if-rows-eq0.true) in
    subst (λ (s : Standing). state_of s ≡ after_delete (kind_of c.args.kind) c.args.pattern.now (state_of s)) c.self.view_is
    (sym (state_stays (kind_of c.args.kind) c.args.pattern.now (state_of (standing_of c.self.inside)) none))

pub returns-then-rows-eq0-clause-answer : goal.returns-then-rows-eq0-clause-answer
returns-then-rows-eq0-clause-answer c =
    let kind = kind_of c.args.kind in
    let pattern = c.args.pattern.now in
    let t = c.self.inside.table in
    let key : RowId × Kept → List ℕ = λ row. row.0.key in
    let hits = filter (λ (row : RowId × Kept). is_hit kind pattern row.0) t.listed in
    let reported : IsPermutation (map key hits) (keys_of (rows_taken_out kind pattern (live_of t))) =
    reported_permutes key (is_hit kind pattern) t.listed (StandApart-rows t.listed c.push_keys-rows.ensures.apart) in
    let state = state_of (standing_of c.self.inside) in
    let none = none_hit kind pattern t.listed (sym c.push_keys-rows.ensures.count ∙ c.if-rows-eq0.true) in
    subst (λ (s : Standing). IsDeletion (deletion_of kind pattern (state_of s)) c.args.out.now.items c.push_keys-rows.new.out.items (record { rows = 0; samples = 0 })) c.self.view_is
    ((map key hits, c.push_keys-rows.ensures.keys, reported), sym (ap length (no_keys kind pattern state none)), sym (no_samples kind pattern state none))
